use Rattle.std.proofs.Common.{◌≡◌, ◌-◌, ◌++◌, ◌∷◌, [], List, refl, ap, sym, ◌∙◌, subst, append_assoc}
use Rattle.level_terms.specs.Reading.{read}
use Rattle.beta_fragment.specs.Moves.{putting}
use Rattle.beta_fragment.specs.inside.Work.{Steps}
use Rattle.beta_fragment.specs.declared.renaming.Task.{Task}
use Rattle.beta_fragment.specs.declared.renaming.Task.TheVariants.{Visit, Lam}
use Rattle.level_terms.proofs.ReadLemmas.{valid-below}
use Rattle.beta_fragment.proofs.MoveLemmas.{node-before}
use Rattle.beta_fragment.proofs.PutWork.{can-put, put-lam-leads, put-lam-falls}
use Rattle.beta_fragment.proofs.WorkLemmas.{steps-more}
use Rattle.beta_fragment.proofs.putting.put_at_lam.Goals as goal

pub returns : goal.returns
returns c =
    let pushed : c.push-2.new.self.items ≡ c.args.work.now.items ++ (Lam (c.args.depth - 1) ∷ Visit c.args.body c.args.base ∷ []) =
    c.in_ok-push-2.ensures.items
    ∙ ap (λ (ws : List Task). ws ++ Visit c.args.body c.args.base ∷ []) c.in_ok-push.ensures.items
    ∙ append_assoc c.args.work.now.items (Lam (c.args.depth - 1) ∷ []) (Visit c.args.body c.args.base ∷ []) in
    record {
      steps = λ done.
          subst (λ (ws : List Task). Steps (putting (read c.args.heap.now c.args.put.index) c.args.level) (record { heap = c.args.heap.now; work = c.args.work.now.items ++ Visit c.args.node c.args.base ∷ []; done = done }) (record { heap = c.args.heap.now; work = ws; done = done })) (sym pushed)
          (steps-more (putting (read c.args.heap.now c.args.put.index) c.args.level) c.args.heap.now c.args.work.now.items (Lam (c.args.depth - 1) ∷ Visit c.args.body c.args.base ∷ []) (Visit c.args.body c.args.base ∷ Lam (c.args.depth - 1) ∷ []) done c.args.node c.args.base refl
          (λ g sg gr s v. put-lam-falls g c.args.node c.args.body c.args.base c.args.depth sg (node-before g c.args.heap.now gr c.args.node.index _ (valid-below g c.args.node.index s v) c.requires.here))
          (λ g t base source k xs sg gr h. put-lam-leads (read c.args.heap.now c.args.put.index) c.args.level g t base source c.args.node c.args.body c.args.base c.args.depth k xs sg (can-put c.args.heap.now c.args.put.index c.args.level c.is_sound.ensures c.requires.put) c.requires.deep (λ below. node-before g c.args.heap.now gr c.args.node.index _ below c.requires.here) h));
    }
