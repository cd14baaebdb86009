use Rattle.std.proofs.Common.{◌≡◌, ◌+◌, ◌-◌, ◌++◌, ◌∷◌, [], List, min, refl, ap, ap₂, sym, ◌∙◌, subst, append_assoc}
use Rattle.beta_fragment.specs.Moves.{naming}
use Rattle.beta_fragment.specs.inside.Work.{Steps}
use Rattle.beta_fragment.specs.declared.renaming.Task.{Task}
use Rattle.beta_fragment.specs.declared.renaming.Task.TheVariants.{Visit, Lam}
use Rattle.level_terms.proofs.ReadLemmas.{valid-below}
use Rattle.beta_fragment.proofs.MoveLemmas.{node-before}
use Rattle.beta_fragment.proofs.WorkLemmas.{steps-more, lam-leads, lam-falls}
use Rattle.beta_fragment.proofs.renaming.visit_lam.Goals as goal

pub returns : goal.returns
returns c =
    let inner : c.min-inner.result ≡ min c.args.base c.args.depth = c.min-inner.ensures in
    let deep : c.in_ok-raised.raised ≡ c.args.depth - min c.args.base c.args.depth + c.args.to = c.in_ok-raised.ensures ∙ ap (λ n. c.args.depth - n + c.args.to) inner in
    let pushed : c.push-2.new.self.items ≡ c.args.work.now.items ++ (Lam (c.args.depth - min c.args.base c.args.depth + c.args.to) ∷ Visit c.args.body (min c.args.base c.args.depth) ∷ []) =
    c.in_ok-push-2.ensures.items
    ∙ ap (λ (ws : List Task). ws ++ Visit c.args.body c.min-inner.result ∷ []) c.in_ok-push.ensures.items
    ∙ append_assoc c.args.work.now.items (Lam c.in_ok-raised.raised ∷ []) (Visit c.args.body c.min-inner.result ∷ [])
    ∙ ap₂ (λ d b. c.args.work.now.items ++ (Lam d ∷ Visit c.args.body b ∷ [])) deep inner in
    record {
      steps = λ done.
          subst (λ (ws : List Task). Steps (naming c.args.names.now c.args.to) (record { heap = c.args.heap.now; work = c.args.work.now.items ++ Visit c.args.node c.args.base ∷ []; done = done }) (record { heap = c.args.heap.now; work = ws; done = done })) (sym pushed)
          (steps-more (naming c.args.names.now c.args.to) c.args.heap.now c.args.work.now.items (Lam (c.args.depth - min c.args.base c.args.depth + c.args.to) ∷ Visit c.args.body (min c.args.base c.args.depth) ∷ []) (Visit c.args.body (min c.args.base c.args.depth) ∷ Lam (c.args.depth - min c.args.base c.args.depth + c.args.to) ∷ []) done c.args.node c.args.base refl
          (λ g sg gr s v. lam-falls c.args.names.now c.args.to g c.args.node c.args.body c.args.base c.args.depth sg (node-before g c.args.heap.now gr c.args.node.index _ (valid-below g c.args.node.index s v) c.requires.here))
          (λ g t base source k xs sg gr h. lam-leads c.args.names.now c.args.to g t base source c.args.node c.args.body c.args.base c.args.depth k xs sg c.requires.below (λ below. node-before g c.args.heap.now gr c.args.node.index _ below c.requires.here) h));
    }
