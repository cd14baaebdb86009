use Rattle.std.proofs.Common.{◌++◌, ◌∷◌, [], List, length, reverse, sym, subst}
use Rattle.level_terms.specs.Reading.{read}
use Rattle.beta_fragment.specs.Moves.{putting}
use Rattle.beta_fragment.specs.inside.Work.{Steps, visits}
use Rattle.beta_fragment.specs.declared.renaming.Task.{Task}
use Rattle.beta_fragment.specs.declared.renaming.Task.TheVariants.{Visit, App}
use Rattle.level_terms.proofs.ReadLemmas.{valid-below}
use Rattle.beta_fragment.proofs.MoveLemmas.{node-before}
use Rattle.beta_fragment.proofs.VisitLemmas.{pushed-app, reversed-app}
use Rattle.beta_fragment.proofs.PutLemmas.{goes-through}
use Rattle.beta_fragment.proofs.PutWork.{can-put, put-app-leads}
use Rattle.beta_fragment.proofs.WorkLemmas.{steps-more, app-falls}
use Rattle.beta_fragment.proofs.putting.put_at_app.Goals as goal

pub returns : goal.returns
returns c =
    let pushed = pushed-app c.args.base c.args.head c.args.args.now c.args.work.now.items c.push.new.self.items c.push_visits.new.work.items c.push-2.new.self.items c.in_ok-push.ensures.items c.in_ok-push_visits.ensures c.in_ok-push-2.ensures.items in
    record {
      steps = λ done.
          subst (λ (ws : List Task). Steps (putting (read c.args.heap.now c.args.put.index) c.args.level) (record { heap = c.args.heap.now; work = c.args.work.now.items ++ Visit c.args.node c.args.base ∷ []; done = done }) (record { heap = c.args.heap.now; work = ws; done = done })) (sym pushed)
          (steps-more (putting (read c.args.heap.now c.args.put.index) c.args.level) c.args.heap.now c.args.work.now.items (App (length c.args.args.now) ∷ (reverse (visits c.args.base c.args.args.now) ++ Visit c.args.head c.args.base ∷ [])) (Visit c.args.head c.args.base ∷ (visits c.args.base c.args.args.now ++ App (length c.args.args.now) ∷ [])) done c.args.node c.args.base (reversed-app c.args.base c.args.head c.args.args.now)
          (λ g sg gr s v. app-falls [] 0 g c.args.node c.args.head c.args.args.now c.args.base sg (node-before g c.args.heap.now gr c.args.node.index _ (valid-below g c.args.node.index s v) c.requires.here))
          (λ g t base source k xs sg gr h. put-app-leads (read c.args.heap.now c.args.put.index) c.args.level g c.args.heap.now t base source c.args.node c.args.head c.args.args.now c.args.base k xs sg gr (can-put c.args.heap.now c.args.put.index c.args.level c.is_sound.ensures c.requires.put) (goes-through c.args.heap.now c.args.put.index c.args.head.index c.args.taken c.is_sound.ensures c.requires.taken c.requires.plain) (λ below. node-before g c.args.heap.now gr c.args.node.index _ below c.requires.here) h));
    }
