use Rattle.std.proofs.Common.{◌++◌, ◌∷◌, [], List, length, sym, subst}
use Rattle.level_terms.specs.Sound.{AllOlder}
use Rattle.level_terms.specs.declared.node.TermId.{TermId}
use Rattle.level_terms.proofs.MakeLemmas.{older-append}
use Rattle.pattern_unify.specs.inside.Filling.{Steps}
use Rattle.pattern_unify.specs.declared.filling.Task.TheVariants.{Visit}
use Rattle.pattern_unify.proofs.FillingWork.{steps-kept}
use Rattle.pattern_unify.proofs.filling.keep.Goals as goal

pub returns-clause-steps : goal.returns-clause-steps
returns-clause-steps c = λ work.
    subst (λ (ds : List TermId). Steps (record { heap = c.args.heap.now; work = work ++ Visit c.args.node ∷ []; done = c.args.done.now.items }) (record { heap = c.args.heap.now; work = work; done = ds }))
    (sym c.in_ok-push.ensures.items)
    (steps-kept c.args.heap.now work c.args.done.now.items c.args.node)

pub returns-clause-done : goal.returns-clause-done
returns-clause-done c =
    subst (AllOlder (length c.args.heap.now.nodes)) (sym c.in_ok-push.ensures.items)
    (older-append (length c.args.heap.now.nodes) c.args.done.now.items (c.args.node ∷ []) c.requires.done (c.requires.there, tt))
