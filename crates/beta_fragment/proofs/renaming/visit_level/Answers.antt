use Rattle.std.proofs.Common.{◌++◌, ◌∷◌, [], List, length, sym, subst}
use Rattle.level_terms.specs.Sound.{AllOlder}
use Rattle.level_terms.specs.declared.node.TermId.{TermId}
use Rattle.level_terms.proofs.GrowthLemmas.{grows-refl}
use Rattle.beta_fragment.specs.inside.Work.{Steps}
use Rattle.beta_fragment.specs.Moves.{naming}
use Rattle.level_terms.specs.Values.{value_of, IsLevelOf}
use Rattle.beta_fragment.specs.declared.renaming.Task.TheVariants.{Visit}
use Rattle.level_terms.proofs.MakeLemmas.{older-append, older-grown}
use Rattle.level_terms.proofs.ReadLemmas.{valid-below}
use Rattle.beta_fragment.proofs.MoveLemmas.{level-moves, node-before}
use Rattle.beta_fragment.proofs.WorkLemmas.{steps-done}
use Rattle.beta_fragment.proofs.renaming.visit_level.Goals as goal

pub returns-in_err-new-clause-grows : goal.returns-in_err-new-clause-grows
returns-in_err-new-clause-grows c = grows-refl c.args.heap.now []

pub returns-clause-steps : goal.returns-clause-steps
returns-clause-steps c = λ work.
    let ns = c.args.names.now in
    subst (λ (ds : List TermId). Steps (naming c.args.names.now c.args.to) (record { heap = c.args.heap.now; work = work ++ Visit c.args.node c.args.base ∷ []; done = c.args.done.now.items }) (record { heap = c.made_level.new.heap; work = work; done = ds }))
    (sym c.in_ok-push.ensures.items)
    (steps-done (naming c.args.names.now c.args.to) c.args.heap.now c.made_level.new.heap work c.args.done.now.items c.args.node c.in_ok-r.r c.args.base c.is_sound.ensures c.in_ok-r.ensures.grows c.requires.done
    (λ g s sg gr v low few. level-moves g c.args.names.now c.args.to c.args.node.index c.args.base s c.args.level (value_of c.made_level.new.heap c.in_ok-r.r) sg c.requires.below (node-before g c.args.heap.now gr c.args.node.index _ (valid-below g c.args.node.index s v) c.requires.here) v low few
    (subst (λ l. IsLevelOf l (value_of c.made_level.new.heap c.in_ok-r.r)) c.in_ok-new.ensures c.in_ok-r.ensures.level)))

pub returns-clause-done : goal.returns-clause-done
returns-clause-done c =
    subst (AllOlder (length c.made_level.new.heap.nodes)) (sym c.in_ok-push.ensures.items)
    (older-append (length c.made_level.new.heap.nodes) c.args.done.now.items (c.in_ok-r.r ∷ []) (older-grown c.args.heap.now c.made_level.new.heap c.in_ok-r.ensures.grows c.args.done.now.items c.requires.done) (c.in_ok-r.ensures.there, tt))
