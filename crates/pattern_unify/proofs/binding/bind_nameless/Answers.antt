use Rattle.std.proofs.Common.{◌∷◌, [], refl, sym, ap, ◌∙◌, subst}
use Rattle.std.proofs.lemmas.Result.{on_ok_weaker}
use Rattle.level_terms.specs.Reading.{read}
use Rattle.level_terms.proofs.GrowthLemmas.{grows-refl, grows-trans, grows-notes}
use Rattle.ref_terms.specs.terms.Occurs.{occurs}
use Rattle.ref_terms.specs.unification.Closing.{close_all}
use Rattle.beta_fragment.specs.Names.{names as own_names}
use Rattle.pattern_unify.specs.Bound.{NamesAmong}
use Rattle.pattern_unify.proofs.AbsentLemmas.{absent-apply}
use Rattle.pattern_unify.proofs.KeptLemmas.{open-kept, others-grown, others-after, bound-after, grows-after}
use Rattle.pattern_unify.proofs.BindingSteps.{nameless-applied, nameless-among, nameless-value}
use Rattle.pattern_unify.proofs.binding.bind_nameless.Goals as goal

pub returns-in_err-table-clause-grows : goal.returns-in_err-table-clause-grows
returns-in_err-table-clause-grows c = grows-refl c.args.heap.now c.args.trail.now.entries

pub returns-in_err-list-clause-grows : goal.returns-in_err-list-clause-grows
returns-in_err-list-clause-grows c = grows-refl c.args.heap.now c.args.trail.now.entries

pub returns-in_err-closed-clause-others : goal.returns-in_err-closed-clause-others
returns-in_err-closed-clause-others c = others-grown c.args.heap.now c.lift.new.heap c.args.v.index c.lift.ensures.grows

pub returns-in_err-node-clause-others : goal.returns-in_err-node-clause-others
returns-in_err-node-clause-others c = others-grown c.args.heap.now c.applied.new.heap c.args.v.index (grows-trans c.args.heap.now c.lift.new.heap c.applied.new.heap [] [] [] c.lift.ensures.grows c.applied.ensures.grows)

pub returns-in_err-node-clause-grows : goal.returns-in_err-node-clause-grows
returns-in_err-node-clause-grows c = grows-notes c.args.heap.now c.applied.new.heap c.args.trail.now.entries (grows-trans c.args.heap.now c.lift.new.heap c.applied.new.heap [] [] [] c.lift.ensures.grows c.applied.ensures.grows)

pub bind_renamed-requires-clause-variable : goal.bind_renamed-requires-clause-variable
bind_renamed-requires-clause-variable c =
    open-kept c.args.heap.now c.applied.new.heap c.args.v.index (grows-trans c.args.heap.now c.lift.new.heap c.applied.new.heap [] [] [] c.lift.ensures.grows c.applied.ensures.grows)
    (c.applied.ensures.variables ∙ c.lift.ensures.variables) c.requires.variable

pub bind_renamed-requires-clause-among : goal.bind_renamed-requires-clause-among
bind_renamed-requires-clause-among c =
    let reads = nameless-applied c.args.heap.now c.lift.new.heap c.applied.new.heap c.args.t.index c.in_ok-closed.closed.index c.in_ok-node.node.index 1 c.in_ok-list.list c.is_sound.ensures c.requires.nameless c.in_ok-closed.ensures.reads c.in_ok-node.ensures.reads in
    subst (NamesAmong (1 ∷ [])) (sym reads) (nameless-among (read c.args.heap.now c.args.t.index own_names) 1 c.requires.nameless)

pub bind_renamed-requires-clause-absent : goal.bind_renamed-requires-clause-absent
bind_renamed-requires-clause-absent c =
    let reads = nameless-applied c.args.heap.now c.lift.new.heap c.applied.new.heap c.args.t.index c.in_ok-closed.closed.index c.in_ok-node.node.index 1 c.in_ok-list.list c.is_sound.ensures c.requires.nameless c.in_ok-closed.ensures.reads c.in_ok-node.ensures.reads in
    ap (occurs c.args.v.index) reads ∙ absent-apply c.args.v.index (read c.args.heap.now c.args.t.index own_names) (own_names 1) c.requires.absent refl

pub returns-clause-bound : goal.returns-clause-bound
returns-clause-bound c =
    let reads = nameless-applied c.args.heap.now c.lift.new.heap c.applied.new.heap c.args.t.index c.in_ok-closed.closed.index c.in_ok-node.node.index 1 c.in_ok-list.list c.is_sound.ensures c.requires.nameless c.in_ok-closed.ensures.reads c.in_ok-node.ensures.reads in
    on_ok_weaker c.bind_renamed.result (bound-after c.args.heap.now c.applied.new.heap c.bind_renamed.new.heap c.args.v.index (close_all (1 ∷ []) (read c.applied.new.heap c.in_ok-node.node.index own_names)) (read c.args.heap.now c.args.t.index own_names)
    c.is_sound.ensures (grows-trans c.args.heap.now c.lift.new.heap c.applied.new.heap [] [] [] c.lift.ensures.grows c.applied.ensures.grows)
    (ap (close_all (1 ∷ [])) reads ∙ nameless-value c.args.heap.now c.args.t.index 1 c.requires.nameless))
    c.bind_renamed.ensures.bound

pub returns-clause-others : goal.returns-clause-others
returns-clause-others c =
    others-after c.args.heap.now c.applied.new.heap c.bind_renamed.new.heap c.args.v.index (grows-trans c.args.heap.now c.lift.new.heap c.applied.new.heap [] [] [] c.lift.ensures.grows c.applied.ensures.grows) c.bind_renamed.ensures.others

pub returns-clause-grows : goal.returns-clause-grows
returns-clause-grows c =
    grows-after c.args.heap.now c.applied.new.heap c.bind_renamed.new.heap c.args.trail.now.entries c.bind_renamed.new.trail.entries (grows-trans c.args.heap.now c.lift.new.heap c.applied.new.heap [] [] [] c.lift.ensures.grows c.applied.ensures.grows) c.bind_renamed.ensures.grows
