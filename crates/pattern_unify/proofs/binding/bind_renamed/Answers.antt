use Rattle.std.proofs.Common.{length, ◌∙◌}
use Rattle.std.proofs.lemmas.Result.{on_ok_weaker}
use Rattle.level_terms.specs.Reading.{read}
use Rattle.level_terms.proofs.GrowthLemmas.{grows-refl}
use Rattle.ref_terms.specs.unification.Closing.{close_all, names_below}
use Rattle.beta_fragment.specs.Names.{names as own_names}
use Rattle.pattern_unify.proofs.KeptLemmas.{open-kept, others-grown, others-after, bound-after, grows-after}
use Rattle.pattern_unify.proofs.BindingSteps.{positions-value, positions-absent}
use Rattle.pattern_unify.proofs.binding.bind_renamed.Goals as goal

pub returns-in_err-table-clause-grows : goal.returns-in_err-table-clause-grows
returns-in_err-table-clause-grows c = grows-refl c.args.heap.now c.args.trail.now.entries

pub returns-in_err-list-clause-grows : goal.returns-in_err-list-clause-grows
returns-in_err-list-clause-grows c = grows-refl c.args.heap.now c.args.trail.now.entries

pub returns-in_err-body-clause-others : goal.returns-in_err-body-clause-others
returns-in_err-body-clause-others c = others-grown c.args.heap.now c.lift.new.heap c.args.v.index c.lift.ensures.grows

pub assign_absent-requires-clause-variable : goal.assign_absent-requires-clause-variable
assign_absent-requires-clause-variable c = open-kept c.args.heap.now c.lift.new.heap c.args.v.index c.lift.ensures.grows c.lift.ensures.variables c.requires.variable

pub assign_absent-requires-clause-absent : goal.assign_absent-requires-clause-absent
assign_absent-requires-clause-absent c = positions-absent c.args.heap.now c.lift.new.heap c.args.t.index c.in_ok-body.body.index c.args.v.index c.in_ok-list.list c.is_sound.ensures c.in_ok-body.ensures.reads c.requires.absent

pub returns-clause-bound : goal.returns-clause-bound
returns-clause-bound c =
    let value = close_all (names_below (length c.args.ns.now)) (read c.lift.new.heap c.in_ok-body.body.index own_names) in
    let other = close_all c.args.ns.now (read c.args.heap.now c.args.t.index own_names) in
    on_ok_weaker c.assign_absent.result (bound-after c.args.heap.now c.lift.new.heap c.assign_absent.new.heap c.args.v.index value other c.is_sound.ensures c.lift.ensures.grows
    (positions-value c.args.heap.now c.lift.new.heap c.args.t.index c.in_ok-body.body.index c.args.ns.now c.in_ok-table.table.items c.in_ok-list.list c.is_sound.ensures c.in_ok-body.ensures.reads (c.in_ok-list.ensures ∙ c.deref.ensures.value) c.requires.distinct c.in_ok-table.ensures.positions c.requires.among))
    c.assign_absent.ensures.bound

pub returns-clause-others : goal.returns-clause-others
returns-clause-others c = others-after c.args.heap.now c.lift.new.heap c.assign_absent.new.heap c.args.v.index c.lift.ensures.grows c.assign_absent.ensures.others

pub returns-clause-grows : goal.returns-clause-grows
returns-clause-grows c = grows-after c.args.heap.now c.lift.new.heap c.assign_absent.new.heap c.args.trail.now.entries c.assign_absent.new.trail.entries c.lift.ensures.grows c.assign_absent.ensures.grows
