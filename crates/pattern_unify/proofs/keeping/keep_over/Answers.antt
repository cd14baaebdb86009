use Rattle.std.proofs.lemmas.Result.{on_ok_weaker}
use Rattle.level_terms.proofs.GrowthLemmas.{grows-notes}
use Rattle.pattern_unify.proofs.KeepNodes.{over-valid}
use Rattle.pattern_unify.proofs.KeepValue.{keeper-made, keeper-unreached, keeper-binds}
use Rattle.pattern_unify.proofs.KeptLemmas.{open-kept, others-grown, others-after, grows-after}
use Rattle.pattern_unify.proofs.keeping.keep_over.Goals as goal

pub returns-in_err-body-clause-others : goal.returns-in_err-body-clause-others
returns-in_err-body-clause-others c = others-grown c.args.heap.now c.var_over.new.heap c.args.v.index c.var_over.ensures.grows

pub returns-in_err-body-clause-grows : goal.returns-in_err-body-clause-grows
returns-in_err-body-clause-grows c = grows-notes c.args.heap.now c.var_over.new.heap c.args.trail.now.entries c.var_over.ensures.grows

pub assign_over-requires-clause-variable : goal.assign_over-requires-clause-variable
assign_over-requires-clause-variable c = open-kept c.args.heap.now c.var_over.new.heap c.args.v.index c.var_over.ensures.grows c.var_over.ensures.variables c.requires.variable

pub assign_over-requires-clause-valid : goal.assign_over-requires-clause-valid
assign_over-requires-clause-valid c =
    let keeper = keeper-made c.args.heap.now c.var_over.new.heap c.args.other c.args.kept.now c.in_ok-body.body.index c.is_sound-2.ensures c.var_over.ensures.grows c.var_over.ensures.variables c.in_ok-body.ensures.over c.requires.other.free c.requires.without_levels in
    over-valid c.var_over.new.heap c.in_ok-body.body.index c.args.other c.args.kept.now c.is_sound-2.ensures keeper.none c.in_ok-body.ensures.over c.args.arity c.requires.kept

pub assign_over-requires-clause-unreached : goal.assign_over-requires-clause-unreached
assign_over-requires-clause-unreached c =
    keeper-unreached c.var_over.new.heap c.args.other c.args.kept.now c.in_ok-body.body.index
    (keeper-made c.args.heap.now c.var_over.new.heap c.args.other c.args.kept.now c.in_ok-body.body.index c.is_sound-2.ensures c.var_over.ensures.grows c.var_over.ensures.variables c.in_ok-body.ensures.over c.requires.other.free c.requires.without_levels)
    c.args.v.index c.requires.another

pub returns-clause-bound : goal.returns-clause-bound
returns-clause-bound c =
    let keeper = keeper-made c.args.heap.now c.var_over.new.heap c.args.other c.args.kept.now c.in_ok-body.body.index c.is_sound-2.ensures c.var_over.ensures.grows c.var_over.ensures.variables c.in_ok-body.ensures.over c.requires.other.free c.requires.without_levels in
    on_ok_weaker c.assign_over.result
    (keeper-binds c.args.heap.now c.var_over.new.heap c.assign_over.new.heap c.args.other c.args.kept.now c.args.arity c.in_ok-body.body.index c.args.v.index keeper c.is_sound.ensures c.var_over.ensures.grows)
    c.assign_over.ensures.bound

pub returns-clause-others : goal.returns-clause-others
returns-clause-others c = others-after c.args.heap.now c.var_over.new.heap c.assign_over.new.heap c.args.v.index c.var_over.ensures.grows c.assign_over.ensures.others

pub returns-clause-grows : goal.returns-clause-grows
returns-clause-grows c =
    grows-after c.args.heap.now c.var_over.new.heap c.assign_over.new.heap c.args.trail.now.entries c.assign_over.new.trail.entries c.var_over.ensures.grows
    c.assign_over.ensures.grows
