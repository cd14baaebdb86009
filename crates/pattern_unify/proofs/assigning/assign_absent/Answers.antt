use Rattle.std.proofs.Common.{ap, ◌∙◌}
use Rattle.std.proofs.lemmas.Result.{on_ok_weaker}
use Rattle.level_terms.specs.Reading.{read}
use Rattle.level_terms.proofs.GrowthLemmas.{grows-notes}
use Rattle.ref_terms.specs.unification.Closing.{close_all, names_below}
use Rattle.beta_fragment.specs.Names.{names}
use Rattle.pattern_unify.proofs.KeptLemmas.{open-kept, others-grown, others-after, bound-after, grows-after}
use Rattle.pattern_unify.proofs.assigning.assign_absent.Goals as goal

pub returns-in_err-node-clause-others : goal.returns-in_err-node-clause-others
returns-in_err-node-clause-others c = others-grown c.args.heap.now c.node_without.new.heap c.args.v.index c.node_without.ensures.grows

pub returns-in_err-node-clause-grows : goal.returns-in_err-node-clause-grows
returns-in_err-node-clause-grows c = grows-notes c.args.heap.now c.node_without.new.heap c.args.trail.now.entries c.node_without.ensures.grows

pub assign_over-requires-clause-variable : goal.assign_over-requires-clause-variable
assign_over-requires-clause-variable c = open-kept c.args.heap.now c.node_without.new.heap c.args.v.index c.node_without.ensures.grows c.node_without.ensures.variables c.requires.variable

pub returns-clause-bound : goal.returns-clause-bound
returns-clause-bound c =
    on_ok_weaker c.assign_over.result (bound-after c.args.heap.now c.node_without.new.heap c.assign_over.new.heap c.args.v.index (close_all (names_below c.args.count) (read c.node_without.new.heap c.in_ok-node.node.index names)) (close_all (names_below c.args.count) (read c.args.heap.now c.args.body.index names))
    c.is_sound.ensures c.node_without.ensures.grows (ap (close_all (names_below c.args.count)) (c.in_ok-node.ensures.reads ∙ c.settled-body.ensures.reads)))
    c.assign_over.ensures.bound

pub returns-clause-others : goal.returns-clause-others
returns-clause-others c = others-after c.args.heap.now c.node_without.new.heap c.assign_over.new.heap c.args.v.index c.node_without.ensures.grows c.assign_over.ensures.others

pub returns-clause-grows : goal.returns-clause-grows
returns-clause-grows c = grows-after c.args.heap.now c.node_without.new.heap c.assign_over.new.heap c.args.trail.now.entries c.assign_over.new.trail.entries c.node_without.ensures.grows c.assign_over.ensures.grows
