use Rattle.std.proofs.Common.{ap}
use Rattle.level_terms.specs.Reading.{read}
use Rattle.ref_terms.specs.unification.Closing.{names_below}
use Rattle.beta_fragment.specs.Names.{names}
use Rattle.pattern_unify.specs.inside.Verdicts.{verdict_of}
use Rattle.pattern_unify.proofs.FlexibleTurns.{binds, turns-each}
use Rattle.pattern_unify.proofs.flexible.by_verdict_in_scope.Goals as goal

pub assign_absent-requires-clause-absent : goal.assign_absent-requires-clause-absent
assign_absent-requires-clause-absent c = c.requires.absent (ap verdict_of c.in-Fine.is)

pub returns-in_ok-assign_absent-in-Fine-clause-turn : goal.returns-in_ok-assign_absent-in-Fine-clause-turn
returns-in_ok-assign_absent-in-Fine-clause-turn c =
    binds c.args.heap.now c.assign_absent.new.heap c.args.trail.now.entries c.assign_absent.new.trail.entries c.args.v.index (names_below c.args.e.depth) (read c.args.heap.now c.args.t.index names) c.args.work.now.items c.args.e (verdict_of c.args.verdict)
    c.is_sound.ensures c.assign_absent.ensures.grows (ap verdict_of c.in-Fine.is) c.in_ok-assign_absent-in-Fine.ensures.bound c.assign_absent.ensures.variables c.requires.valid

pub returns-in_default-clause-turn : goal.returns-in_default-clause-turn
returns-in_default-clause-turn c =
    turns-each c.args.heap.now c.not_bound.new.heap c.args.v.index (names_below c.args.e.depth) (read c.args.heap.now c.args.t.index names) (verdict_of c.args.verdict) c.args.e c.args.work.now.items c.not_bound.new.work.items c.not_bound.result c.not_bound.ensures.turn
