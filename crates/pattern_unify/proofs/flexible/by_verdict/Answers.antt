use Rattle.std.proofs.Common.{ap}
use Rattle.level_terms.specs.Reading.{read}
use Rattle.beta_fragment.specs.Names.{names}
use Rattle.pattern_unify.specs.inside.Verdicts.{verdict_of}
use Rattle.pattern_unify.proofs.FlexibleTurns.{binds, turns-each}
use Rattle.pattern_unify.proofs.flexible.by_verdict.Goals as goal

pub returns-in_ok-bind-in-Fine-clause-turn : goal.returns-in_ok-bind-in-Fine-clause-turn
returns-in_ok-bind-in-Fine-clause-turn c =
    binds c.args.heap.now c.bind.new.heap c.args.trail.now.entries c.bind.new.trail.entries c.args.v.index c.args.ns.now (read c.args.heap.now c.args.t.index names) c.args.work.now.items c.args.e (verdict_of c.args.verdict)
    c.is_sound.ensures c.bind.ensures.grows (ap verdict_of c.in-Fine.is) c.in_ok-bind-in-Fine.ensures.bound c.bind.ensures.variables c.requires.valid

pub returns-in_default-clause-turn : goal.returns-in_default-clause-turn
returns-in_default-clause-turn c =
    turns-each c.args.heap.now c.not_bound.new.heap c.args.v.index c.args.ns.now (read c.args.heap.now c.args.t.index names) (verdict_of c.args.verdict) c.args.e c.args.work.now.items c.not_bound.new.work.items c.not_bound.result c.not_bound.ensures.turn
