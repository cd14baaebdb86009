use Rattle.std.proofs.Common.{ne_eqb}
use Rattle.level_terms.proofs.GrowthLemmas.{grows-refl}
use Rattle.pattern_unify.proofs.FlexibleTurns.{meets, keeps}
use Rattle.pattern_unify.proofs.flexible.two_patterns.Goals as goal

pub returns-then-v-w-clause-turn : goal.returns-then-v-w-clause-turn
returns-then-v-w-clause-turn c =
    meets c.args.heap.now c.meet.new.heap c.args.trail.now.entries c.meet.new.trail.entries c.args.v.index c.args.w.index c.args.xs.now c.args.ys.now c.args.work.now c.is_sound.ensures c.meet.ensures.grows
    (ne_eqb c.args.v.index c.args.w.index c.if-v-w.true) c.in_ok-meet.ensures.bound c.in_ok-meet.ensures.variables c.requires.valid

pub returns-then-xs-ys-clause-grows : goal.returns-then-xs-ys-clause-grows
returns-then-xs-ys-clause-grows c = grows-refl c.args.heap.now c.args.trail.now.entries

pub returns-clause-turn : goal.returns-clause-turn
returns-clause-turn c =
    keeps c.args.heap.now c.keep_agreeing.new.heap c.args.trail.now.entries c.keep_agreeing.new.trail.entries c.args.v.index c.args.w.index c.args.xs.now c.args.ys.now c.args.work.now c.is_sound.ensures c.keep_agreeing.ensures.grows
    c.if-v-w.false c.if-xs-ys.false c.in_ok-keep_agreeing.ensures.bound c.in_ok-keep_agreeing.ensures.variables c.requires.valid
