use Rattle.std.proofs.Common.{ap, arith, ne_eqb}
use Rattle.ref_terms.specs.unification.Closing.{keeping}
use Rattle.pattern_unify.proofs.KeptLemmas.{bound-after}
use Rattle.pattern_unify.proofs.MeetLemmas.{new-open, stays-open}
use Rattle.pattern_unify.proofs.meeting.keep_over_new.Goals as goal

pub keep_over-requires-clause-other : goal.keep_over-requires-clause-other
keep_over-requires-clause-other c = new-open c.args.heap.now c.fresh_var.new.self c.in_ok-other.other.index c.is_sound.ensures c.in_ok-other.ensures.ok.0 c.in_ok-other.ensures.ok.1

pub returns-clause-open : goal.returns-clause-open
returns-clause-open c =
    let there = c.requires.variable.there in
    let number = c.in_ok-other.ensures.ok.0 in
    stays-open c.fresh_var.new.self c.keep_over.new.heap c.args.trail.now.entries c.keep_over.new.trail.entries c.args.v.index c.in_ok-other.other.index c.keep_over.ensures.grows c.keep_over.ensures.others (ne_eqb c.args.v.index c.in_ok-other.other.index (omega (arith, there, number)))
    (new-open c.args.heap.now c.fresh_var.new.self c.in_ok-other.other.index c.is_sound.ensures number c.in_ok-other.ensures.ok.1)

pub returns-clause-bound : goal.returns-clause-bound
returns-clause-bound c =
    bound-after c.args.heap.now c.fresh_var.new.self c.keep_over.new.heap c.args.v.index _ _ c.is_sound.ensures c.fresh_var.ensures.grows (ap (keeping c.args.arity c.args.kept.now) c.in_ok-other.ensures.ok.0)
    c.in_ok-keep_over.ensures.bound
