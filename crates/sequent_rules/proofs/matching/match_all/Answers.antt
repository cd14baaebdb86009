use Rattle.std.proofs.Common.{◌≡◌, ◌∙◌, ℕ, suc, ◌+◌, length, length-append, ap, subst, arith, get_or}
use Rattle.level_terms.specs.Valid.{IsValid}
use Rattle.level_terms.proofs.GrowthLemmas.{grows-trans}
use Rattle.level_terms.proofs.ReadLemmas.{valid-below}
use Rattle.sequent_rules.specs.declared.matching.Equation.{Equation}
use Rattle.sequent_rules.specs.inside.Equations.{IsSolving}
use Rattle.sequent_rules.proofs.SolvingLemmas.{drop-get, every-get, equations-valid-grown, solving-starts, solving-goes, solving-clashes, solving-stops, solving-ends, picked-true, picked-false}
use Rattle.sequent_rules.proofs.matching.match_all.Goals as goal

-- what an index past the end would give
abbrev none : Equation
none = record { left = record { index = 0 }; right = record { index = 0 } }

pub loop-i-init : goal.loop-i-init
loop-i-init c = record {
  valid = c.requires.valid;
  first = c.requires.first;
  solving = solving-starts c.args.first_fresh.index c.args.depth c.args.equations.now c.args.heap.now c.args.trail.now.entries;
}

pub match_arg-requires-clause-pattern : goal.match_arg-requires-clause-pattern
match_arg-requires-clause-pattern c = (every-get (λ e. IsValid c.loop-i.heap e.left.index c.args.depth × IsValid c.loop-i.heap e.right.index c.args.depth) c.args.equations.now c.loop-i.i none c.loop-i-test.true c.loop-i.invariant.valid).0

pub match_arg-requires-clause-argument : goal.match_arg-requires-clause-argument
match_arg-requires-clause-argument c = (every-get (λ e. IsValid c.loop-i.heap e.left.index c.args.depth × IsValid c.loop-i.heap e.right.index c.args.depth) c.args.equations.now c.loop-i.i none c.loop-i-test.true c.loop-i.invariant.valid).1

pub match_arg-requires-clause-first : goal.match_arg-requires-clause-first
match_arg-requires-clause-first c = c.loop-i.invariant.first

pub returns-in-Ok-false-clause-grows : goal.returns-in-Ok-false-clause-grows
returns-in-Ok-false-clause-grows c = grows-trans c.args.heap.now c.loop-i.heap c.match_arg.new.heap c.args.trail.now.entries c.loop-i.trail.entries c.match_arg.new.trail.entries c.loop-i.invariant.solving.grows c.match_arg.ensures.grows

pub returns-in-Err-clause-grows : goal.returns-in-Err-clause-grows
returns-in-Err-clause-grows c = grows-trans c.args.heap.now c.loop-i.heap c.match_arg.new.heap c.args.trail.now.entries c.loop-i.trail.entries c.match_arg.new.trail.entries c.loop-i.invariant.solving.grows c.match_arg.ensures.grows

pub returns-clause-answer : goal.returns-clause-answer
returns-clause-answer c = solving-ends c.args.first_fresh.index c.args.depth c.args.equations.now c.args.heap.now c.args.trail.now.entries c.loop-i.heap c.loop-i.trail.entries c.loop-i.i c.loop-i.invariant.solving (omega arith)

pub returns-in-Ok-false-clause-answer : goal.returns-in-Ok-false-clause-answer
returns-in-Ok-false-clause-answer c =
    let e = get_or c.args.equations.now c.loop-i.i none in
    let w = every-get (λ x. IsValid c.args.heap.now x.left.index c.args.depth × IsValid c.args.heap.now x.right.index c.args.depth) c.args.equations.now c.loop-i.i none c.loop-i-test.true c.requires.valid in
    solving-clashes c.args.first_fresh.index c.args.depth c.args.equations.now c.args.heap.now c.args.trail.now.entries c.loop-i.heap c.loop-i.trail.entries c.loop-i.i e c.loop-i.invariant.solving
    (drop-get c.args.equations.now c.loop-i.i none c.loop-i-test.true) (valid-below c.args.heap.now e.left.index c.args.depth w.0) (valid-below c.args.heap.now e.right.index c.args.depth w.1)
    (picked-false _ _ c.in-Ok-false.field-0 c.in-Ok-false.field-0-test c.in-Ok-false.ensures.answer)

pub returns-in-Err-clause-stops : goal.returns-in-Err-clause-stops
returns-in-Err-clause-stops c =
    let e = get_or c.args.equations.now c.loop-i.i none in
    let w = every-get (λ x. IsValid c.args.heap.now x.left.index c.args.depth × IsValid c.args.heap.now x.right.index c.args.depth) c.args.equations.now c.loop-i.i none c.loop-i-test.true c.requires.valid in
    solving-stops c.args.first_fresh.index c.args.depth c.args.equations.now c.args.heap.now c.args.trail.now.entries c.loop-i.heap c.loop-i.trail.entries c.loop-i.i e c.loop-i.invariant.solving
    (drop-get c.args.equations.now c.loop-i.i none c.loop-i-test.true) (valid-below c.args.heap.now e.left.index c.args.depth w.0) (valid-below c.args.heap.now e.right.index c.args.depth w.1)
    c.in-Err.stop c.in-Err.ensures.stops

pub loop-i-preserved : goal.loop-i-preserved
loop-i-preserved c =
    let e = get_or c.args.equations.now c.loop-i.i none in
    let w = every-get (λ x. IsValid c.args.heap.now x.left.index c.args.depth × IsValid c.args.heap.now x.right.index c.args.depth) c.args.equations.now c.loop-i.i none c.loop-i-test.true c.requires.valid in
    let more = ap length c.match_arg.ensures.grows.depths ∙ length-append c.loop-i.heap.depths c.match_arg.ensures.grows.new_depths in
    let low = c.loop-i.invariant.first in
    record {
      valid = equations-valid-grown c.loop-i.heap c.match_arg.new.heap c.loop-i.trail.entries c.match_arg.new.trail.entries c.args.depth c.args.equations.now c.is_sound.ensures c.match_arg.ensures.grows c.loop-i.invariant.valid;
      first = omega (arith, more, low);
      solving = subst (λ (k : ℕ). IsSolving c.args.first_fresh.index c.args.depth c.args.equations.now c.args.heap.now c.match_arg.new.heap c.args.trail.now.entries c.match_arg.new.trail.entries k)
          (let k : suc c.loop-i.i ≡ c.loop-i.i + 1 = omega arith in k) (solving-goes c.args.first_fresh.index c.args.depth c.args.equations.now c.args.heap.now c.args.trail.now.entries c.loop-i.heap c.loop-i.trail.entries c.loop-i.i e c.loop-i.invariant.solving
          (drop-get c.args.equations.now c.loop-i.i none c.loop-i-test.true) (valid-below c.args.heap.now e.left.index c.args.depth w.0) (valid-below c.args.heap.now e.right.index c.args.depth w.1)
          c.match_arg.new.heap c.match_arg.new.trail.entries c.match_arg.ensures.grows c.match_arg.ensures.frozen (picked-true _ _ c.in-Ok-true.field-0 c.in-Ok-true.field-0-test c.in-Ok-true.ensures.answer));
    }
