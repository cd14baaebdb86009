use Rattle.std.proofs.Common.{length, subst, sym, ap, arith}
use Rattle.hyp_clause.specs.Hyps.{AllHypsValid}
use Rattle.search_moves.specs.World.{AllUsable}
use Rattle.search_moves.specs.Calling.{AllHypsClash}
use Rattle.search_moves.proofs.machine.Machine.passes_over_all.Goals as goal

pub loop-hyp-init : goal.loop-hyp-init
loop-hyp-init c = record { valid = c.requires.valid; usable = c.requires.usable; rest = λ modes inputs clash. clash }

pub passes_over-requires-clause-valid : goal.passes_over-requires-clause-valid
passes_over-requires-clause-valid c = (subst (AllHypsValid c.args.self.now.world.heap) c.in-Some.ensures.some c.loop-hyp.invariant.valid).0

pub passes_over-requires-clause-usable : goal.passes_over-requires-clause-usable
passes_over-requires-clause-usable c = (subst (AllUsable c.args.self.now.world.heap c.args.call.now.goal.now.depth) c.in-Some.ensures.some c.loop-hyp.invariant.usable).0

pub loop-hyp-preserved : goal.loop-hyp-preserved
loop-hyp-preserved c =
    let m = c.args.self.now in
    let f = c.args.call.now.goal.now in
    record {
      valid = (subst (AllHypsValid m.world.heap) c.in-Some.ensures.some c.loop-hyp.invariant.valid).1;
      usable = (subst (AllUsable m.world.heap f.depth) c.in-Some.ensures.some c.loop-hyp.invariant.usable).1;
      rest = λ modes inputs clash. c.loop-hyp.invariant.rest modes inputs (subst (AllHypsClash m f modes) (sym c.in-Some.ensures.some) (c.passes_over.ensures c.if-not-passes_over.false modes inputs, clash));
    }

pub loop-hyp-smaller : goal.loop-hyp-smaller
loop-hyp-smaller c = let less = ap length c.in-Some.ensures.some in omega (arith, less)

pub returns : goal.returns
returns c = λ yes modes inputs. c.loop-hyp.invariant.rest modes inputs (subst (AllHypsClash c.args.self.now c.args.call.now.goal.now modes) (sym c.in_default.ensures.none) tt)
