use Rattle.std.proofs.Common.{◌≡◌, ◌-◌, suc, [], arith, subst, ◌∙◌}
use Rattle.level_terms.proofs.GrowthLemmas.{grows-trans}
use Rattle.level_terms.specs.Values.{value_of, IsVarOf}
use Rattle.beta_fragment.proofs.VarLemmas.{lam-var}
use Rattle.beta_fragment.proofs.renaming.bare_var.Goals as goal

pub returns-in_err-node-2-clause-grows : goal.returns-in_err-node-2-clause-grows
returns-in_err-node-2-clause-grows c = grows-trans c.args.heap.now c.loop-depth.heap c.made_lam.new.heap [] [] [] c.loop-depth.invariant.grows c.made_lam.ensures.grows

pub loop-depth-preserved : goal.loop-depth-preserved
loop-depth-preserved c = record {
  open_at = lam-var c.args.v.index (c.loop-depth.depth - 1) (value_of c.loop-depth.heap c.loop-depth.node) (value_of c.made_lam.new.heap c.in_ok-node-2.node) c.in_ok-node-2.ensures.lam
      (subst (λ d. IsVarOf c.args.v.index d (value_of c.loop-depth.heap c.loop-depth.node)) (let q : c.loop-depth.depth ≡ suc (c.loop-depth.depth - 1) = omega (arith, c.loop-depth-test.true) in q) c.loop-depth.invariant.open_at);
  head = c.in_ok-node-2.ensures.head;
  there = c.in_ok-node-2.ensures.there;
  variables = c.made_lam.ensures.variables ∙ c.loop-depth.invariant.variables;
  grows = grows-trans c.args.heap.now c.loop-depth.heap c.made_lam.new.heap [] [] [] c.loop-depth.invariant.grows c.made_lam.ensures.grows;
}
