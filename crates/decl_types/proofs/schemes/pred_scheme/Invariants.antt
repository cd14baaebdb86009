use Rattle.std.proofs.Common.{◌≡◌, ◌≤◌, drop, length}
use Rattle.decl_types.specs.DeclaredTypes.{pred_scheme}
use Rattle.decl_types.proofs.schemes.pred_scheme.Given as goal

abbrev pub invariant-loop-index : goal.invariant-loop-index
invariant-loop-index l = record {
  within : l.index ≤ length l.args;
  types : l.scheme ≡ pred_scheme (drop l.index l.args);
}

abbrev pub decreases-loop-index : goal.decreases-loop-index
decreases-loop-index l = l.index
