use Rattle.std.proofs.Common.{◌≡◌, ℕ, take, nat_eq}
use Rattle.indexmap.specs.IndexMap.{get}
use Rattle.lp_resolve.specs.StaticRules.{goals_of, head_with}
use Rattle.mode_check.proofs.sides.first_heads.Given as goal

abbrev pub invariant-loop-index : goal.invariant-loop-index
invariant-loop-index l = (v : ℕ) → get nat_eq l.heads v ≡ head_with v (take l.index (goals_of l.rule))
