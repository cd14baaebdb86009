use Rattle.std.proofs.Common.{◌≡◌, drop, nat_eq}
use Rattle.std.specs.List.{list_any}
use Rattle.hyp_context.specs.Lists.{numbers_of}
use Rattle.hyp_context.proofs.list.is_among.Given as goal

-- the constants that are left decide
abbrev pub invariant-loop-other : goal.invariant-loop-other
invariant-loop-other l = list_any (nat_eq l.pred.0) (numbers_of (drop l.other-index l.preds)) ≡ list_any (nat_eq l.pred.0) (numbers_of l.preds)
