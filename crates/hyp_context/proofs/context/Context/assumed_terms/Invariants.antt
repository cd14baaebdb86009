use Rattle.std.proofs.Common.{◌≡◌, ◌++◌, length}
use Rattle.hyp_context.specs.Lists.{numbers_of}
use Rattle.hyp_context.specs.inside.Assumed.{assumed_nodes}
use Rattle.hyp_context.proofs.context.Context.assumed_terms.Given as goal

abbrev pub invariant-loop-hyp : goal.invariant-loop-hyp
invariant-loop-hyp l = l.terms.items ++ assumed_nodes (numbers_of l.preds) l.left ≡ assumed_nodes (numbers_of l.preds) l.fn.self

abbrev pub decreases-loop-hyp : goal.decreases-loop-hyp
decreases-loop-hyp l = length l.left
