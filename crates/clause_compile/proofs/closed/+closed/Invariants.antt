use Rattle.std.proofs.Common.{take}
use Rattle.clause_compile.specs.inside.Compiled.{AllWithin}
use Rattle.clause_compile.proofs.closed.+closed.Given as goal

abbrev pub invariant-are_closed-loop-tree : goal.invariant-are_closed-loop-tree
invariant-are_closed-loop-tree l = AllWithin 0 l.depth (take l.tree-index l.trees)
