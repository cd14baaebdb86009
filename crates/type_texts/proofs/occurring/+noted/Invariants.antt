use Rattle.std.proofs.Common.{◌≡◌, take, flat_map}
use Rattle.type_texts.specs.TypeText.{noted_all}
use Rattle.type_texts.specs.Occurring.{tree_constants}
use Rattle.type_texts.proofs.occurring.+noted.Given as goal

abbrev pub invariant-note_trees-loop-tree : goal.invariant-note_trees-loop-tree
invariant-note_trees-loop-tree l = l.constants.keys ≡ noted_all l.initial.constants.keys (flat_map tree_constants (take l.tree-index l.trees))
