use Rattle.std.proofs.Common.{◌∙◌, List, flat_map, ap}
use Rattle.ref_terms.specs.declared.tree.Tree.{Tree}
use Rattle.type_texts.specs.TypeText.{noted_all}
use Rattle.type_texts.specs.Occurring.{tree_constants, test_constants}
use Rattle.type_texts.proofs.Noting.{noted-more}
use Rattle.type_texts.proofs.occurring.note_tests.Goals as goal

pub loop-test-preserved : goal.loop-test-preserved
loop-test-preserved c =
    noted-more test_constants c.args.constants.now.keys c.loop-test.constants.keys c.note_trees.new.constants.keys c.args.tests.now c.loop-test.test-index c.test-item.result c.loop-test-test.true c.test-item.is
    c.loop-test.invariant (c.in_ok-note_trees.ensures ∙ ap (λ (ts : List Tree). noted_all c.loop-test.constants.keys (flat_map tree_constants ts)) c.args_of.ensures)
