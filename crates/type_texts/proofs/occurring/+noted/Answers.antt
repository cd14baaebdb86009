use Rattle.std.proofs.Common.{◌∙◌, List, flat_map, ap, sym}
use Rattle.ref_terms.specs.declared.tree.Tree.{Tree}
use Rattle.lp_resolve.specs.Trees.{head_term}
use Rattle.type_texts.specs.TypeText.{noted_all}
use Rattle.type_texts.specs.Occurring.{constants_in, tree_constants}
use Rattle.type_texts.proofs.Noting.{noted-more, noted-both, ap-constants}
use Rattle.type_texts.proofs.Steps.{on-ok}
use Rattle.type_texts.proofs.occurring.+noted.Goals as goal

pub note_trees-loop-tree-preserved : goal.note_trees-loop-tree-preserved
note_trees-loop-tree-preserved t c =
    noted-more tree_constants c.args.constants.now.keys c.loop-tree.constants.keys c.note_tree.new.constants.keys c.args.trees.now c.loop-tree.tree-index c.tree-item.result c.loop-tree-test.true c.tree-item.is
    c.loop-tree.invariant c.in_ok-note_tree.ensures

pub note_tree-returns-in_ok-note_front-in-Ap : goal.note_tree-returns-in_ok-note_front-in-Ap
note_tree-returns-in_ok-note_front-in-Ap t c =
    let old = c.args.constants.now.keys in
    let mid = c.note_front.new.constants.keys in
    let head = c.in-Ap.head in
    let args = c.in-Ap.args in
    on-ok c.note_trees.result c.note_trees.ensures (λ rest.
    noted-both old mid c.note_trees.new.constants.keys (constants_in (head_term head)) (flat_map tree_constants args) c.in_ok-note_front-in-Ap.ensures
    (rest ∙ ap (λ (ts : List Tree). noted_all mid (flat_map tree_constants ts)) c.as_slice.ensures)
    ∙ ap (noted_all old) (sym (ap-constants c.args.tree.now head args c.in-Ap.is)))
