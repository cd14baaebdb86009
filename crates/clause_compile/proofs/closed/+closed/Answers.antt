use Rattle.std.proofs.Common.{◌≡◌, ◌∙◌, true, List, take, sym, subst, ap}
use Rattle.std.proofs.lemmas.List.{take_all}
use Rattle.std.proofs.lemmas.List.Elements.{All-more}
use Rattle.ref_terms.specs.declared.tree.Tree.{Tree}
use Rattle.ref_terms.specs.declared.tree.Tree.TheVariants.{Ap}
use Rattle.lp_resolve.specs.Trees.{as_term, IsWithin}
use Rattle.clause_compile.specs.inside.Compiled.{AllWithin}
use Rattle.clause_compile.proofs.TreeForms.{ap-within}
use Rattle.clause_compile.proofs.closed.+closed.Goals as goal

pub are_closed-loop-tree-preserved : goal.are_closed-loop-tree-preserved
are_closed-loop-tree-preserved t c =
    let here = subst (λ (x : Tree). IsWithin 0 c.args.depth (as_term x)) c.tree-item.is (c.in_ok-is_closed.ensures c.if-not-branch.false) in
    All-more (λ x. IsWithin 0 c.args.depth (as_term x)) c.args.trees.now c.loop-tree.tree-index c.tree-item.result c.loop-tree-test.true c.loop-tree.invariant here

pub are_closed-returns : goal.are_closed-returns
are_closed-returns t c = λ e. subst (λ (ts : List Tree). AllWithin 0 c.args.depth ts) (take_all c.loop-tree.tree-index c.args.trees.now c.loop-tree-test.false) c.loop-tree.invariant

pub is_closed-returns-in_ok-are-in-Ap : goal.is_closed-returns-in_ok-are-in-Ap
is_closed-returns-in_ok-are-in-Ap t c = λ e.
    ap-within 0 c.args.depth c.args.tree.now c.in-Ap.head c.in-Ap.args c.in-Ap.is (c.in_ok-is_closed_head-in-Ap.ensures c.if-not-branch.false)
    (subst (λ (ts : List Tree). AllWithin 0 c.args.depth ts) c.as_slice.ensures (c.in_ok-are-in-Ap.ensures e))
