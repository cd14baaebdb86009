use Rattle.std.proofs.Common.{◌≡◌, ◌∷◌, [], List, length, true, false, sym, ◌∙◌, subst, eq-eqb}
use Rattle.level_terms.specs.declared.node.Node.TheVariants.{Var, App}
use Rattle.level_terms.specs.declared.node.TermId.{TermId}
use Rattle.level_terms.specs.Sound.{IsHead, AllOlder}
use Rattle.level_terms.proofs.GrowthLemmas.{grows-trans}
use Rattle.pattern_unify.proofs.KeepNodes.{node-made, node-kept, levels-kept, levels-older, over-some}
use Rattle.pattern_unify.proofs.keeping.var_over.Goals as goal

pub returns-in_err-args-clause-grows : goal.returns-in_err-args-clause-grows
returns-in_err-args-clause-grows c = grows-trans c.args.heap.now c.var.new.self c.level_nodes.new.heap [] [] [] c.var.ensures.grows c.level_nodes.ensures.grows

pub app-requires-clause-no_application : goal.app-requires-clause-no_application
app-requires-clause-no_application c = subst IsHead (sym (node-kept c.var.new.self c.level_nodes.new.heap c.level_nodes.ensures.grows c.in_ok-head.head.index (Var c.args.x) (node-made c.args.heap.now c.var.new.self (Var c.args.x) c.in_ok-head.head.index c.in_ok-head.ensures.ok.0 c.in_ok-head.ensures.ok.1))) tt

pub app-requires-clause-args : goal.app-requires-clause-args
app-requires-clause-args c = subst (AllOlder (length c.level_nodes.new.heap.nodes)) (sym c.as_slice.ensures.value) (levels-older c.level_nodes.new.heap c.in_ok-args.args.items c.args.levels.now c.in_ok-args.ensures.levels)

pub returns-in_err-node-clause-grows : goal.returns-in_err-node-clause-grows
returns-in_err-node-clause-grows c = grows-trans c.args.heap.now c.level_nodes.new.heap c.app.new.self [] [] [] (grows-trans c.args.heap.now c.var.new.self c.level_nodes.new.heap [] [] [] c.var.ensures.grows c.level_nodes.ensures.grows) c.app.ensures.grows

pub returns-clause-grows : goal.returns-clause-grows
returns-clause-grows c = grows-trans c.args.heap.now c.level_nodes.new.heap c.app.new.self [] [] [] (grows-trans c.args.heap.now c.var.new.self c.level_nodes.new.heap [] [] [] c.var.ensures.grows c.level_nodes.ensures.grows) c.app.ensures.grows

pub returns-clause-over : goal.returns-clause-over
returns-clause-over c =
    let head = node-made c.args.heap.now c.var.new.self (Var c.args.x) c.in_ok-head.head.index c.in_ok-head.ensures.ok.0 c.in_ok-head.ensures.ok.1 in
    let kept = node-kept c.var.new.self c.level_nodes.new.heap c.level_nodes.ensures.grows c.in_ok-head.head.index (Var c.args.x) head in
    over-some c.app.new.self c.in_ok-node.node.index c.args.x c.args.levels.now (λ e. let z : false ≡ true = c.if-is_empty.ensures ∙ eq-eqb (length c.args.levels.now) 0 e in cc)
    (record {
      head = c.in_ok-head.head;
      args = c.in_ok-args.args.items;
      node = node-made c.level_nodes.new.heap c.app.new.self (App c.in_ok-head.head c.in_ok-args.args.items) c.in_ok-node.node.index c.in_ok-node.ensures.ok.0
          (subst (λ (ts : List TermId). c.app.new.self ≡ record c.level_nodes.new.heap { nodes = App c.in_ok-head.head ts ∷ c.level_nodes.new.heap.nodes }) c.as_slice.ensures.value c.in_ok-node.ensures.ok.1);
      variable = node-kept c.level_nodes.new.heap c.app.new.self c.app.ensures.grows c.in_ok-head.head.index (Var c.args.x) kept;
      are = levels-kept c.level_nodes.new.heap c.app.new.self c.app.ensures.grows c.in_ok-args.args.items c.args.levels.now c.in_ok-args.ensures.levels;
    })
