use Rattle.std.proofs.Common.{◌∙◌, ap, Some, sym, arith}
use Rattle.level_terms.proofs.ReadLemmas.{valid-below}
use Rattle.beta_fragment.proofs.VarLemmas.{var-known}
use Rattle.pattern_unify.proofs.own.own_variable.Goals as goal

pub view-requires : goal.view-requires
view-requires c = valid-below c.args.heap.now c.args.t.index c.args.depth c.requires

pub var_depth-requires : goal.var_depth-requires
var_depth-requires c = var-known c.args.heap.now c.args.t.index c.in-Var.v c.is_sound.ensures (c.view.ensures ∙ ap Some c.in-Var.is)

pub is_open-requires : goal.is_open-requires
is_open-requires c = var-known c.args.heap.now c.args.t.index c.in-Var.v c.is_sound.ensures (c.view.ensures ∙ ap Some c.in-Var.is)

pub returns-then-is_open : goal.returns-then-is_open
returns-then-is_open c = record {
  node = c.view.ensures ∙ ap Some c.in-Var.is;
  variable = record {
    there = var-known c.args.heap.now c.args.t.index c.in-Var.v c.is_sound.ensures (c.view.ensures ∙ ap Some c.in-Var.is);
    free = c.is_open.ensures c.if-is_open.true;
  };
  assignable = (let h = c.if-v-mark.true in omega (arith, h));
  levels = sym c.var_depth.ensures ∙ c.if-var_depth-depth.true;
}
