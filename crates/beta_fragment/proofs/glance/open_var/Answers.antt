use Rattle.std.proofs.Common.{◌∙◌, ap, Some, sym, subst}
use Rattle.level_terms.specs.Values.{IsVarOf, value_of}
use Rattle.beta_fragment.proofs.VarLemmas.{var-known}
use Rattle.beta_fragment.proofs.FirmLemmas.{var-open}
use Rattle.beta_fragment.proofs.glance.open_var.Goals as goal

pub var_depth-requires : goal.var_depth-requires
var_depth-requires c = var-known c.args.heap.now c.args.t.index c.in-Var.v c.is_sound.ensures (c.view.ensures ∙ ap Some c.in-Var.is)

pub is_free-requires : goal.is_free-requires
is_free-requires c = var-known c.args.heap.now c.args.t.index c.in-Var.v c.is_sound.ensures (c.view.ensures ∙ ap Some c.in-Var.is)

pub returns-then-is_free : goal.returns-then-is_free
returns-then-is_free c =
    let here = c.view.ensures ∙ ap Some c.in-Var.is in
    let free = c.is_free.ensures c.if-is_free.true in
    (var-known c.args.heap.now c.args.t.index c.in-Var.v c.is_sound.ensures here, free, subst (λ n. IsVarOf c.in-Var.v.index n (value_of c.args.heap.now c.args.t)) (sym c.var_depth.ensures ∙ c.if-var_depth-count.true) (var-open c.args.heap.now c.args.t c.in-Var.v c.is_sound.ensures here free))
