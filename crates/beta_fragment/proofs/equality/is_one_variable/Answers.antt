use Rattle.std.proofs.Common.{◌∙◌, ap, Some}
use Rattle.beta_fragment.proofs.PairLemmas.{left-there, right-there, one-variable}
use Rattle.beta_fragment.proofs.equality.is_one_variable.Goals as goal

pub view-requires : goal.view-requires
view-requires c = left-there c.args.heap.now c.args.pair c.requires

pub is_variable-requires : goal.is_variable-requires
is_variable-requires c = right-there c.args.heap.now c.args.pair c.requires

pub returns-in-Var : goal.returns-in-Var
returns-in-Var c = λ q. one-variable c.args.heap.now c.args.pair c.in-Var.v c.is_sound.ensures (c.view.ensures ∙ ap Some c.in-Var.is) (c.is_variable.ensures q)
