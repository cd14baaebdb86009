use Rattle.std.proofs.Common.{◌∙◌, ap, Some}
use Rattle.beta_fragment.specs.Firm.{IsPlain}
use Rattle.beta_fragment.proofs.VarLemmas.{var-known}
use Rattle.beta_fragment.proofs.FirmLemmas.{by-node, level-plain, var-plain}
use Rattle.beta_fragment.proofs.glance.is_plain.Goals as goal

pub is_free-requires : goal.is_free-requires
is_free-requires c = var-known c.args.heap.now c.args.t.index c.in-Var.v c.is_sound.ensures (c.view.ensures ∙ ap Some c.in-Var.is)

pub returns-in-Con : goal.returns-in-Con
returns-in-Con c = λ _. by-node IsPlain c.args.heap.now c.args.t.index _ c.is_sound.ensures (c.view.ensures ∙ ap Some c.in-Con.is) (λ env p. tt)

pub returns-in-Int : goal.returns-in-Int
returns-in-Int c = λ _. by-node IsPlain c.args.heap.now c.args.t.index _ c.is_sound.ensures (c.view.ensures ∙ ap Some c.in-Int.is) (λ env p. tt)

pub returns-in-Str : goal.returns-in-Str
returns-in-Str c = λ _. by-node IsPlain c.args.heap.now c.args.t.index _ c.is_sound.ensures (c.view.ensures ∙ ap Some c.in-Str.is) (λ env p. tt)

pub returns-in-Level : goal.returns-in-Level
returns-in-Level c = λ _. level-plain c.args.heap.now c.args.t.index _ c.is_sound.ensures (c.view.ensures ∙ ap Some c.in-Level.is)

pub returns-in-Var : goal.returns-in-Var
returns-in-Var c = λ q. var-plain c.args.heap.now c.args.t.index c.in-Var.v c.is_sound.ensures (c.view.ensures ∙ ap Some c.in-Var.is) (c.is_free.ensures q)
