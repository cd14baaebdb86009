use Rattle.std.proofs.Common.{◌∙◌, ap, Some}
use Rattle.beta_fragment.specs.Firm.{IsPlain, IsFirm}
use Rattle.beta_fragment.proofs.VarLemmas.{var-known}
use Rattle.beta_fragment.proofs.FirmLemmas.{by-node, var-plain, var-firm}
use Rattle.beta_fragment.proofs.glance.is_firm_head.Goals as goal

pub is_free-requires : goal.is_free-requires
is_free-requires c = var-known c.args.heap.now c.args.t.index c.in-Var.v c.is_sound.ensures (c.view.ensures ∙ ap Some c.in-Var.is)

pub returns-in-Con-clause-firm : goal.returns-in-Con-clause-firm
returns-in-Con-clause-firm c = λ _. by-node IsFirm c.args.heap.now c.args.t.index _ c.is_sound.ensures (c.view.ensures ∙ ap Some c.in-Con.is) (λ env p. tt)

pub returns-in-Con-clause-plain : goal.returns-in-Con-clause-plain
returns-in-Con-clause-plain c = λ _. by-node IsPlain c.args.heap.now c.args.t.index _ c.is_sound.ensures (c.view.ensures ∙ ap Some c.in-Con.is) (λ env p. tt)

pub returns-in-Int-clause-firm : goal.returns-in-Int-clause-firm
returns-in-Int-clause-firm c = λ _. by-node IsFirm c.args.heap.now c.args.t.index _ c.is_sound.ensures (c.view.ensures ∙ ap Some c.in-Int.is) (λ env p. tt)

pub returns-in-Int-clause-plain : goal.returns-in-Int-clause-plain
returns-in-Int-clause-plain c = λ _. by-node IsPlain c.args.heap.now c.args.t.index _ c.is_sound.ensures (c.view.ensures ∙ ap Some c.in-Int.is) (λ env p. tt)

pub returns-in-Str-clause-firm : goal.returns-in-Str-clause-firm
returns-in-Str-clause-firm c = λ _. by-node IsFirm c.args.heap.now c.args.t.index _ c.is_sound.ensures (c.view.ensures ∙ ap Some c.in-Str.is) (λ env p. tt)

pub returns-in-Str-clause-plain : goal.returns-in-Str-clause-plain
returns-in-Str-clause-plain c = λ _. by-node IsPlain c.args.heap.now c.args.t.index _ c.is_sound.ensures (c.view.ensures ∙ ap Some c.in-Str.is) (λ env p. tt)

pub returns-in-Var-clause-firm : goal.returns-in-Var-clause-firm
returns-in-Var-clause-firm c = λ q. var-firm c.args.heap.now c.args.t.index c.in-Var.v c.is_sound.ensures (c.view.ensures ∙ ap Some c.in-Var.is) (c.is_free.ensures q)

pub returns-in-Var-clause-plain : goal.returns-in-Var-clause-plain
returns-in-Var-clause-plain c = λ q. var-plain c.args.heap.now c.args.t.index c.in-Var.v c.is_sound.ensures (c.view.ensures ∙ ap Some c.in-Var.is) (c.is_free.ensures q)
