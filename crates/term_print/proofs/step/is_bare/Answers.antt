use Rattle.std.proofs.Common.{ℕ, nat_eq, sym, ap, ◌∙◌}
use Rattle.term_print.proofs.LookLemmas.{bare-is, bare_form}
use Rattle.term_print.proofs.step.is_bare.Goals as goal

pub returns-in-Rigid : goal.returns-in-Rigid
returns-in-Rigid c = λ g d h. bare-is g d c.args.form.now h ∙ ap bare_form c.in-Rigid.is ∙ ap (λ (n : ℕ). nat_eq n 0) (sym c.len.ensures)

pub returns-in-Flex : goal.returns-in-Flex
returns-in-Flex c = λ g d h. bare-is g d c.args.form.now h ∙ ap bare_form c.in-Flex.is ∙ ap (λ (n : ℕ). nat_eq n 0) (sym c.len-in-Flex.ensures)

pub returns-in-Lam : goal.returns-in-Lam
returns-in-Lam c = λ g d h. bare-is g d c.args.form.now h ∙ ap bare_form c.in-Lam.is

pub returns-in-Redex : goal.returns-in-Redex
returns-in-Redex c = λ g d h. bare-is g d c.args.form.now h ∙ ap bare_form c.in-Redex.is
