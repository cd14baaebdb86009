use Rattle.std.proofs.Common.{◌∙◌}
use Rattle.beta_fragment.specs.declared.answer.Whnf.TheVariants.{Rigid, Flex, Redex}
use Rattle.clause_key.proofs.FormLemmas.{form-key}
use Rattle.clause_key.proofs.key.key_of_form.Goals as goal

pub returns-in-Rigid : goal.returns-in-Rigid
returns-in-Rigid c = λ g depth u f. c.key_of_head.ensures ∙ form-key g depth u c.args.form.now (Rigid c.in-Rigid.head c.in-Rigid.field-1) f c.in-Rigid.is

pub returns-in-Flex : goal.returns-in-Flex
returns-in-Flex c = λ g depth u f. form-key g depth u c.args.form.now (Flex c.in-Flex.field-0 c.in-Flex.field-1) f c.in-Flex.is

pub returns-in-Redex : goal.returns-in-Redex
returns-in-Redex c = λ g depth u f. form-key g depth u c.args.form.now (Redex c.in-Redex.field-0 c.in-Redex.field-1) f c.in-Redex.is
