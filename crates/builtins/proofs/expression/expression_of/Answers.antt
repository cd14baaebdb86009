use Rattle.std.proofs.Common.{subst}
use Rattle.beta_fragment.specs.HeadForm.{IsHeadForm}
use Rattle.beta_fragment.specs.declared.answer.Whnf.TheVariants.{Flex, Redex}
use Rattle.builtins.proofs.ExpressionLemmas.{value-form}
use Rattle.builtins.proofs.expression.expression_of.Goals as goal

pub returns-in-Flex : goal.returns-in-Flex
returns-in-Flex c = λ g depth u f. value-form g depth u (Flex c.in-Flex.field-0 c.in-Flex.field-1) (subst (IsHeadForm g depth u) c.in-Flex.is f) (λ k xs e. cc) (λ z e. cc)

pub returns-in-Redex : goal.returns-in-Redex
returns-in-Redex c = λ g depth u f. value-form g depth u (Redex c.in-Redex.field-0 c.in-Redex.field-1) (subst (IsHeadForm g depth u) c.in-Redex.is f) (λ k xs e. cc) (λ z e. cc)
