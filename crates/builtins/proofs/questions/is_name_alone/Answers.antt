use Rattle.std.proofs.Common.{subst, ◌∙◌, sym}
use Rattle.beta_fragment.specs.HeadForm.{IsHeadForm, all_read}
use Rattle.beta_fragment.specs.declared.answer.Whnf.TheVariants.{Flex, Redex}
use Rattle.builtins.proofs.ExpressionLemmas.{read-length}
use Rattle.builtins.proofs.QuestionLemmas.{form-no_name}
use Rattle.builtins.proofs.questions.is_name_alone.Goals as goal

pub returns-in-Rigid : goal.returns-in-Rigid
returns-in-Rigid c = λ g depth u f. c.is_level_alone.ensures u (all_read g c.in-Rigid.args) (read-length g c.in-Rigid.args ∙ sym c.len.ensures) (subst (IsHeadForm g depth u) c.in-Rigid.is f).1

pub returns-in-Flex : goal.returns-in-Flex
returns-in-Flex c = λ g depth u f. form-no_name g depth u (Flex c.in-Flex.field-0 c.in-Flex.field-1) (subst (IsHeadForm g depth u) c.in-Flex.is f) (λ n e. cc)

pub returns : goal.returns
returns c = λ g depth u f. form-no_name g depth u (Redex c.in-Redex.field-0 c.in-Redex.field-1) (subst (IsHeadForm g depth u) c.in-Redex.is f) (λ n e. cc)
