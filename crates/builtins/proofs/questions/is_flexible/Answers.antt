use Rattle.beta_fragment.specs.declared.answer.Whnf.TheVariants.{Rigid, Flex, Redex}
use Rattle.builtins.proofs.QuestionLemmas.{form-flex}
use Rattle.builtins.proofs.questions.is_flexible.Goals as goal

pub returns-in-Flex : goal.returns-in-Flex
returns-in-Flex c = λ g depth u f. form-flex g depth u c.args.form f (Flex c.in-Flex.field-0 c.in-Flex.field-1) c.in-Flex.is

pub returns-in-Rigid : goal.returns-in-Rigid
returns-in-Rigid c = λ g depth u f. form-flex g depth u c.args.form f (Rigid c.in-Rigid.field-0 c.in-Rigid.field-1) c.in-Rigid.is

pub returns : goal.returns
returns c = λ g depth u f. form-flex g depth u c.args.form f (Redex c.in-Redex.field-0 c.in-Redex.field-1) c.in-Redex.is
