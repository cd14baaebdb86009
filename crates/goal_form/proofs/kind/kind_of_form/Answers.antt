use Rattle.std.proofs.Common.{◌≡◌, ◌∙◌, subst}
use Rattle.beta_fragment.specs.HeadForm.{IsHeadForm}
use Rattle.beta_fragment.specs.declared.answer.Whnf.TheVariants.{Rigid, Flex, Redex}
use Rattle.goal_form.proofs.FormLemmas.{form-kind}
use Rattle.goal_form.proofs.kind.kind_of_form.Goals as goal

pub returns-in-Redex : goal.returns-in-Redex
returns-in-Redex c = λ g depth u f. (form-kind g depth u c.args.form f (Redex c.in-Redex.field-0 c.in-Redex.field-1) c.in-Redex.is, tt)

pub returns-in-Flex : goal.returns-in-Flex
returns-in-Flex c = λ g depth u f. (form-kind g depth u c.args.form f (Flex c.in-Flex.field-0 c.in-Flex.field-1) c.in-Flex.is, tt)

pub returns : goal.returns
returns c = λ g depth u f.
    let k = c.rigid_kind.ensures g depth (subst (IsHeadForm g depth u) c.in-Rigid.is f).0 in
    (k.0 ∙ form-kind g depth u c.args.form f (Rigid c.in-Rigid.head c.in-Rigid.args) c.in-Rigid.is, k.1)
