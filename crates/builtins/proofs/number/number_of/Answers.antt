use Rattle.std.proofs.Common.{subst, sym, ◌∙◌}
use Rattle.beta_fragment.specs.HeadForm.{IsHeadForm, all_read}
use Rattle.beta_fragment.specs.declared.answer.Whnf.TheVariants.{Flex, Redex}
use Rattle.builtins.proofs.ExpressionLemmas.{read-length}
use Rattle.builtins.proofs.NumberLemmas.{operand-form}
use Rattle.builtins.proofs.number.number_of.Goals as goal

pub returns-in-Flex : goal.returns-in-Flex
returns-in-Flex c = λ g depth u f. operand-form g depth u (Flex c.in-Flex.field-0 c.in-Flex.field-1) (subst (IsHeadForm g depth u) c.in-Flex.is f) (λ z e. cc)

pub returns-in-Redex : goal.returns-in-Redex
returns-in-Redex c = λ g depth u f. operand-form g depth u (Redex c.in-Redex.field-0 c.in-Redex.field-1) (subst (IsHeadForm g depth u) c.in-Redex.is f) (λ z e. cc)

pub returns : goal.returns
returns c = λ g depth u f.
    let h = subst (IsHeadForm g depth u) c.in-Rigid.is f in
    c.number_of_head.ensures u (all_read g c.in-Rigid.args) (read-length g c.in-Rigid.args ∙ sym c.len.ensures) h.1
