use Rattle.std.proofs.Common.{ap, ◌∙◌}
use Rattle.beta_fragment.specs.HeadForm.{all_read, rigid_head}
use Rattle.goal_form.specs.Forms.{form_shape}
use Rattle.ref_terms.specs.unification.Shape.{Rigid}
use Rattle.sequent_rules.proofs.ItemLemmas.{is_constant, other-form}
use Rattle.sequent_rules.proofs.lists.list_form_of.Goals as goal

pub returns-in-Rigid-Int-default : goal.returns-in-Rigid-Int-default
returns-in-Rigid-Int-default c = λ g depth u h. other-form g depth u c.args.form h (ap (λ w. is_constant (form_shape g w)) c.in-Rigid-Int-default.is ∙ ap (λ k. is_constant (Rigid (rigid_head k) (all_read g c.in-Rigid-Int-default.field-1))) c.in-Rigid-Int-default.field-0-is)

pub returns-in-Rigid-Str-default : goal.returns-in-Rigid-Str-default
returns-in-Rigid-Str-default c = λ g depth u h. other-form g depth u c.args.form h (ap (λ w. is_constant (form_shape g w)) c.in-Rigid-Str-default.is ∙ ap (λ k. is_constant (Rigid (rigid_head k) (all_read g c.in-Rigid-Str-default.field-1))) c.in-Rigid-Str-default.field-0-is)

pub returns-in-Rigid-Level-default : goal.returns-in-Rigid-Level-default
returns-in-Rigid-Level-default c = λ g depth u h. other-form g depth u c.args.form h (ap (λ w. is_constant (form_shape g w)) c.in-Rigid-Level-default.is ∙ ap (λ k. is_constant (Rigid (rigid_head k) (all_read g c.in-Rigid-Level-default.field-1))) c.in-Rigid-Level-default.field-0-is)

pub returns-in-Flex : goal.returns-in-Flex
returns-in-Flex c = λ g depth u h. other-form g depth u c.args.form h (ap (λ w. is_constant (form_shape g w)) c.in-Flex.is)

pub returns-in-Redex : goal.returns-in-Redex
returns-in-Redex c = λ g depth u h. other-form g depth u c.args.form h (ap (λ w. is_constant (form_shape g w)) c.in-Redex.is)
