-- The shape of a term, by its form.
use Rattle.level_terms.specs.Graph.{Graph}
use Rattle.ref_terms.specs.unification.Shape as shape
use Rattle.ref_terms.specs.unification.Shape.{Shape}
use Rattle.beta_fragment.specs.HeadForm.{all_read, rigid_head}
use Rattle.beta_fragment.specs.declared.answer.Whnf.{Whnf}
use Rattle.beta_fragment.specs.declared.answer.Whnf.TheVariants.{Lam, Rigid, Flex, Redex}

-- where no variable is frozen
abbrev pub form_shape : Graph → Whnf → Shape
form_shape g (Lam t) = shape.Abstraction
form_shape g (Rigid h args) = shape.Rigid (rigid_head h) (all_read g args)
form_shape g (Flex v args) = shape.Flex v.index (all_read g args)
form_shape g (Redex t args) = shape.Redex
