-- The arguments of a form.
use Rattle.std.specs.Prelude.{List, []}
use Rattle.level_terms.specs.declared.node.TermId.{TermId}
use Rattle.beta_fragment.specs.declared.answer.Whnf.{Whnf}
use Rattle.beta_fragment.specs.declared.answer.Whnf.TheVariants.{Lam, Rigid, Flex, Redex}

-- those behind the head; an abstraction has none
abbrev pub form_args : Whnf → List TermId
form_args (Lam t) = []
form_args (Rigid h ts) = ts
form_args (Flex v ts) = ts
form_args (Redex t ts) = ts
