-- The parts of a form, and a spine as the reference has it.
use Rattle.std.specs.Prelude.{ℕ, List, [], Option, None}
use Rattle.level_terms.specs.declared.node.TermId.{TermId}
use Rattle.level_terms.specs.Graph.{Graph}
use Rattle.ref_terms.specs.unification.Shape as shape
use Rattle.ref_terms.specs.search.Joint.{spine_names}
use Rattle.beta_fragment.specs.declared.answer.Whnf.{Whnf}
use Rattle.beta_fragment.specs.declared.answer.Whnf.TheVariants.{Lam, Rigid, Flex, Redex}
use Rattle.beta_fragment.specs.HeadForm.{all_read}
use Rattle.eigen_align.specs.declared.spine.Spine.{Spine}

-- the arguments of a term of this form
abbrev pub form_args : Whnf → List TermId
form_args (Lam t) = []
form_args (Rigid h ts) = ts
form_args (Flex v ts) = ts
form_args (Redex t ts) = ts

-- a variable's number and the names
abbrev pub spine_read : Spine → ℕ × List ℕ
spine_read s = (s.variable.index, s.names.items)

-- the pattern spine that a term of this form is
abbrev pub form_spine : Graph → Whnf → Option (ℕ × List ℕ)
form_spine g (Lam t) = None
form_spine g (Rigid h ts) = None
form_spine g (Flex v ts) = spine_names (shape.Flex v.index (all_read g ts))
form_spine g (Redex t ts) = None
