-- The name that an argument of a spine is, by its form.
use Rattle.std.specs.Prelude.{ℕ, List, [], ◌∷◌, Option, Some, None}
use Rattle.level_terms.specs.declared.node.TermId.{TermId}
use Rattle.beta_fragment.specs.declared.answer.RigidHead.{RigidHead}
use Rattle.beta_fragment.specs.declared.answer.RigidHead.TheVariants.{Con, Int, Str, Level}
use Rattle.beta_fragment.specs.declared.answer.Whnf.{Whnf}
use Rattle.beta_fragment.specs.declared.answer.Whnf.TheVariants.{Lam, Rigid, Flex, Redex}

-- the level that a head without arguments names
abbrev pub bare_level : RigidHead → List TermId → Option ℕ
bare_level (Level l) [] = Some l
bare_level (Level l) (a ∷ more) = None
bare_level (Con c) ts = None
bare_level (Int n) ts = None
bare_level (Str s) ts = None

-- the name that a term of this form is
abbrev pub form_name : Whnf → Option ℕ
form_name (Lam t) = None
form_name (Rigid h ts) = bare_level h ts
form_name (Flex v ts) = None
form_name (Redex t ts) = None
