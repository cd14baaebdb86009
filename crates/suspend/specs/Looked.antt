-- What looking at a key shows.
use Rattle.std.specs.Prelude.{◌≡◌, ℕ, false, Some}
use Rattle.level_terms.specs.Graph.{Graph}
use Rattle.ref_terms.specs.terms.Term.{Term}
use Rattle.ref_terms.specs.search.Value.{is_flex}
use Rattle.ref_terms.specs.search.Waking.{heading}
use Rattle.beta_fragment.specs.declared.answer.Whnf.{Whnf}
use Rattle.beta_fragment.specs.declared.answer.Whnf.TheVariants.{Lam, Rigid, Flex, Redex}
use Rattle.beta_fragment.specs.HeadForm.{IsHeadForm}

-- the form of a term shows the variable that heads it, or that none does
abbrev pub LooksAt : Term → Whnf → Type 0
LooksAt u (Flex v args) = heading u ≡ Some v.index
LooksAt u (Lam t) = is_flex u ≡ false
LooksAt u (Rigid h args) = is_flex u ≡ false
LooksAt u (Redex t args) = is_flex u ≡ false

abbrev pub FormShowsHeading : Type 0
FormShowsHeading = (g : Graph) (depth : ℕ) (u : Term) (w : Whnf) → IsHeadForm g depth u w → LooksAt u w
