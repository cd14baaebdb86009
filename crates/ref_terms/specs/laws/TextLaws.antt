-- What the laws on a text's terms say.
use Rattle.std.specs.Prelude.{◌≡◌}
use Rattle.ref_terms.specs.terms.Term.{Head, Term}
use Rattle.ref_terms.specs.terms.Eta.{lam}
use Rattle.ref_terms.specs.terms.Apply.{apply, fill}
use Rattle.ref_terms.specs.terms.Text.{text_apply, IsTextBuilt}
use Rattle.ref_terms.specs.laws.TermLaws.{AllBuilt, KeepsReady}

-- application of a text's terms builds as a text is built
abbrev pub TextApplicationBuilds : Type 0
TextApplicationBuilds = (f a : Term) → IsTextBuilt f → IsTextBuilt a → IsTextBuilt (text_apply f a)

-- and so does abstraction
abbrev pub TextAbstractionBuilds : Type 0
TextAbstractionBuilds = (b : Term) → IsTextBuilt b → IsTextBuilt (lam b)

-- an application of a text, rebuilt, is the application of what is rebuilt:
-- so the search has one term for a text, whatever was contracted when it was read
abbrev pub RebuiltTextApplies : Type 0
RebuiltTextApplies = (r : Head → Term) → AllBuilt r → KeepsReady r → (f a : Term) → fill r (text_apply f a) ≡ apply (fill r f) (fill r a)
