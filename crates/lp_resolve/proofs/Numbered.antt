-- The variables that were met, and the map of their numbers.
use Rattle.std.proofs.Common.{◌≡◌, ◌∙◌, ℕ, Bool, true, false, not, cond, nat_eq, ◌&&◌, List, [], ◌∷◌, ◌++◌, length, Option, Some, None, refl, ap, sym, subst}
use Rattle.std.proofs.lemmas.Bool.{eqb-true}
use Rattle.std.specs.Prelude.{position}
use Rattle.std.specs.List.{list_any}
use Rattle.std.specs.Cmp.{nat_eq_equiv}
use Rattle.lp_parser.specs.declared.ast.Place.{Place}
use Rattle.lp_resolve.specs.declared.variable.Variable.{Variable}
use Rattle.lp_resolve.specs.Variables.{Met, is_of, variable, number_in, with_word, met_word, AreNumbered}
use Rattle.lp_resolve.proofs.SymbolPlaces.{place-found, place-missing}
use Rattle.lp_resolve.proofs.Positions.{or_else, position-push, any-found, none-found}

-- a word that has a variable
pub met-known : (now : Met) (names : List Variable) (places : List Place) (place : Place) (w n : ℕ) → record { names = names; places = places } ≡ now → Some n ≡ position (is_of w) names
    → record { names = names; places = places ++ place ∷ [] } ≡ met_word w place now
met-known now names places place w n is found =
    let same : names ≡ with_word w names = rw (any-found (is_of w) names n found) refl in
    ap (λ (vs : List Variable). record { names = vs; places = places ++ place ∷ [] }) same ∙ ap (met_word w place) is

-- a new word
pub met-new : (now : Met) (names : List Variable) (places : List Place) (place : Place) (w : ℕ) → record { names = names; places = places } ≡ now → None ≡ position (is_of w) names
    → record { names = names ++ variable w false ∷ []; places = places ++ place ∷ [] } ≡ met_word w place now
met-new now names places place w is none =
    let same : names ++ variable w false ∷ [] ≡ with_word w names = rw (none-found (is_of w) names none) refl in
    ap (λ (vs : List Variable). record { names = vs; places = places ++ place ∷ [] }) same ∙ ap (met_word w place) is

-- its number
pub number-new : (now : Met) (names : List Variable) (places : List Place) (w : ℕ) → record { names = names; places = places } ≡ now → None ≡ position (is_of w) names → length names ≡ number_in now.names w
number-new now names places w is none = sym (place-missing (is_of w) names (none-found (is_of w) names none)) ∙ ap (λ (m : Met). number_in m.names w) is

-- the map with a new word
pub numbered-new : (names : List Variable) (old new : ℕ → Option ℕ) (w : ℕ) → AreNumbered names old → None ≡ old w → ((q : ℕ) → new q ≡ cond (nat_eq w q) (Some (length names)) (old q))
    → AreNumbered (names ++ variable w false ∷ []) new
numbered-new names old new w are none is q =
    is q ∙ at (nat_eq w q) refl (nat_eq q w) refl (position (is_of q) names) refl ∙ sym (position-push (is_of q) names (variable w false)) where
      at : (t : Bool) → nat_eq w q ≡ t → (u : Bool) → nat_eq q w ≡ u → (o : Option ℕ) → position (is_of q) names ≡ o
          → cond t (Some (length names)) (old q) ≡ or_else o (cond (not false && u) (Some (length names)) None)
      at true e true f None h = refl
      at true e u f (Some i) h =
          let same : w ≡ q = eqb-true w q e in
          let bad : None ≡ Some i = none ∙ are w ∙ ap (λ (k : ℕ). position (is_of k) names) same ∙ h in
          absurd (cc)
      at true e false f None h = absurd (let bad : true ≡ false = sym (nat_eq_equiv.refl q) ∙ ap (nat_eq q) (sym (eqb-true w q e)) ∙ f in cc)
      at false e u f (Some i) h = are q ∙ h
      at false e false f None h = are q ∙ h
      at false e true f None h = absurd (let bad : true ≡ false = sym (nat_eq_equiv.refl w) ∙ ap (nat_eq w) (sym (eqb-true q w f)) ∙ e in cc)
