-- What `unify` binds is a most general unifier.
use Rattle.std.specs.Prelude.{◌≡◌, ℕ, ◌<◌, ◌≤◌, cond, nat_eq, List, [], ◌∷◌}
use Rattle.ref_terms.specs.terms.Term.{Term}
use Rattle.ref_terms.specs.terms.Instance.{inst_all}
use Rattle.ref_terms.specs.unification.Problem.{Equation, Binding, Problem, Solved}
use Rattle.ref_terms.specs.unification.Unification.{unify}
use Rattle.ref_terms.specs.unification.Unifier.{IsChoice, IsUnifier}
use Rattle.ref_terms.specs.unification.Proper.{AreProper}

-- the binding followed by the choice s: its variable gets the value under s, and the others what s gives
abbrev pub follow : Binding → (s : ℕ → Term) → ℕ → Term
follow b s v = cond (nat_eq b.variable v) (inst_all s b.value) (s v)

-- all bindings followed by the choice s, in the order in which they were made; the list has the newest first
abbrev pub through : List Binding → (s : ℕ → Term) → ℕ → Term
through [] s = s
through (b ∷ bs) s = through bs (follow b s)

-- followed by any choice, the bindings are a unifier
abbrev pub AreUnifier : (m : ℕ) → List Equation → List Binding → Type 0
AreUnifier m es bs = (s : ℕ → Term) → IsChoice m s → IsChoice m (through bs s) × IsUnifier (through bs s) es

-- each unifier agrees with the bindings followed by some choice, on the variables of the problem, which are those below the next one
abbrev pub CoverUnifiers : (m next_var : ℕ) → List Equation → List Binding → Type 0
CoverUnifiers m q es bs = (u : ℕ → Term) → IsChoice m u → IsUnifier u es → (s : ℕ → Term) × IsChoice m s × ((v : ℕ) → v < q → u v ≡ through bs s v)

-- both, of the bindings that `unify` gives:
-- the frozen variables are below the next one, else a fresh one would be frozen,
-- the equations are proper, and there are no bindings yet, so that all that are given were made here
abbrev pub MostGeneral : Type 0
MostGeneral = (m : ℕ) (p q : Problem) → m ≤ p.next_var → AreProper p.next_var p.equations → p.bindings ≡ []
    → unify m p ≡ Solved q
    → AreUnifier m p.equations q.bindings × CoverUnifiers m p.next_var p.equations q.bindings
