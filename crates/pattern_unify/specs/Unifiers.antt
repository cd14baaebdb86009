-- What unification's answers say of unifiers.
use Rattle.std.specs.Prelude.{◌≡◌, false}
use Rattle.ref_terms.specs.unification.Problem.{Problem, Solved, Clashed}
use Rattle.ref_terms.specs.unification.Unification.{unify}
use Rattle.ref_terms.specs.unification.Unifier.{HasNoUnifier}
use Rattle.ref_terms.specs.unification.MostGeneral.{AreUnifier, CoverUnifiers}

-- the bindings that solve the problem are a most general unifier of its equations
abbrev pub IsMostGeneral : Problem → Type 0
IsMostGeneral p = (q : Problem) → unify 0 p ≡ Solved q → AreUnifier 0 p.equations q.bindings × CoverUnifiers 0 p.next_var p.equations q.bindings

-- a clash that is no knot has no unifier
abbrev pub IsWithoutUnifier : Problem → Type 0
IsWithoutUnifier p = unify 0 p ≡ Clashed false → HasNoUnifier 0 p.equations
