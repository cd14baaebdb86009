-- A derivation: `pi x\ (q x => sigma q)` follows from `q X :- r X.` and nothing else, since the assumption is q of the new name.
use Rattle.std.proofs.Common.{◌≡◌, ℕ, ◌≤◌, false, [], ◌∷◌, Some, refl, arith}
use Rattle.ref_terms.specs.terms.Term.{Term, Lam, App, At, Name}
use Rattle.ref_terms.specs.terms.Ready.{ready}
use Rattle.ref_terms.specs.terms.Occurs.{has_name}
use Rattle.ref_terms.specs.search.Program.{Clause}
use Rattle.ref_terms.specs.search.Derivable.{Derivable, IsChosen, for_all, assuming, exists, by_assumption, no_goals}
use Rattle.ref_terms.proofs.Samples.{constant, variable, bound}

-- `q X :- r X`
abbrev clause : Clause
clause = record { variables = 1; head = App (constant 25) (variable 0); body = Some (App (constant 26) (variable 0)) }

-- the goal
abbrev goal : Term
goal = App (constant 7) (Lam (App (App (constant 5) (App (constant 25) (bound 0))) (App (constant 8) (constant 25))))

-- the new name, which is number 0
abbrev new_name : Term
new_name = At (Name 0)

-- no name from 1 on stands in it
no_later_name : (x : ℕ) → 1 ≤ x → has_name x new_name ≡ false
no_later_name x h = grind arith

-- it may be chosen under one name
new_name_chosen : IsChosen 1 new_name
new_name_chosen = record { built = tt; closed = λ f. refl; scoped = no_later_name }

-- the goal is derivable
pub derivation : Derivable (clause ∷ []) 0 [] goal
unfolding ready
derivation = for_all _ refl (assuming _ _ _ refl refl (exists _ new_name refl new_name_chosen
    (by_assumption 25 (new_name ∷ []) 0 _ (λ v. new_name) refl refl (λ v. new_name_chosen) refl no_goals)))
