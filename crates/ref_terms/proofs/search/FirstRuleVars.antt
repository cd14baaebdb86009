-- The first rule instance, where variables are renamed.
use Rattle.std.proofs.Common.{◌≡◌, ℕ, suc, List, [], ◌∷◌, ◌++◌, map, flat_map, refl, sym, ap, ap₂, ◌∙◌, subst, Option, Some, None}
use Rattle.std.proofs.lemmas.List.{map-append}
use Rattle.ref_terms.specs.unification.Unification.{Unification}
use Rattle.ref_terms.specs.search.Fault.{Judged, Good, Bad}
use Rattle.ref_terms.specs.search.Program.{Rule}
use Rattle.ref_terms.specs.search.Branch.{Constraint, Branch}
use Rattle.ref_terms.specs.search.RuleMatch.{heads_of}
use Rattle.ref_terms.specs.search.RuleInstance.{Firing}
use Rattle.ref_terms.specs.search.FirstRule.{picks, tuples, or_later, first_tuple, first_firing}
use Rattle.ref_terms.specs.search.Renamed.{constraint_vars, branch_vars}
use Rattle.ref_terms.specs.search.Alike.{IsRenamingAt}
use Rattle.ref_terms.proofs.search.Fair.{IsFair, Outcome}
use Rattle.ref_terms.proofs.search.ListVars.{map-square}
use Rattle.ref_terms.proofs.search.RuleInstanceVars.{RenamedFiring, rule-instance-vars}

flat-square : {A B C D : Type 0} (f : B → List D) (k : A → B) (h : C → D) (g : A → List C) → ((a : A) → f (k a) ≡ map h (g a)) → (xs : List A) → flat_map f (map k xs) ≡ map h (flat_map g xs)
flat-square f k h g e [] = refl
flat-square f k h g e (x ∷ xs) = ap₂ (λ (a b : List _). a ++ b) (e x) (flat-square f k h g e xs) ∙ sym (map-append h (g x) (flat_map g xs))

module _ (p : ℕ → ℕ) where
  -- a constraint and the others, renamed
  abbrev pick_vars : Constraint × List Constraint → Constraint × List Constraint
  pick_vars q = (constraint_vars p q.0, map (constraint_vars p) q.1)

  picks-vars : (older cs : List Constraint) → picks (map (constraint_vars p) older) (map (constraint_vars p) cs) ≡ map pick_vars (picks older cs)
  picks-vars older [] = refl
  picks-vars older (c ∷ cs) =
      ap₂ (λ (others : List Constraint) (qs : List (Constraint × List Constraint)). (constraint_vars p c, others) ∷ qs) (sym (map-append (constraint_vars p) older cs))
      (ap (λ (zs : List Constraint). picks zs (map (constraint_vars p) cs)) (sym (map-append (constraint_vars p) older (c ∷ []))) ∙ picks-vars (older ++ c ∷ []) cs)

  tuples-vars : {H : Type 0} (hs : List H) (store : List Constraint) → tuples hs (map (constraint_vars p) store) ≡ map (map (constraint_vars p)) (tuples hs store)
  tuples-vars [] store = refl
  tuples-vars (h ∷ hs) store =
      ap (flat_map (λ q. map (λ cs. q.0 ∷ cs) (tuples hs q.1))) (picks-vars [] store)
      ∙ flat-square (λ q. map (λ cs. q.0 ∷ cs) (tuples hs q.1)) pick_vars (map (constraint_vars p)) (λ q. map (λ cs. q.0 ∷ cs) (tuples hs q.1))
      (λ q. ap (map (λ cs. constraint_vars p q.0 ∷ cs)) (tuples-vars hs q.1) ∙ sym (map-square (map (constraint_vars p)) (λ cs. q.0 ∷ cs) (λ cs. constraint_vars p q.0 ∷ cs) (map (constraint_vars p)) (λ cs. refl) (tuples hs q.1)))
      (picks [] store)

or-later-vars : (R : Firing → Firing → Type 0) (a b c d : Option (Judged Firing)) → Outcome R a b → Outcome R c d → Outcome R (or_later a c) (or_later b d)
or-later-vars R None None c d v w = w
or-later-vars R (Some (Good a)) (Some (Good b)) c d v w = v
or-later-vars R (Some (Bad a)) (Some (Bad b)) c d v w = v
or-later-vars R None (Some q) c d v w = elim v [ ]
or-later-vars R (Some (Good a)) None c d v w = elim v [ ]
or-later-vars R (Some (Good a)) (Some (Bad e)) c d v w = elim v [ ]
or-later-vars R (Some (Bad a)) None c d v w = elim v [ ]
or-later-vars R (Some (Bad a)) (Some (Good e)) c d v w = elim v [ ]

module _ (unify : Unification) (fair : IsFair unify) (p : ℕ → ℕ) (branch : Branch) (good : IsRenamingAt branch.next_var p) where
  first-tuple-vars : (place : ℕ) (r : Rule) (css : List (List Constraint)) → Outcome (RenamedFiring p branch.next_var) (first_tuple unify branch place r css) (first_tuple unify (branch_vars p branch) place r (map (map (constraint_vars p)) css))
  first-tuple-vars place r [] = tt
  first-tuple-vars place r (cs ∷ css) = or-later-vars (RenamedFiring p branch.next_var) _ _ _ _ (rule-instance-vars unify fair p branch good place r cs) (first-tuple-vars place r css)

  pub first-firing-vars : (place : ℕ) (rs : List Rule) → Outcome (RenamedFiring p branch.next_var) (first_firing unify branch place rs) (first_firing unify (branch_vars p branch) place rs)
  first-firing-vars place [] = tt
  first-firing-vars place (r ∷ rs) =
      or-later-vars (RenamedFiring p branch.next_var) _ _ _ _
      (subst (λ (css : List (List Constraint)). Outcome (RenamedFiring p branch.next_var) (first_tuple unify branch place r (tuples (heads_of r) branch.store)) (first_tuple unify (branch_vars p branch) place r css)) (sym (tuples-vars p (heads_of r) branch.store)) (first-tuple-vars place r (tuples (heads_of r) branch.store)))
      (first-firing-vars (suc place) rs)
