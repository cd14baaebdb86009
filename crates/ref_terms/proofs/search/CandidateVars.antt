-- The clauses of a call, where variables are renamed.
use Rattle.std.proofs.Common.{◌≡◌, ℕ, suc, Bool, true, false, cond, nat_eq, List, [], ◌∷◌, ◌++◌, map, length, refl, sym, ap, ap₂, ◌∙◌, Option, Some, None}
use Rattle.std.proofs.lemmas.List.{map-append, length-map}
use Rattle.ref_terms.specs.terms.Term.{Term}
use Rattle.ref_terms.specs.terms.Renamed.{vars}
use Rattle.ref_terms.specs.search.Program.{Program, Clause, headed_by, modes_of}
use Rattle.ref_terms.specs.search.Assumption.{Assumption}
use Rattle.ref_terms.specs.search.State.{Candidate, of_program, of_assumption}
use Rattle.ref_terms.specs.search.Candidates.{choice_of, from_place, program_candidates, assumptions_for, candidates, checked_arity, call_fault}
use Rattle.ref_terms.specs.search.Renamed.{assumption_vars, candidate_vars}
use Rattle.ref_terms.proofs.search.ListVars.{filter-vars}

module _ (p : ℕ → ℕ) where
  pub choice-vars : (c : Candidate) → choice_of (candidate_vars p c) ≡ choice_of c
  choice-vars (of_program i k) = refl
  choice-vars (of_assumption i h) = refl

  placed-vars : (i : ℕ) (hs : List Assumption) → from_place of_assumption i (map (assumption_vars p) hs) ≡ map (candidate_vars p) (from_place of_assumption i hs)
  placed-vars i [] = refl
  placed-vars i (h ∷ hs) = ap (λ (cs : List Candidate). of_assumption i (assumption_vars p h) ∷ cs) (placed-vars (suc i) hs)

  program-vars : (c i : ℕ) (ks : List Clause) → program_candidates c i ks ≡ map (candidate_vars p) (program_candidates c i ks)
  program-vars c i [] = refl
  program-vars c i (k ∷ ks) = ap (λ (cs : List Candidate). cond (headed_by c k.head) (of_program i k ∷ cs) cs) (program-vars c (suc i) ks) ∙ go (headed_by c k.head)
    where
      go : (b : Bool) → cond b (of_program i k ∷ map (candidate_vars p) (program_candidates c (suc i) ks)) (map (candidate_vars p) (program_candidates c (suc i) ks)) ≡ map (candidate_vars p) (cond b (of_program i k ∷ program_candidates c (suc i) ks) (program_candidates c (suc i) ks))
      go true = refl
      go false = refl

  for-vars : (c : ℕ) (hs : List Assumption) → assumptions_for c (map (assumption_vars p) hs) ≡ map (assumption_vars p) (assumptions_for c hs)
  for-vars c hs = filter-vars (assumption_vars p) (λ h. nat_eq c h.pred) (λ h. nat_eq c h.pred) (λ h. refl) hs

  pub candidates-vars : (program : Program) (c : ℕ) (hs : List Assumption) → candidates program c (map (assumption_vars p) hs) ≡ map (candidate_vars p) (candidates program c hs)
  candidates-vars program c hs =
      ap₂ (λ (xs ys : List Candidate). xs ++ ys) (ap (from_place of_assumption 0) (for-vars c hs) ∙ placed-vars 0 (assumptions_for c hs)) (program-vars c 0 program.clauses)
      ∙ sym (map-append (candidate_vars p) (from_place of_assumption 0 (assumptions_for c hs)) (program_candidates c 0 program.clauses))

  arity-vars : (n : ℕ) (o : Option (List Bool)) (hs : List Assumption) → checked_arity n o (map (assumption_vars p) hs) ≡ checked_arity n o hs
  arity-vars n (Some ms) hs = refl
  arity-vars n None [] = refl
  arity-vars n None (h ∷ hs) = refl

  pub call_fault-vars : (program : Program) (c : ℕ) (ts : List Term) (hs : List Assumption) → call_fault program c (map (vars p) ts) (map (assumption_vars p) hs) ≡ call_fault program c ts hs
  call_fault-vars program c ts hs = ap₂ (λ (n : ℕ) (ks : List Assumption). checked_arity n (modes_of program c) ks) (length-map ts (vars p)) (for-vars c hs) ∙ arity-vars (length ts) (modes_of program c) (assumptions_for c hs)
