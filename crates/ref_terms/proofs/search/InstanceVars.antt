-- Instances of clauses, where variables are renamed.
use Rattle.std.proofs.Common.{◌≡◌, ℕ, zero, suc, ◌+◌, ◌-◌, ◌≤◌, Bool, true, false, cond, map, option_to_list, refl, sym, ap, ap₂, ◌∙◌, arith}
use mathlib.Core.Path.{fun_ext}
use Rattle.ref_terms.specs.terms.Term.{Term, Lam, At, App, Head, Con, Int, Str, Name, Bound, Var}
use Rattle.ref_terms.specs.terms.Index.{next as one_up}
use Rattle.ref_terms.specs.terms.Eta.{lam}
use Rattle.ref_terms.specs.terms.Apply.{apply, below, fill}
use Rattle.ref_terms.specs.terms.Renamed.{vars, vars_head}
use Rattle.ref_terms.specs.lemmas.VarsLemmas.{vars-ren, lam-vars, apply-vars, fill-vars}
use Rattle.ref_terms.specs.unification.Spine.{apply_all}
use Rattle.ref_terms.specs.unification.Closing.{names_below}
use Rattle.ref_terms.specs.search.Program.{Clause}
use Rattle.ref_terms.specs.search.Assumption.{Assumption}
use Rattle.ref_terms.specs.search.Instance.{variable_under, fresh_for_variable, instance, is_parameter, fresh_for_parameter, parameter_instance, ClauseInstance, clause_instance, assumption_instance}
use Rattle.ref_terms.specs.search.State.{Candidate, of_program, of_assumption}
use Rattle.ref_terms.specs.search.Candidates.{candidate_instance}
use Rattle.ref_terms.specs.search.Renamed.{assumption_vars, candidate_vars}
use Rattle.ref_terms.proofs.unification.RenamedLemmas.{apply_all-vars, names-vars}
use Rattle.ref_terms.proofs.unification.RunRenamed.{InOrderFrom}
use Rattle.ref_terms.proofs.search.ListVars.{map-square, map-after}

below-after : (p : ℕ → ℕ) (r : Head → Term) (h : Head) → vars p (below r h) ≡ below (λ k. vars p (r k)) h
below-after p r (Bound zero) = refl
below-after p r (Bound (suc n)) = vars-ren p one_up (r (Bound n))
below-after p r (Con c) = vars-ren p one_up (r (Con c))
below-after p r (Int c) = vars-ren p one_up (r (Int c))
below-after p r (Str c) = vars-ren p one_up (r (Str c))
below-after p r (Name c) = vars-ren p one_up (r (Name c))
below-after p r (Var c) = vars-ren p one_up (r (Var c))

-- renaming after heads were replaced, where the term's own variables are no longer there
pub fill-after : (p : ℕ → ℕ) (r : Head → Term) (t : Term) → vars p (fill r t) ≡ fill (λ h. vars p (r h)) t
fill-after p r (Lam b) = lam-vars p (fill (below r) b) ∙ ap lam (fill-after p (below r) b ∙ ap (λ z. fill z b) (fun_ext (below-after p r)))
fill-after p r (At h) = refl
fill-after p r (App f a) = apply-vars p (fill r f) (fill r a) ∙ ap₂ apply (fill-after p r f) (fill-after p r a)

-- fresh variables stay in order
pub in_order : (p : ℕ → ℕ) (lo : ℕ) → InOrderFrom p lo → (k v : ℕ) → lo ≤ k → p (k + v) ≡ p k + v
in_order p lo h k zero low = let a : k + 0 ≡ k = omega arith in let b : p k ≡ p k + 0 = omega arith in ap p a ∙ b
in_order p lo h k (suc v) low =
    let a : k + suc v ≡ suc (k + v) = omega arith in
    let b : suc (p k + v) ≡ p k + suc v = omega arith in
    ap p a ∙ h (k + v) (omega arith) ∙ ap suc (in_order p lo h k v low) ∙ b

pub variable_under-vars : (p : ℕ → ℕ) (names v : ℕ) → vars p (variable_under names v) ≡ variable_under names (p v)
variable_under-vars p names v = apply_all-vars p (At (Var v)) (map (λ n. At (Name n)) (names_below names)) ∙ ap (apply_all (At (Var (p v)))) (names-vars p (names_below names))

module _ (p : ℕ → ℕ) (next : ℕ) (fresh : InOrderFrom p next) where
  pub from-next : (v : ℕ) → p (next + v) ≡ p next + v
  from-next v = in_order p next fresh next v (omega arith)

  fresh-variable-vars : (names : ℕ) (h : Head) → vars p (fresh_for_variable names next h) ≡ fresh_for_variable names (p next) h
  fresh-variable-vars names (Var v) = variable_under-vars p names (next + v) ∙ ap (variable_under names) (from-next v)
  fresh-variable-vars names (Con c) = refl
  fresh-variable-vars names (Int c) = refl
  fresh-variable-vars names _ = refl

  pub instance-vars : (names : ℕ) (t : Term) → vars p (instance names next t) ≡ instance names (p next) t
  instance-vars names t = fill-after p (fresh_for_variable names next) t ∙ ap (λ z. fill z t) (fun_ext (fresh-variable-vars names))

  fresh-parameter-vars : (h : Assumption) (names : ℕ) (k : Head) → vars p (fresh_for_parameter h names next k) ≡ fresh_for_parameter (assumption_vars p h) names (p next) (vars_head p k)
  fresh-parameter-vars h names (Name n) = go (is_parameter h n)
    where
      go : (b : Bool) → vars p (cond b (variable_under names (next + (n - h.scope))) (At (Name n))) ≡ cond b (variable_under names (p next + (n - h.scope))) (At (Name n))
      go true = variable_under-vars p names (next + (n - h.scope)) ∙ ap (variable_under names) (from-next (n - h.scope))
      go false = refl
  fresh-parameter-vars h names (Con c) = refl
  fresh-parameter-vars h names (Int c) = refl
  fresh-parameter-vars h names _ = refl

  pub parameter-instance-vars : (h : Assumption) (names : ℕ) (t : Term) → vars p (parameter_instance h names next t) ≡ parameter_instance (assumption_vars p h) names (p next) (vars p t)
  parameter-instance-vars h names t = fill-vars p (fresh_for_parameter h names next) (fresh_for_parameter (assumption_vars p h) names (p next)) (fresh-parameter-vars h names) t

  -- a clause ready to be tried, with its variables renamed
  abbrev pub instance_vars : ClauseInstance → ClauseInstance
  instance_vars k = record { next_var = p k.next_var; head = vars p k.head; body = map (vars p) k.body }

  pub clause-instance-vars : (k : Clause) (names : ℕ) → clause_instance k names (p next) ≡ instance_vars (clause_instance k names next)
  clause-instance-vars k names = sym (λ i. record { next_var = from-next k.variables i; head = instance-vars names k.head i; body = map-after (vars p) (instance names next) (instance names (p next)) (instance-vars names) (option_to_list k.body) i })

  pub assumption-instance-vars : (h : Assumption) (names : ℕ) → assumption_instance (assumption_vars p h) names (p next) ≡ instance_vars (assumption_instance h names next)
  assumption-instance-vars h names = sym (λ i. record { next_var = from-next h.parameters i; head = parameter-instance-vars h names h.head i; body = map-square (vars p) (parameter_instance h names next) (parameter_instance (assumption_vars p h) names (p next)) (vars p) (parameter-instance-vars h names) h.conditions i })

  pub candidate-instance-vars : (c : Candidate) (names : ℕ) → candidate_instance (candidate_vars p c) names (p next) ≡ instance_vars (candidate_instance c names next)
  candidate-instance-vars (of_program i k) names = clause-instance-vars k names
  candidate-instance-vars (of_assumption i h) names = assumption-instance-vars h names
