-- The heads of a rule against constraints, where variables are renamed.
use Rattle.std.proofs.Common.{◌≡◌, ℕ, ◌+◌, Bool, ◌&&◌, nat_eq, List, [], ◌∷◌, ◌++◌, map, length, filter, refl, sym, ap, ap₂, ◌∙◌, Option, Some, None}
use Rattle.std.proofs.lemmas.List.{map-append, length-map}
use Rattle.std.specs.List.{list_any}
use Rattle.ref_terms.specs.terms.Term.{Term, At, App, Con}
use Rattle.ref_terms.specs.terms.Renamed.{vars}
use Rattle.ref_terms.specs.unification.Spine.{args_of, head_of}
use Rattle.ref_terms.specs.unification.Problem.{Equation}
use Rattle.ref_terms.specs.unification.Rules.{equations_of}
use Rattle.ref_terms.specs.unification.Renamed.{equation_vars}
use Rattle.ref_terms.specs.search.Program.{Rule, RuleHead, constant_of}
use Rattle.ref_terms.specs.search.Lists.{list_term}
use Rattle.ref_terms.specs.search.Assumption.{Assumption}
use Rattle.ref_terms.specs.search.Instance.{variable_under, instance}
use Rattle.ref_terms.specs.search.Branch.{Constraint}
use Rattle.ref_terms.specs.search.Joint.{over_joint}
use Rattle.ref_terms.specs.search.RuleMatch.{same_constant, fits_head, fit_heads, context_of, context_equations, head_equations, match_equations}
use Rattle.ref_terms.specs.search.Renamed.{assumption_vars, constraint_vars}
use Rattle.ref_terms.proofs.unification.RenamedLemmas.{args-vars}
use Rattle.ref_terms.proofs.unification.RunRenamed.{InOrderFrom}
use Rattle.ref_terms.proofs.search.TermVars.{constant-vars}
use Rattle.ref_terms.proofs.search.ListVars.{filter-vars, map-square}
use Rattle.ref_terms.proofs.search.InstanceVars.{variable_under-vars, instance-vars, from-next}
use Rattle.ref_terms.proofs.search.JointVars.{over-joint-vars}

module _ (p : ℕ → ℕ) where
  fits_head-vars : (h : RuleHead) (c : Constraint) → fits_head h (constraint_vars p c) ≡ fits_head h c
  fits_head-vars h c = ap₂ (λ (o : Option ℕ) (n : ℕ). same_constant (constant_of (head_of h.goal)) o && nat_eq (length (args_of h.goal)) n) (constant-vars p c.term) (ap length (args-vars p c.term) ∙ length-map (args_of c.term) (vars p))

  pub fit_heads-vars : (hs : List RuleHead) (cs : List Constraint) → fit_heads hs (map (constraint_vars p) cs) ≡ fit_heads hs cs
  fit_heads-vars [] cs = refl
  fit_heads-vars (h ∷ hs) [] = refl
  fit_heads-vars (h ∷ hs) (c ∷ cs) = ap₂ (λ (a b : Bool). a && b) (fits_head-vars h c) (fit_heads-vars hs cs)

  list_term-vars : (ts : List Term) → list_term (map (vars p) ts) ≡ vars p (list_term ts)
  list_term-vars [] = refl
  list_term-vars (t ∷ ts) = ap (App (App (At (Con 19)) (vars p t))) (list_term-vars ts)

  context-vars : (r : Rule) (map_of : List ℕ) (c : Constraint) → context_of r map_of (constraint_vars p c) ≡ vars p (context_of r map_of c)
  context-vars r map_of c =
      let chosen : (Assumption → Bool) = λ h. list_any (nat_eq h.pred) r.names in
      ap (λ (hs : List Assumption). list_term (map (λ h. over_joint map_of h.assumed) hs)) (filter-vars (assumption_vars p) chosen chosen (λ h. refl) c.assumptions)
      ∙ ap list_term (sym (map-square (vars p) (λ h. over_joint map_of h.assumed) (λ h. over_joint map_of h.assumed) (assumption_vars p) (λ h. over-joint-vars p map_of h.assumed) (filter chosen c.assumptions)))
      ∙ list_term-vars (map (λ h. over_joint map_of h.assumed) (filter chosen c.assumptions))

  equations-vars : (n : ℕ) (xs ys : List Term) → equations_of n (map (vars p) xs) (map (vars p) ys) ≡ map (equation_vars p) (equations_of n xs ys)
  equations-vars n [] ys = refl
  equations-vars n (x ∷ xs) [] = refl
  equations-vars n (x ∷ xs) (y ∷ ys) = ap (λ (zs : List Equation). record { names = n; left = vars p x; right = vars p y } ∷ zs) (equations-vars n xs ys)

  module _ (next : ℕ) (fresh : InOrderFrom p next) (r : Rule) (names : ℕ) where
    context-equations-vars : (map_of : List ℕ) (c : Constraint) (o : Option ℕ) → context_equations r names (p next) map_of (constraint_vars p c) o ≡ map (equation_vars p) (context_equations r names next map_of c o)
    context-equations-vars map_of c None = refl
    context-equations-vars map_of c (Some v) =
        let left : variable_under names (p next + v) ≡ vars p (variable_under names (next + v)) = ap (variable_under names) (sym (from-next p next fresh v)) ∙ sym (variable_under-vars p names (next + v)) in
        λ i. record { names = names; left = left i; right = context-vars r map_of c i } ∷ []

    argument-equations-vars : (h : RuleHead) (map_of : List ℕ) (c : Constraint)
        → equations_of names (args_of (instance names (p next) h.goal)) (map (over_joint map_of) (args_of (vars p c.term))) ≡ map (equation_vars p) (equations_of names (args_of (instance names next h.goal)) (map (over_joint map_of) (args_of c.term)))
    argument-equations-vars h map_of c =
        ap₂ (equations_of names)
        (ap args_of (sym (instance-vars p next fresh names h.goal)) ∙ args-vars p (instance names next h.goal))
        (ap (map (over_joint map_of)) (args-vars p c.term) ∙ sym (map-square (vars p) (over_joint map_of) (over_joint map_of) (vars p) (over-joint-vars p map_of) (args_of c.term)))
        ∙ equations-vars names (args_of (instance names next h.goal)) (map (over_joint map_of) (args_of c.term))

    head-equations-vars : (h : RuleHead) (map_of : List ℕ) (c : Constraint) → head_equations r names (p next) h map_of (constraint_vars p c) ≡ map (equation_vars p) (head_equations r names next h map_of c)
    head-equations-vars h map_of c =
        ap₂ (λ (xs ys : List Equation). xs ++ ys) (context-equations-vars map_of c h.context) (argument-equations-vars h map_of c)
        ∙ sym (map-append (equation_vars p) (context_equations r names next map_of c h.context) (equations_of names (args_of (instance names next h.goal)) (map (over_joint map_of) (args_of c.term))))

    pub match-equations-vars : (hs : List RuleHead) (ms : List (List ℕ)) (cs : List Constraint) → match_equations r names (p next) hs ms (map (constraint_vars p) cs) ≡ map (equation_vars p) (match_equations r names next hs ms cs)
    match-equations-vars [] ms cs = refl
    match-equations-vars (h ∷ hs) [] cs = refl
    match-equations-vars (h ∷ hs) (m ∷ ms) [] = refl
    match-equations-vars (h ∷ hs) (m ∷ ms) (c ∷ cs) =
        ap₂ (λ (xs ys : List Equation). xs ++ ys) (head-equations-vars h m c) (match-equations-vars hs ms cs)
        ∙ sym (map-append (equation_vars p) (head_equations r names next h m c) (match_equations r names next hs ms cs))
