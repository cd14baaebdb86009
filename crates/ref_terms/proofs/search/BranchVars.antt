-- A binding applied to a branch, where variables are renamed.
use Rattle.std.proofs.Common.{◌≡◌, ℕ, List, [], ◌∷◌, map, refl, ap, ◌∙◌}
use Rattle.ref_terms.specs.terms.Term.{Term}
use Rattle.ref_terms.specs.terms.Instance.{inst}
use Rattle.ref_terms.specs.terms.Renamed.{vars}
use Rattle.ref_terms.specs.unification.Problem.{Equation, Binding}
use Rattle.ref_terms.specs.unification.Renamed.{equation_vars, binding_vars, IsRenaming}
use Rattle.ref_terms.specs.search.Assumption.{Assumption}
use Rattle.ref_terms.specs.search.Branch.{Goal, Constraint, Branch, bound, bound_equation, bound_assumption, bound_goal, bound_constraint, bound_branch}
use Rattle.ref_terms.specs.search.Renamed.{assumption_vars, goal_vars, constraint_vars, branch_vars}
use Rattle.ref_terms.proofs.unification.RenamedLemmas.{inst-vars}
use Rattle.ref_terms.proofs.search.ListVars.{map-square}

module _ (p : ℕ → ℕ) (m m' : ℕ) (good : IsRenaming p m m') where
  pub bound-vars : (bs : List Binding) (t : Term) → vars p (bound bs t) ≡ bound (map (binding_vars p) bs) (vars p t)
  bound-vars [] t = refl
  bound-vars (b ∷ bs) t = inst-vars p m m' good b.variable b.value (bound bs t) ∙ ap (inst (p b.variable) (vars p b.value)) (bound-vars bs t)

  pub bounds-vars : (bs : List Binding) (ts : List Term) → map (vars p) (map (bound bs) ts) ≡ map (bound (map (binding_vars p) bs)) (map (vars p) ts)
  bounds-vars bs ts = map-square (vars p) (bound bs) (bound (map (binding_vars p) bs)) (vars p) (bound-vars bs) ts

  pub bound-equation-vars : (bs : List Binding) (e : Equation) → equation_vars p (bound_equation bs e) ≡ bound_equation (map (binding_vars p) bs) (equation_vars p e)
  bound-equation-vars bs e = λ i. record { names = e.names; left = bound-vars bs e.left i; right = bound-vars bs e.right i }

  bound-assumption-vars : (bs : List Binding) (h : Assumption) → assumption_vars p (bound_assumption bs h) ≡ bound_assumption (map (binding_vars p) bs) (assumption_vars p h)
  bound-assumption-vars bs h = λ i. record h { head = bound-vars bs h.head i; conditions = bounds-vars bs h.conditions i; assumed = bound-vars bs h.assumed i }

  bound-assumptions-vars : (bs : List Binding) (hs : List Assumption) → map (assumption_vars p) (map (bound_assumption bs) hs) ≡ map (bound_assumption (map (binding_vars p) bs)) (map (assumption_vars p) hs)
  bound-assumptions-vars bs hs = map-square (assumption_vars p) (bound_assumption bs) (bound_assumption (map (binding_vars p) bs)) (assumption_vars p) (bound-assumption-vars bs) hs

  bound-goal-vars : (bs : List Binding) (g : Goal) → goal_vars p (bound_goal bs g) ≡ bound_goal (map (binding_vars p) bs) (goal_vars p g)
  bound-goal-vars bs g = λ i. record g { assumptions = bound-assumptions-vars bs g.assumptions i; term = bound-vars bs g.term i }

  bound-constraint-vars : (bs : List Binding) (c : Constraint) → constraint_vars p (bound_constraint bs c) ≡ bound_constraint (map (binding_vars p) bs) (constraint_vars p c)
  bound-constraint-vars bs c = λ i. record c { assumptions = bound-assumptions-vars bs c.assumptions i; term = bound-vars bs c.term i; keys = bounds-vars bs c.keys i }

  pub bound-branch-vars : (bs : List Binding) (next : ℕ) (b : Branch) → branch_vars p (bound_branch bs next b) ≡ bound_branch (map (binding_vars p) bs) (p next) (branch_vars p b)
  bound-branch-vars bs next b = λ i. record b {
    goals = map-square (goal_vars p) (bound_goal bs) (bound_goal (map (binding_vars p) bs)) (goal_vars p) (bound-goal-vars bs) b.goals i;
    store = map-square (constraint_vars p) (bound_constraint bs) (bound_constraint (map (binding_vars p) bs)) (constraint_vars p) (bound-constraint-vars bs) b.store i;
    query = bounds-vars bs b.query i;
    next_var = p next;
  }
