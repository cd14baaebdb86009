-- Clauses, assumptions and resolution bring no variable from the next one on into use.
use Rattle.std.proofs.Common.{◌≡◌, ℕ, zero, suc, ◌+◌, ◌≤◌, ◌<◌, Bool, true, false, cond, nat_eq, nat_lt, List, [], ◌∷◌, ◌++◌, map, length, filter, refl, Option, Some, None, arith, replicate, unwrap_or, option_to_list}
use Rattle.ref_terms.specs.terms.Term.{Term, At, App, Head, Con, Int, Str, Name, Bound, Var}
use Rattle.ref_terms.specs.terms.Apply.{apply}
use Rattle.ref_terms.specs.unification.Spine.{args_of, head_of}
use Rattle.ref_terms.specs.unification.Shape.{Shape, Abstraction, Redex, Rigid, Flex, shape}
use Rattle.ref_terms.specs.unification.Closing.{close}
use Rattle.ref_terms.specs.unification.Problem.{Equation, Binding, Problem, Answer, Solved, Clashed, Faulted as UnifyFaulted}
use Rattle.ref_terms.specs.unification.Unification.{unify}
use Rattle.ref_terms.specs.search.Reserved.{Reserved, True_word, Fail_word, Cut_word, And_word, Or_word, Implies_word, If_word, Pi_word, Sigma_word, Equal_word, Same_word, Var_word, Name_word, Is_word, Less_word, Print_word, Beta_word, Suspend_word, Nil_word, Cons_word, Plus_word, Minus_word, Times_word, Nonvar_word, Distinct_word, word_of, if_term, implies_term, pi_term}
use Rattle.ref_terms.specs.search.Fault.{Judged, Good, Bad, judged_map, judged_append}
use Rattle.ref_terms.specs.declared.fault.Fault.TheVariants.{FlexClause, NotGoal}
use Rattle.ref_terms.specs.search.Program.{Program, Clause, constant_of, headed_by}
use Rattle.ref_terms.specs.search.Assumption.{Assumption, guarded, quantified, clause_form, clause_at, constants, read_at, assumptions_of}
use Rattle.ref_terms.specs.search.Instance.{ClauseInstance, instance, parameter_instance}
use Rattle.ref_terms.specs.search.Branch.{Goal, Constraint, Branch, bound, bound_equation, bound_assumption, bound_goal, bound_constraint, bound_branch}
use Rattle.ref_terms.specs.search.State.{Candidate, of_program, of_assumption}
use Rattle.ref_terms.specs.search.Candidates.{candidate_instance, from_place, program_candidates, assumptions_for, candidates}
use Rattle.ref_terms.specs.search.Resolve.{Tried, Fits, Clashes, Breaks, equations_at, entered, unified, matched, try_instance, try, Resolved, decided, resolve}
use Rattle.ref_terms.specs.search.Next.{constant_modes, resolve_later}
use Rattle.ref_terms.specs.search.Used.{Every, UsesBelow, AssumptionBelow, GoalBelow, ConstraintBelow, BranchBelow}
use Rattle.ref_terms.specs.search.Below.{ClauseBelow, CandidateBelow}
use Rattle.ref_terms.proofs.search.TouchedLemmas.{every-append, every-weaker, every-mapped}
use Rattle.ref_terms.proofs.search.BelowTerms.{every-filter, uses-more, uses-app, uses-apply, uses-inst, uses-close, uses-args, ShapeBelow, uses-shape, uses-instance, uses-parameter}
use Rattle.ref_terms.proofs.search.BelowUnify.{EquationBelow, BindingBelow, bindings-more, ProblemBelow, AnswerBelow, unify-below}

-- more variables
pub terms-more : (q r : ℕ) → q ≤ r → (ts : List Term) → Every (UsesBelow q) ts → Every (UsesBelow r) ts
terms-more q r l ts w = every-weaker (UsesBelow q) (UsesBelow r) (λ t k. uses-more q r l t k) ts w

pub assumption-more : (q r : ℕ) → q ≤ r → (h : Assumption) → AssumptionBelow q h → AssumptionBelow r h
assumption-more q r l h w = (uses-more q r l h.head w.0, terms-more q r l h.conditions w.1, uses-more q r l h.assumed w.2)

pub assumptions-more : (q r : ℕ) → q ≤ r → (hs : List Assumption) → Every (AssumptionBelow q) hs → Every (AssumptionBelow r) hs
assumptions-more q r l hs w = every-weaker (AssumptionBelow q) (AssumptionBelow r) (λ h k. assumption-more q r l h k) hs w

pub goals-more : (q r : ℕ) → q ≤ r → (gs : List Goal) → Every (GoalBelow q) gs → Every (GoalBelow r) gs
goals-more q r l gs w = every-weaker (GoalBelow q) (GoalBelow r) (λ g k. (assumptions-more q r l g.assumptions k.0, uses-more q r l g.term k.1)) gs w

pub constraints-more : (q r : ℕ) → q ≤ r → (cs : List Constraint) → Every (ConstraintBelow q) cs → Every (ConstraintBelow r) cs
constraints-more q r l cs w = every-weaker (ConstraintBelow q) (ConstraintBelow r) (λ c k. (assumptions-more q r l c.assumptions k.0, uses-more q r l c.term k.1, terms-more q r l c.keys k.2)) cs w

-- what stands in a branch is below a number, whatever its next variable
abbrev pub AllBelow : ℕ → Branch → Type 0
AllBelow q b = Every (GoalBelow q) b.goals × Every (ConstraintBelow q) b.store × Every (UsesBelow q) b.query

pub all-more : (q r : ℕ) → q ≤ r → (b : Branch) → AllBelow q b → AllBelow r b
all-more q r l b w = (goals-more q r l b.goals w.0, constraints-more q r l b.store w.1, terms-more q r l b.query w.2)

-- bindings
module _ (q : ℕ) where
  pub term-bound : (bs : List Binding) → Every (BindingBelow q) bs → (t : Term) → UsesBelow q t → UsesBelow q (bound bs t)
  term-bound [] k t w = w
  term-bound (b ∷ bs) k t w = uses-inst q b.variable b.value (bound bs t) k.0 (term-bound bs k.1 t w)

  module _ (bs : List Binding) (k : Every (BindingBelow q) bs) where
    terms-bound : (ts : List Term) → Every (UsesBelow q) ts → Every (UsesBelow q) (map (bound bs) ts)
    terms-bound ts w = every-mapped (UsesBelow q) (bound bs) ts (every-weaker (UsesBelow q) (λ t. UsesBelow q (bound bs t)) (λ t z. term-bound bs k t z) ts w)

    assumptions-bound : (hs : List Assumption) → Every (AssumptionBelow q) hs → Every (AssumptionBelow q) (map (bound_assumption bs) hs)
    assumptions-bound hs w = every-mapped (AssumptionBelow q) (bound_assumption bs) hs
        (every-weaker (AssumptionBelow q) (λ h. AssumptionBelow q (bound_assumption bs h)) (λ h z. (term-bound bs k h.head z.0, terms-bound h.conditions z.1, term-bound bs k h.assumed z.2)) hs w)

    goals-bound : (gs : List Goal) → Every (GoalBelow q) gs → Every (GoalBelow q) (map (bound_goal bs) gs)
    goals-bound gs w = every-mapped (GoalBelow q) (bound_goal bs) gs
        (every-weaker (GoalBelow q) (λ g. GoalBelow q (bound_goal bs g)) (λ g z. (assumptions-bound g.assumptions z.0, term-bound bs k g.term z.1)) gs w)

    constraints-bound : (cs : List Constraint) → Every (ConstraintBelow q) cs → Every (ConstraintBelow q) (map (bound_constraint bs) cs)
    constraints-bound cs w = every-mapped (ConstraintBelow q) (bound_constraint bs) cs
        (every-weaker (ConstraintBelow q) (λ c. ConstraintBelow q (bound_constraint bs c)) (λ c z. (assumptions-bound c.assumptions z.0, term-bound bs k c.term z.1, terms-bound c.keys z.2)) cs w)

    pub equations-bound : (es : List Equation) → Every (EquationBelow q) es → Every (EquationBelow q) (map (bound_equation bs) es)
    equations-bound es w = every-mapped (EquationBelow q) (bound_equation bs) es
        (every-weaker (EquationBelow q) (λ e. EquationBelow q (bound_equation bs e)) (λ e z. (term-bound bs k e.left z.0, term-bound bs k e.right z.1)) es w)

    pub branch-bound : (b : Branch) → AllBelow q b → BranchBelow (bound_branch bs q b)
    branch-bound b w = (goals-bound b.goals w.0, constraints-bound b.store w.1, terms-bound b.query w.2)

-- assumptions that are read from a term
abbrev pub ReadBelow : ℕ → Judged (List Assumption) → Type 0
ReadBelow q (Good hs) = Every (AssumptionBelow q) hs
ReadBelow q (Bad e) = Unit {0}

pub append-below : (q : ℕ) (a b : Judged (List Assumption)) → ReadBelow q a → ReadBelow q b → ReadBelow q (judged_append a b)
append-below q (Good xs) (Good ys) u w = every-append (AssumptionBelow q) xs ys u w
append-below q (Good xs) (Bad e) u w = tt
append-below q (Bad e) b u w = tt

each-below : (q : ℕ) (f : Assumption → Assumption) → ((h : Assumption) → AssumptionBelow q h → AssumptionBelow q (f h)) → (a : Judged (List Assumption)) → ReadBelow q a → ReadBelow q (judged_map (map f) a)
each-below q f k (Good hs) w = every-mapped (AssumptionBelow q) f hs (every-weaker (AssumptionBelow q) (λ h. AssumptionBelow q (f h)) k hs w)
each-below q f k (Bad e) w = tt

module _ (q : ℕ) where
  constant-uses : (c : ℕ) → UsesBelow q (At (Con c))
  constant-uses c v h = refl

  module _ (read : ℕ → Term → Judged (List Assumption)) (k : (n : ℕ) (t : Term) → UsesBelow q t → ReadBelow q (read n t)) (scope bound : ℕ) where
    guarded-below : (g : Term) (form : Term → Term) → UsesBelow q g → ((a : Term) → UsesBelow q a → UsesBelow q (form a)) → (d : Term) → UsesBelow q d → ReadBelow q (judged_map (map (guarded g form)) (read bound d))
    guarded-below g form u l d w = each-below q (guarded g form) (λ h z. (z.0, (u, z.1), l h.assumed z.2)) (read bound d) (k bound d w)

    form-below : (c : ℕ) (o : Option Reserved) (ts : List Term) (t : Term) → Every (UsesBelow q) ts → UsesBelow q t → ReadBelow q (clause_form read scope bound c o ts t)
    form-below c None ts t u w = ((w, tt, w), tt)
    form-below c (Some Nonvar_word) ts t u w = ((w, tt, w), tt)
    form-below c (Some Distinct_word) ts t u w = ((w, tt, w), tt)
    form-below c (Some And_word) [] t u w = tt
    form-below c (Some And_word) (a ∷ []) t u w = tt
    form-below c (Some And_word) (a ∷ b ∷ []) t u w = append-below q (read bound a) (read bound b) (k bound a u.0) (k bound b u.1.0)
    form-below c (Some And_word) (a ∷ b ∷ d ∷ ts) t u w = tt
    form-below c (Some If_word) [] t u w = tt
    form-below c (Some If_word) (a ∷ []) t u w = tt
    form-below c (Some If_word) (a ∷ b ∷ []) t u w = guarded-below b (λ x. if_term x b) u.1.0 (λ x z. uses-app q (App (At (Con 6)) x) b (uses-app q (At (Con 6)) x (constant-uses 6) z) u.1.0) a u.0
    form-below c (Some If_word) (a ∷ b ∷ d ∷ ts) t u w = tt
    form-below c (Some Implies_word) [] t u w = tt
    form-below c (Some Implies_word) (a ∷ []) t u w = tt
    form-below c (Some Implies_word) (a ∷ b ∷ []) t u w = guarded-below a (implies_term a) u.0 (λ x z. uses-app q (App (At (Con 5)) a) x (uses-app q (At (Con 5)) a (constant-uses 5) u.0) z) b u.1.0
    form-below c (Some Implies_word) (a ∷ b ∷ d ∷ ts) t u w = tt
    form-below c (Some Pi_word) [] t u w = tt
    form-below c (Some Pi_word) (f ∷ []) t u w =
        let x = scope + bound in
        each-below q (quantified x) (λ h z. (z.0, z.1, uses-app q (At (Con 7)) (close x h.assumed) (constant-uses 7) (uses-close q x h.assumed z.2))) (read (suc bound) (apply f (At (Name x))))
        (k (suc bound) (apply f (At (Name x))) (uses-apply q f (At (Name x)) u.0 (λ v h. refl)))
    form-below c (Some Pi_word) (a ∷ b ∷ ts) t u w = tt
    form-below c (Some True_word) ts t u w = tt
    form-below c (Some Fail_word) ts t u w = tt
    form-below c (Some Cut_word) ts t u w = tt
    form-below c (Some Or_word) ts t u w = tt
    form-below c (Some Sigma_word) ts t u w = tt
    form-below c (Some Equal_word) ts t u w = tt
    form-below c (Some Same_word) ts t u w = tt
    form-below c (Some Var_word) ts t u w = tt
    form-below c (Some Name_word) ts t u w = tt
    form-below c (Some Is_word) ts t u w = tt
    form-below c (Some Less_word) ts t u w = tt
    form-below c (Some Print_word) ts t u w = tt
    form-below c (Some Beta_word) ts t u w = tt
    form-below c (Some Suspend_word) ts t u w = tt
    form-below c (Some Nil_word) ts t u w = tt
    form-below c (Some Cons_word) ts t u w = tt
    form-below c (Some Plus_word) ts t u w = tt
    form-below c (Some Minus_word) ts t u w = tt
    form-below c (Some Times_word) ts t u w = tt

    at-below : (t : Term) → UsesBelow q t → (s : Shape) → ShapeBelow q s → ReadBelow q (clause_at read scope bound t s)
    at-below t w (Rigid (Con c) ts) u = form-below c (word_of c) ts t u w
    at-below t w (Rigid (Name n) ts) u = go (nat_lt n scope)
      where
        go : (b : Bool) → ReadBelow q (cond b (Bad NotGoal) (Bad FlexClause))
        go true = tt
        go false = tt
    at-below t w (Rigid (Int c) ts) u = tt
    at-below t w (Rigid (Str c) ts) u = tt
    at-below t w (Rigid (Bound c) ts) u = tt
    at-below t w (Rigid (Var c) ts) u = tt
    at-below t w (Flex v ts) u = tt
    at-below t w Redex u = tt
    at-below t w Abstraction u = tt

  read-below : (n scope bound : ℕ) (t : Term) → UsesBelow q t → ReadBelow q (read_at n scope bound t)
  read-below zero scope bound t w = at-below (λ k d. Bad NotGoal) (λ k d z. tt) scope bound t w (shape 0 t) (uses-shape 0 q t w)
  read-below (suc n) scope bound t w = at-below (read_at n scope) (λ k d z. read-below n scope k d z) scope bound t w (shape 0 t) (uses-shape 0 q t w)

  pub assumptions-below : (scope : ℕ) (t : Term) → UsesBelow q t → ReadBelow q (assumptions_of scope t)
  assumptions-below scope t w = read-below (constants t) scope 0 t w

-- instances of clauses
abbrev InstanceBelow : ℕ → ClauseInstance → Type 0
InstanceBelow next k = (next ≤ k.next_var) × UsesBelow k.next_var k.head × Every (UsesBelow k.next_var) k.body

candidate-below : (names next : ℕ) (c : Candidate) → CandidateBelow next c → InstanceBelow next (candidate_instance c names next)
candidate-below names next (of_program i k) w = (
  omega arith,
  uses-instance k.variables names next k.head w.0,
  every-mapped (UsesBelow (next + k.variables)) (instance names next) (option_to_list k.body) (every-weaker (UsesBelow k.variables) (λ t. UsesBelow (next + k.variables) (instance names next t)) (λ t z. uses-instance k.variables names next t z) (option_to_list k.body) w.1),
)
candidate-below names next (of_assumption i h) w = (
  omega arith,
  uses-parameter h names next h.head w.0,
  every-mapped (UsesBelow (next + h.parameters)) (parameter_instance h names next) h.conditions (every-weaker (UsesBelow next) (λ t. UsesBelow (next + h.parameters) (parameter_instance h names next t)) (λ t z. uses-parameter h names next t z) h.conditions w.1),
)

from-assumptions : (q i : ℕ) (hs : List Assumption) → Every (AssumptionBelow q) hs → Every (CandidateBelow q) (from_place of_assumption i hs)
from-assumptions q i [] w = tt
from-assumptions q i (h ∷ hs) w = (w.0, from-assumptions q (suc i) hs w.1)

from-program : (q c i : ℕ) (ks : List Clause) → Every ClauseBelow ks → Every (CandidateBelow q) (program_candidates c i ks)
from-program q c i [] w = tt
from-program q c i (k ∷ ks) w = go (headed_by c k.head) (from-program q c (suc i) ks w.1)
  where
    go : (b : Bool) → Every (CandidateBelow q) (program_candidates c (suc i) ks) → Every (CandidateBelow q) (cond b (of_program i k ∷ program_candidates c (suc i) ks) (program_candidates c (suc i) ks))
    go true z = (w.0, z)
    go false z = z

pub candidates-below : (q : ℕ) (p : Program) (c : ℕ) (hs : List Assumption) → Every ClauseBelow p.clauses → Every (AssumptionBelow q) hs → Every (CandidateBelow q) (candidates p c hs)
candidates-below q p c hs u w = every-append (CandidateBelow q) (from_place of_assumption 0 (assumptions_for c hs)) (program_candidates c 0 p.clauses)
    (from-assumptions q 0 (assumptions_for c hs) (every-filter (AssumptionBelow q) (λ h. nat_eq c h.pred) hs w)) (from-program q c 0 p.clauses u)

-- resolution
equations-at-below : (q : ℕ) (mode : Bool) (names : ℕ) (ms : List Bool) (ss ts : List Term) → Every (UsesBelow q) ss → Every (UsesBelow q) ts → Every (EquationBelow q) (equations_at mode names ms ss ts)
equations-at-below q mode names (true ∷ ms) (s ∷ ss) (t ∷ ts) u w = go mode (equations-at-below q mode names ms ss ts u.1 w.1)
  where
    go : (b : Bool) → Every (EquationBelow q) (equations_at mode names ms ss ts) → Every (EquationBelow q) (cond b (record { names = names; left = s; right = t } ∷ equations_at mode names ms ss ts) (equations_at mode names ms ss ts))
    go true z = ((u.0, w.0), z)
    go false z = z
equations-at-below q mode names (false ∷ ms) (s ∷ ss) (t ∷ ts) u w = go mode (equations-at-below q mode names ms ss ts u.1 w.1)
  where
    go : (b : Bool) → Every (EquationBelow q) (equations_at mode names ms ss ts) → Every (EquationBelow q) (cond b (equations_at mode names ms ss ts) (record { names = names; left = s; right = t } ∷ equations_at mode names ms ss ts))
    go true z = z
    go false z = ((u.0, w.0), z)
equations-at-below q mode names [] ss ts u w = tt
equations-at-below q mode names (true ∷ ms) [] ts u w = tt
equations-at-below q mode names (false ∷ ms) [] ts u w = tt
equations-at-below q mode names (true ∷ ms) (s ∷ ss) [] u w = tt
equations-at-below q mode names (false ∷ ms) (s ∷ ss) [] u w = tt

-- the branch that a clause gives
abbrev TriedBelow : Tried → Type 0
TriedBelow (Fits b) = BranchBelow b
TriedBelow Clashes = Unit {0}
TriedBelow (Breaks e) = Unit {0}

-- what resolution gives: a branch, and clauses for the branch at the call
abbrev pub OutcomeBelow : ℕ → Option (Judged Resolved) → Type 0
OutcomeBelow q (Some (Good r)) = BranchBelow r.branch × Every (CandidateBelow q) r.later
OutcomeBelow q (Some (Bad e)) = Unit {0}
OutcomeBelow q None = Unit {0}

unified-below : (q : ℕ) (b : Branch) (older : List Binding) (a : Answer) → AllBelow q b → Every (BindingBelow q) older → AnswerBelow q a → TriedBelow (unified b older a)
unified-below q b older (Solved p) w k u = branch-bound p.next_var (p.bindings ++ older) (every-append (BindingBelow p.next_var) p.bindings older u.2 (bindings-more q p.next_var u.0 older k)) b (all-more q p.next_var u.0 b w)
unified-below q b older (Clashed k') w k u = tt
unified-below q b older (UnifyFaulted e) w k u = tt

matched-below : (q : ℕ) (b : Branch) (outputs : List Equation) (a : Answer) → AllBelow q b → Every (EquationBelow q) outputs → AnswerBelow q a → TriedBelow (matched unify b outputs a)
matched-below q b outputs (Solved p) w k u =
    let n = p.next_var in
    let problem : Problem = record { next_var = n; equations = map (bound_equation p.bindings) outputs; bindings = [] } in
    unified-below n b p.bindings (unify 0 problem) (all-more q n u.0 b w) u.2
    (unify-below 0 n problem (omega arith, equations-bound n p.bindings u.2 outputs (every-weaker (EquationBelow q) (EquationBelow n) (λ e z. (uses-more q n u.0 e.left z.0, uses-more q n u.0 e.right z.1)) outputs k), tt))
matched-below q b outputs (Clashed k') w k u = tt
matched-below q b outputs (UnifyFaulted e) w k u = tt

cond-below : (b : Bool) (x : Tried) → TriedBelow x → TriedBelow (cond b x Clashes)
cond-below true x w = w
cond-below false x w = tt

module _ (modes : Option (List Bool)) (branch : Branch) (goal : Goal) (rest : List Goal) (barrier : ℕ) (all : BranchBelow branch) (one : GoalBelow branch.next_var goal) (others : Every (GoalBelow branch.next_var) rest) where
  body-below : (q : ℕ) → branch.next_var ≤ q → (ts : List Term) → Every (UsesBelow q) ts → Every (GoalBelow q) (map (λ t. record goal { barrier = barrier; term = t }) ts ++ rest)
  body-below q l [] w = goals-more branch.next_var q l rest others
  body-below q l (t ∷ ts) w = ((assumptions-more branch.next_var q l goal.assumptions one.0, w.0), body-below q l ts w.1)

  instance-below : (c : Candidate) (k : ClauseInstance) → InstanceBelow branch.next_var k → TriedBelow (try_instance unify modes branch goal rest barrier c k)
  instance-below c k w =
      let q = k.next_var in
      let ss = args_of k.head in
      let ts = args_of goal.term in
      let ms = unwrap_or modes (replicate (length ts) false) in
      let left : Every (UsesBelow q) ss = uses-args q k.head w.1 in
      let right : Every (UsesBelow q) ts = terms-more branch.next_var q w.0 ts (uses-args branch.next_var goal.term one.1) in
      let problem : Problem = record { next_var = q; equations = equations_at true goal.names ms ss ts; bindings = [] } in
      cond-below (nat_eq (length ss) (length ts)) _
      (matched-below q (entered branch goal rest barrier c k.body) (equations_at false goal.names ms ss ts) (unify branch.next_var problem)
      (body-below q w.0 k.body w.2, constraints-more branch.next_var q w.0 branch.store all.1, terms-more branch.next_var q w.0 branch.query all.2)
      (equations-at-below q false goal.names ms ss ts left right)
      (unify-below branch.next_var q problem (omega arith, equations-at-below q true goal.names ms ss ts left right, tt)))

  pub resolve-below : (cs : List Candidate) → Every (CandidateBelow branch.next_var) cs → OutcomeBelow branch.next_var (resolve unify modes branch goal rest barrier cs)
  resolve-below [] w = tt
  resolve-below (c ∷ cs) w = go (try unify modes branch goal rest barrier c) (instance-below c (candidate_instance c goal.names branch.next_var) (candidate-below goal.names branch.next_var c w.0)) (resolve unify modes branch goal rest barrier cs) (resolve-below cs w.1)
    where
      go : (t : Tried) → TriedBelow t → (o : Option (Judged Resolved)) → OutcomeBelow branch.next_var o → OutcomeBelow branch.next_var (decided cs o t)
      go (Fits b) v o k = (v, w.1)
      go Clashes v o k = k
      go (Breaks e) v o k = tt

pub later-below : (program : Program) (branch : Branch) (n : ℕ) (cs : List Candidate) → Every (CandidateBelow branch.next_var) cs → BranchBelow branch → (gs : List Goal) → Every (GoalBelow branch.next_var) gs → OutcomeBelow branch.next_var (resolve_later unify program branch n cs gs)
later-below program branch n cs w all [] u = tt
later-below program branch n cs w all (g ∷ gs) u = resolve-below (constant_modes program (constant_of (head_of g.term))) branch g gs n all u.0 u.1 cs w
