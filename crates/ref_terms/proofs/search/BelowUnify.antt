-- Unification brings no variable from the next one on into use.
use Rattle.std.proofs.Common.{◌≡◌, ℕ, zero, suc, ◌≤◌, ◌<◌, Bool, true, false, cond, ◌&&◌, nat_eq, List, [], ◌∷◌, ◌++◌, map, length, refl, subst, Option, Some, None, arith}
use Rattle.ref_terms.specs.terms.Term.{Term, At, Head, Name}
use Rattle.ref_terms.specs.terms.Apply.{apply}
use Rattle.ref_terms.specs.unification.Spine.{head_of}
use Rattle.ref_terms.specs.unification.Shape.{Shape, Abstraction, Redex, Rigid, Flex, shape}
use Rattle.ref_terms.specs.unification.Pattern.{SpineName, pattern_of, names_of}
use Rattle.ref_terms.specs.unification.Closing.{close_all, keeping}
use Rattle.ref_terms.specs.unification.Offence.{Verdict, fine, redex, scope, itself, foreign, dropped, offence}
use Rattle.ref_terms.specs.unification.Problem.{Equation, Binding, Problem, Answer, Solved, Clashed, Faulted, Step, Goes, Ends}
use Rattle.ref_terms.specs.unification.Bind.{inst_equation, bind, bind_fresh}
use Rattle.ref_terms.specs.unification.Positions.{agreeing, shared, positions_of, all_but}
use Rattle.ref_terms.specs.unification.Rules.{head_eq, equations_of, two_rigid, same_variable, two_variables, by_verdict, bind_to, flex_flex, rule, step_at, step}
use Rattle.ref_terms.specs.unification.Run.{after, run, Unifies}
use Rattle.ref_terms.specs.unification.Unification.{unify}
use Rattle.ref_terms.specs.search.Used.{Every, UsesBelow}
use Rattle.ref_terms.proofs.unification.Steps.{unify-reached}
use Rattle.ref_terms.proofs.search.TouchedLemmas.{every-append, every-weaker, every-mapped}
use Rattle.ref_terms.proofs.search.BelowTerms.{uses-more, uses-apply, uses-inst, uses-close_all, uses-keeping, ShapeBelow, uses-shape}

-- both sides of an equation
abbrev pub EquationBelow : ℕ → Equation → Type 0
EquationBelow q e = UsesBelow q e.left × UsesBelow q e.right

-- the value of a binding
abbrev pub BindingBelow : ℕ → Binding → Type 0
BindingBelow q b = UsesBelow q b.value

-- a problem that has at least these variables, and all below its next one
abbrev pub ProblemBelow : ℕ → Problem → Type 0
ProblemBelow base p = (base ≤ p.next_var) × Every (EquationBelow p.next_var) p.equations × Every (BindingBelow p.next_var) p.bindings

-- an answer with such a problem
abbrev pub AnswerBelow : ℕ → Answer → Type 0
AnswerBelow base (Solved p) = ProblemBelow base p
AnswerBelow base (Clashed k) = Unit {0}
AnswerBelow base (Faulted f) = Unit {0}

-- a step to such a problem or answer
abbrev StepBelow : ℕ → Step → Type 0
StepBelow base (Goes p) = ProblemBelow base p
StepBelow base (Ends a) = AnswerBelow base a

pub equations-more : (q r : ℕ) → q ≤ r → (es : List Equation) → Every (EquationBelow q) es → Every (EquationBelow r) es
equations-more q r l es w = every-weaker (EquationBelow q) (EquationBelow r) (λ e k. (uses-more q r l e.left k.0, uses-more q r l e.right k.1)) es w

pub bindings-more : (q r : ℕ) → q ≤ r → (bs : List Binding) → Every (BindingBelow q) bs → Every (BindingBelow r) bs
bindings-more q r l bs w = every-weaker (BindingBelow q) (BindingBelow r) (λ b k. uses-more q r l b.value k) bs w

equations-inst : (q v : ℕ) (u : Term) (es : List Equation) → UsesBelow q u → Every (EquationBelow q) es → Every (EquationBelow q) (map (inst_equation v u) es)
equations-inst q v u es k w = every-mapped (EquationBelow q) (inst_equation v u) es
    (every-weaker (EquationBelow q) (λ e. EquationBelow q (inst_equation v u e)) (λ e z. (uses-inst q v u e.left k z.0, uses-inst q v u e.right k z.1)) es w)

pub equations-of-below : (q n : ℕ) (xs ys : List Term) → Every (UsesBelow q) xs → Every (UsesBelow q) ys → Every (EquationBelow q) (equations_of n xs ys)
equations-of-below q n (x ∷ xs) (y ∷ ys) u w = ((u.0, w.0), equations-of-below q n xs ys u.1 w.1)
equations-of-below q n [] ys u w = tt
equations-of-below q n (x ∷ xs) [] u w = tt

module _ (base : ℕ) where
  bind-below : (v : ℕ) (u : Term) (es : List Equation) (p : Problem) → base ≤ p.next_var → Every (BindingBelow p.next_var) p.bindings → UsesBelow p.next_var u → Every (EquationBelow p.next_var) es → ProblemBelow base (bind v u es p)
  bind-below v u es p low old k w = (low, equations-inst p.next_var v u es k w, (k, old))

  fresh-below : (v n : ℕ) (ks : List ℕ) (es : List Equation) (p : Problem) → base ≤ p.next_var → Every (BindingBelow p.next_var) p.bindings → Every (EquationBelow p.next_var) es → ProblemBelow base (bind_fresh v (keeping n ks p.next_var) es p)
  fresh-below v n ks es p low old w =
      let q = p.next_var in
      let k : UsesBelow (suc q) (keeping n ks q) = uses-keeping (suc q) n ks q (omega arith) in
      let more : q ≤ suc q = omega arith in
      (omega arith, equations-inst (suc q) v (keeping n ks q) es k (equations-more q (suc q) more es w), (k, bindings-more q (suc q) more p.bindings old))

  module _ (p : Problem) (low : base ≤ p.next_var) (old : Every (BindingBelow p.next_var) p.bindings) (e : Equation) (es : List Equation) (one : EquationBelow p.next_var e) (others : Every (EquationBelow p.next_var) es) where
    go-if : (b : Bool) (q : Problem) (a : Answer) → ProblemBelow base q → AnswerBelow base a → StepBelow base (cond b (Goes q) (Ends a))
    go-if true q a u w = u
    go-if false q a u w = w

    if-below : (b : Bool) (s t : Step) → StepBelow base s → StepBelow base t → StepBelow base (cond b s t)
    if-below true s t u w = u
    if-below false s t u w = w

    rigid-below : (h k : Head) (xs ys : List Term) → Every (UsesBelow p.next_var) xs → Every (UsesBelow p.next_var) ys → StepBelow base (two_rigid h xs k ys e es p)
    rigid-below h k xs ys u w = go-if (head_eq h k && nat_eq (length xs) (length ys)) (record p { equations = equations_of e.names xs ys ++ es }) (Clashed false)
        (low, every-append (EquationBelow p.next_var) (equations_of e.names xs ys) es (equations-of-below p.next_var e.names xs ys u w) others, old) tt

    same-below : (v : ℕ) (xs ys : List SpineName) → StepBelow base (same_variable v xs ys es p)
    same-below v xs ys = go-if (nat_eq (length xs) (length ys)) (bind_fresh v (keeping (length xs) (agreeing 0 xs ys) p.next_var) es p) (Clashed false) (fresh-below v (length xs) (agreeing 0 xs ys) es p low old others) tt

    two-below : (v w : ℕ) (xs ys : List SpineName) → StepBelow base (two_variables v w xs ys es p)
    two-below v w xs ys =
        let first = bind_fresh v (keeping (length xs) (shared 0 xs ys) p.next_var) es p in
        let k : ProblemBelow base first = fresh-below v (length xs) (shared 0 xs ys) es p low old others in
        bind-below w (keeping (length ys) (positions_of 0 xs ys) p.next_var) first.equations first k.0 k.2 (uses-keeping (suc p.next_var) (length ys) (positions_of 0 xs ys) p.next_var (omega arith)) k.1

    verdict-below : (v : ℕ) (ns : List ℕ) (t : Term) → UsesBelow p.next_var t → (w : Verdict) → StepBelow base (by_verdict v ns t e es p w)
    verdict-below v ns t k fine = bind-below v (close_all ns t) es p low old (uses-close_all p.next_var ns t k) others
    verdict-below v ns t k redex = tt
    verdict-below v ns t k scope = tt
    verdict-below v ns t k itself = tt
    verdict-below v ns t k foreign = tt
    verdict-below v ns t k (dropped y i n) = fresh-below y n (all_but i n) (e ∷ es) p low old (one, others)

    module _ (m : ℕ) where
      to-below : (v : ℕ) (o : Option (List SpineName)) (t : Term) → UsesBelow p.next_var t → StepBelow base (bind_to m v o t e es p)
      to-below v None t k = tt
      to-below v (Some xs) t k = verdict-below v (names_of xs) t k (offence m v (names_of xs) false t)

      flex-below : (v w : ℕ) (o z : Option (List SpineName)) → StepBelow base (flex_flex m v w o z e es p)
      flex-below v w (Some xs) (Some ys) = if-below (nat_eq v w) (same_variable v xs ys es p) (two_variables v w xs ys es p) (same-below v xs ys) (two-below v w xs ys)
      flex-below v w (Some xs) None = if-below (nat_eq v w) _ (bind_to m v (Some xs) e.right e es p) tt (to-below v (Some xs) e.right one.1)
      flex-below v w None z = if-below (nat_eq v w) _ (bind_to m w z e.left e es p) tt (to-below w z e.left one.0)

      applied-below : ProblemBelow base (record p { equations = record { names = suc e.names; left = apply e.left (At (Name e.names)); right = apply e.right (At (Name e.names)) } ∷ es })
      applied-below = (low, ((uses-apply p.next_var e.left (At (Name e.names)) one.0 (λ v h. refl), uses-apply p.next_var e.right (At (Name e.names)) one.1 (λ v h. refl)), others), old)

      rule-below : (s t : Shape) → ShapeBelow p.next_var s → ShapeBelow p.next_var t → StepBelow base (rule m s t e es p)
      rule-below Redex t u w = tt
      rule-below Abstraction Redex u w = tt
      rule-below Abstraction Abstraction u w = applied-below
      rule-below Abstraction (Rigid k ys) u w = applied-below
      rule-below Abstraction (Flex v ys) u w = applied-below
      rule-below (Rigid h xs) Redex u w = tt
      rule-below (Rigid h xs) Abstraction u w = applied-below
      rule-below (Rigid h xs) (Rigid k ys) u w = rigid-below h k xs ys u w
      rule-below (Rigid h xs) (Flex v ys) u w = to-below v (pattern_of ys) e.left one.0
      rule-below (Flex v xs) Redex u w = tt
      rule-below (Flex v xs) Abstraction u w = applied-below
      rule-below (Flex v xs) (Rigid k ys) u w = to-below v (pattern_of xs) e.right one.1
      rule-below (Flex v xs) (Flex y ys) u w = flex-below v y (pattern_of xs) (pattern_of ys)

  step-below : (m : ℕ) (p : Problem) → ProblemBelow base p → StepBelow base (step m p)
  unfolding step
  step-below m p w = go p.equations w.1
    where
      go : (es : List Equation) → Every (EquationBelow p.next_var) es → StepBelow base (step_at m es p)
      go [] k = w
      go (e ∷ es) k = rule-below p w.0 w.2 e es k.0 k.1 m (shape m e.left) (shape m e.right) (uses-shape m p.next_var e.left k.0.0) (uses-shape m p.next_var e.right k.0.1)

  run-below : (m n : ℕ) (p : Problem) (a : Answer) → ProblemBelow base p → run m n p ≡ Some a → AnswerBelow base a
  run-below m zero p a w e = absurd (let z : None ≡ Some a = e in cc)
  run-below m (suc n) p a w e = go (step m p) (step-below m p w) (λ q k d. run-below m n q a k d) e
    where
      go : (s : Step) → StepBelow base s → ((q : Problem) → ProblemBelow base q → run m n q ≡ Some a → AnswerBelow base a) → after (run m n) s ≡ Some a → AnswerBelow base a
      go (Goes q) k i d = i q k d
      go (Ends b) k i d = let z : Some b ≡ Some a = d in let same : b ≡ a = cc in subst (AnswerBelow base) same k

-- from a problem to its answer
pub unify-below : (m base : ℕ) (p : Problem) → ProblemBelow base p → AnswerBelow base (unify m p)
unify-below m base p w = let u : Unifies m p (unify m p) = unify-reached m p in run-below base m u.steps p (unify m p) w u.ends
