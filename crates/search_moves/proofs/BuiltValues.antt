-- Unification of built terms gives variables built values.
use Rattle.std.proofs.Common.{◌≡◌, ℕ, zero, suc, Bool, true, false, cond, ◌&&◌, nat_eq, List, [], ◌∷◌, ◌++◌, map, length, Option, Some, None, subst}
use Rattle.ref_terms.specs.terms.Term.{Term, Lam, At, App, Name, Var}
use Rattle.ref_terms.specs.terms.Apply.{apply, fill}
use Rattle.ref_terms.specs.terms.Built.{IsBuilt}
use Rattle.ref_terms.specs.lemmas.FillLemmas.{built-apply, built-lam, built-fill}
use Rattle.ref_terms.specs.lemmas.NameLemmas.{closing_built}
use Rattle.ref_terms.specs.unification.Spine.{args_of, apply_all}
use Rattle.ref_terms.specs.unification.Shape.{Shape, Abstraction, Redex, Rigid, Flex, shape}
use Rattle.ref_terms.specs.unification.Pattern.{SpineName, pattern_of, names_of}
use Rattle.ref_terms.specs.unification.Closing.{closing, close_all, names_below, keeping}
use Rattle.ref_terms.specs.unification.Offence.{Verdict, fine, redex, scope, itself, foreign, dropped, offence}
use Rattle.ref_terms.specs.unification.Problem.{Equation, Binding, Problem, Pattern_fault, Solved, Clashed, Faulted, Step, Goes, Ends}
use Rattle.ref_terms.specs.unification.Bind.{bind_fresh}
use Rattle.ref_terms.specs.unification.Positions.{agreeing, shared, positions_of, all_but}
use Rattle.ref_terms.specs.unification.Rules.{head_eq, equations_of, same_variable, two_variables, by_verdict, bind_to, flex_flex, rule, step_at, step}
use Rattle.ref_terms.specs.unification.Run.{after, run, Unifies}
use Rattle.ref_terms.specs.unification.Unification.{unify}
use Rattle.ref_terms.specs.ending.Progress.{AreBuilt, built-append, built-map}
use Rattle.ref_terms.specs.ending.Rules.{Shaped, shape-is}
use Rattle.ref_terms.proofs.unification.Steps.{unify-reached}
use Rattle.search_moves.specs.Instances.{HaveBuiltValues}

pub values-append : (xs ys : List Binding) → HaveBuiltValues xs → HaveBuiltValues ys → HaveBuiltValues (xs ++ ys)
values-append [] ys v w = w
values-append (x ∷ xs) ys v w = (v.0, values-append xs ys v.1 w)

-- what is built stays built
abbrev Builds : Step → Type 0
Builds (Goes q) = AreBuilt q.equations × HaveBuiltValues q.bindings
Builds (Ends (Solved q)) = HaveBuiltValues q.bindings
Builds (Ends (Clashed k)) = Unit {0}
Builds (Ends (Faulted f)) = Unit {0}

-- values
close_all-built : (ns : List ℕ) (t : Term) → IsBuilt t → IsBuilt (close_all ns t)
close_all-built [] t w = w
close_all-built (n ∷ ns) t w = built-lam (fill (closing n) (close_all ns t)) (built-fill (closing n) (closing_built n) (close_all ns t))

named-built : (ks : List ℕ) (f : Term) → IsBuilt f → IsBuilt (apply_all f (map (λ i. At (Name i)) ks))
named-built [] f w = w
named-built (k ∷ ks) f w = named-built ks (apply f (At (Name k))) (built-apply f (At (Name k)) w tt)

keeping-built : (n : ℕ) (ks : List ℕ) (v : ℕ) → IsBuilt (keeping n ks v)
keeping-built n ks v = close_all-built (names_below n) (apply_all (At (Var v)) (map (λ i. At (Name i)) ks)) (named-built ks (At (Var v)) tt)

-- arguments
abbrev ArgsBuilt : List Term → Type 0
ArgsBuilt [] = Unit {0}
ArgsBuilt (x ∷ xs) = IsBuilt x × ArgsBuilt xs

args-built : (t : Term) → IsBuilt t → ArgsBuilt (args_of t)
args-built (Lam b) w = tt
args-built (At h) w = tt
args-built (App f a) w = more (args_of f) (args-built f w.0)
  where
    more : (xs : List Term) → ArgsBuilt xs → ArgsBuilt (xs ++ a ∷ [])
    more [] v = (w.1, tt)
    more (x ∷ xs) v = (v.0, more xs v.1)

equations-built : (n : ℕ) (xs ys : List Term) → ArgsBuilt xs → ArgsBuilt ys → AreBuilt (equations_of n xs ys)
equations-built n (x ∷ xs) (y ∷ ys) v w = ((v.0, w.0), equations-built n xs ys v.1 w.1)
equations-built n [] ys v w = tt
equations-built n (x ∷ xs) [] v w = tt

-- a rule, where the first equation is e
module _ (m : ℕ) (e : Equation) (es : List Equation) (p : Problem) (built : AreBuilt (e ∷ es)) (values : HaveBuiltValues p.bindings) where
  verdict-builds : (v : ℕ) (ns : List ℕ) (t : Term) → IsBuilt t → (w : Verdict) → Builds (by_verdict v ns t e es p w)
  verdict-builds v ns t k fine = let u = close_all-built ns t k in (built-map v (close_all ns t) u es, (u, values))
  verdict-builds v ns t k (dropped y i n) = let u = keeping-built n (all_but i n) p.next_var in (built-map y (keeping n (all_but i n) p.next_var) u (e ∷ es), (u, values))
  verdict-builds v ns t k redex = tt
  verdict-builds v ns t k scope = tt
  verdict-builds v ns t k itself = tt
  verdict-builds v ns t k foreign = tt

  bind-builds : (v : ℕ) (o : Option (List SpineName)) (t : Term) → IsBuilt t → Builds (bind_to m v o t e es p)
  bind-builds v None t k = tt
  bind-builds v (Some xs) t k = verdict-builds v (names_of xs) t k (offence m v (names_of xs) false t)

  same-builds : (v : ℕ) (xs ys : List SpineName) → Builds (same_variable v xs ys es p)
  same-builds v xs ys = go (nat_eq (length xs) (length ys))
    where
      go : (b : Bool) → Builds (cond b (Goes (bind_fresh v (keeping (length xs) (agreeing 0 xs ys) p.next_var) es p)) (Ends (Clashed false)))
      go true = let u = keeping-built (length xs) (agreeing 0 xs ys) p.next_var in (built-map v (keeping (length xs) (agreeing 0 xs ys) p.next_var) u es, (u, values))
      go false = tt

  two-builds : (v w : ℕ) (xs ys : List SpineName) → Builds (two_variables v w xs ys es p)
  two-builds v w xs ys =
      let one = bind_fresh v (keeping (length xs) (shared 0 xs ys) p.next_var) es p in
      let u = keeping-built (length xs) (shared 0 xs ys) p.next_var in
      let z = keeping-built (length ys) (positions_of 0 xs ys) p.next_var in
      (built-map w (keeping (length ys) (positions_of 0 xs ys) p.next_var) z one.equations, (z, (u, values)))

  flex-builds : (v w : ℕ) (i o : Option (List SpineName)) → Builds (flex_flex m v w i o e es p)
  flex-builds v w (Some xs) (Some ys) = go (nat_eq v w)
    where
      go : (b : Bool) → Builds (cond b (same_variable v xs ys es p) (two_variables v w xs ys es p))
      go true = same-builds v xs ys
      go false = two-builds v w xs ys
  flex-builds v w (Some xs) None = go (nat_eq v w)
    where
      go : (b : Bool) → Builds (cond b (Ends (Faulted Pattern_fault)) (bind_to m v (Some xs) e.right e es p))
      go true = tt
      go false = bind-builds v (Some xs) e.right built.0.1
  flex-builds v w None o = go (nat_eq v w)
    where
      go : (b : Bool) → Builds (cond b (Ends (Faulted Pattern_fault)) (bind_to m w o e.left e es p))
      go true = tt
      go false = bind-builds w o e.left built.0.0

  rigid-builds : (b : Bool) (xs ys : List Term) → ArgsBuilt xs → ArgsBuilt ys → Builds (cond b (Goes (record p { equations = equations_of e.names xs ys ++ es })) (Ends (Clashed false)))
  rigid-builds true xs ys v w = (built-append (equations_of e.names xs ys) es (equations-built e.names xs ys v w) built.1, values)
  rigid-builds false xs ys v w = tt

  open-builds : Builds (Goes (record p { equations = record { names = suc e.names; left = apply e.left (At (Name e.names)); right = apply e.right (At (Name e.names)) } ∷ es }))
  open-builds = (((built-apply e.left (At (Name e.names)) built.0.0 tt, built-apply e.right (At (Name e.names)) built.0.1 tt), built.1), values)

  rule-builds : (s t : Shape) → Shaped m e.left s → Shaped m e.right t → Builds (rule m s t e es p)
  rule-builds Redex t x y = tt
  rule-builds Abstraction Redex x y = tt
  rule-builds (Rigid h xs) Redex x y = tt
  rule-builds (Flex v xs) Redex x y = tt
  rule-builds (Rigid h xs) (Rigid k ys) x y = rigid-builds (head_eq h k && nat_eq (length xs) (length ys)) xs ys (subst ArgsBuilt x.1 (args-built e.left built.0.0)) (subst ArgsBuilt y.1 (args-built e.right built.0.1))
  rule-builds (Flex v xs) (Rigid k ys) x y = bind-builds v (pattern_of xs) e.right built.0.1
  rule-builds (Rigid h xs) (Flex w ys) x y = bind-builds w (pattern_of ys) e.left built.0.0
  rule-builds (Flex v xs) (Flex w ys) x y = flex-builds v w (pattern_of xs) (pattern_of ys)
  rule-builds Abstraction Abstraction x y = open-builds
  rule-builds Abstraction (Rigid k ys) x y = open-builds
  rule-builds Abstraction (Flex w ys) x y = open-builds
  rule-builds (Rigid h xs) Abstraction x y = open-builds
  rule-builds (Flex v xs) Abstraction x y = open-builds

step-builds : (m : ℕ) (p : Problem) → AreBuilt p.equations → HaveBuiltValues p.bindings → Builds (step m p)
unfolding step
step-builds m p built values = go p.equations built
  where
    go : (es : List Equation) → AreBuilt es → Builds (step_at m es p)
    go [] w = values
    go (e ∷ es) w = rule-builds m e es p w values (shape m e.left) (shape m e.right) (shape-is m e.left) (shape-is m e.right)

run-builds : (m n : ℕ) (p r : Problem) → AreBuilt p.equations → HaveBuiltValues p.bindings → run m n p ≡ Some (Solved r) → HaveBuiltValues r.bindings
run-builds m zero p r built values e = absurd (let z : None ≡ Some (Solved r) = e in cc)
run-builds m (suc n) p r built values e = go (step m p) (step-builds m p built values) (λ q v w d. run-builds m n q r v w d) e
  where
    go : (x : Step) → Builds x → ((q : Problem) → AreBuilt q.equations → HaveBuiltValues q.bindings → run m n q ≡ Some (Solved r) → HaveBuiltValues r.bindings) → after (run m n) x ≡ Some (Solved r) → HaveBuiltValues r.bindings
    go (Goes q) k i d = i q k.0 k.1 d
    go (Ends (Solved q)) k i d = let z : Some (Solved q) ≡ Some (Solved r) = d in let l : q ≡ r = cc in subst (λ (z : Problem). HaveBuiltValues z.bindings) l k
    go (Ends (Clashed c)) k i d = absurd (let z : Some (Clashed c) ≡ Some (Solved r) = d in cc)
    go (Ends (Faulted f)) k i d = absurd (let z : Some (Faulted f) ≡ Some (Solved r) = d in cc)

-- so where built terms are unified
pub unify-built : (m : ℕ) (p q : Problem) → AreBuilt p.equations → HaveBuiltValues p.bindings → unify m p ≡ Solved q → HaveBuiltValues q.bindings
unify-built m p q built values e =
    let u : Unifies m p (Solved q) = subst (Unifies m p) e (unify-reached m p) in
    run-builds m u.steps p q built values u.ends
