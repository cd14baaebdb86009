-- The number of steps of a problem doesn't hang on the bindings so far.
use Rattle.std.proofs.Common.{◌≡◌, ℕ, zero, suc, ◌&&◌, Bool, true, false, cond, nat_eq, List, [], ◌∷◌, length, Option, Some, None, refl, sym, ap, ◌∙◌}
use Rattle.ref_terms.specs.terms.Term.{Term, Head}
use Rattle.ref_terms.specs.unification.Offence.{Verdict, fine, redex, scope, itself, foreign, dropped, offence}
use Rattle.ref_terms.specs.unification.Pattern.{SpineName, pattern_of, names_of}
use Rattle.ref_terms.specs.unification.Problem.{Equation, Problem, Binding, Answer, Step, Goes, Ends}
use Rattle.ref_terms.specs.unification.Rules.{head_eq, two_rigid, same_variable, by_verdict, bind_to, flex_flex, rule, step_at, step}
use Rattle.ref_terms.specs.unification.Run.{after, run, Unifies}
use Rattle.ref_terms.specs.unification.Shape.{Shape, Abstraction, Redex, Rigid, Flex, shape}
use Rattle.ref_terms.specs.unification.Unification.{unify, steps_of}
use Rattle.ref_terms.proofs.unification.Steps.{unify-reached, steps-fall, steps-last}

-- two steps that differ in bindings alone, or in answers
abbrev Alike : Step → Step → Type 0
Alike (Goes p) (Goes q) = q ≡ record p { bindings = q.bindings }
Alike (Ends a) (Ends b) = Unit {0}
Alike (Goes p) (Ends b) = ⊥
Alike (Ends a) (Goes q) = ⊥

-- the problem with other bindings
abbrev With : Problem → List Binding → Problem
With p bs = record p { bindings = bs }

alike-cond : (r : Bool) (s t u v : Step) → Alike s u → Alike t v → Alike (cond r s t) (cond r u v)
alike-cond true s t u v h k = h
alike-cond false s t u v h k = k

alike-verdict : (v : ℕ) (ns : List ℕ) (t : Term) (e : Equation) (es : List Equation) (p : Problem) (bs : List Binding) (r : Verdict) → Alike (by_verdict v ns t e es p r) (by_verdict v ns t e es (With p bs) r)
alike-verdict v ns t e es p bs fine = refl
alike-verdict v ns t e es p bs redex = tt
alike-verdict v ns t e es p bs scope = tt
alike-verdict v ns t e es p bs itself = tt
alike-verdict v ns t e es p bs foreign = tt
alike-verdict v ns t e es p bs (dropped y i n) = refl

alike-bind : (m v : ℕ) (o : Option (List SpineName)) (t : Term) (e : Equation) (es : List Equation) (p : Problem) (bs : List Binding) → Alike (bind_to m v o t e es p) (bind_to m v o t e es (With p bs))
alike-bind m v None t e es p bs = tt
alike-bind m v (Some xs) t e es p bs = alike-verdict v (names_of xs) t e es p bs (offence m v (names_of xs) false t)

alike-same : (v : ℕ) (xs ys : List SpineName) (es : List Equation) (p : Problem) (bs : List Binding) → Alike (same_variable v xs ys es p) (same_variable v xs ys es (With p bs))
alike-same v xs ys es p bs = alike-cond (nat_eq (length xs) (length ys)) _ _ _ _ refl tt

alike-flex : (m v w : ℕ) (o r : Option (List SpineName)) (e : Equation) (es : List Equation) (p : Problem) (bs : List Binding) → Alike (flex_flex m v w o r e es p) (flex_flex m v w o r e es (With p bs))
alike-flex m v w (Some xs) (Some ys) e es p bs = alike-cond (nat_eq v w) _ _ _ _ (alike-same v xs ys es p bs) refl
alike-flex m v w (Some xs) None e es p bs = alike-cond (nat_eq v w) _ _ _ _ tt (alike-bind m v (Some xs) e.right e es p bs)
alike-flex m v w None r e es p bs = alike-cond (nat_eq v w) _ _ _ _ tt (alike-bind m w r e.left e es p bs)

alike-rigid : (h : Head) (xs : List Term) (k : Head) (ys : List Term) (e : Equation) (es : List Equation) (p : Problem) (bs : List Binding) → Alike (two_rigid h xs k ys e es p) (two_rigid h xs k ys e es (With p bs))
alike-rigid h xs k ys e es p bs = alike-cond (head_eq h k && nat_eq (length xs) (length ys)) _ _ _ _ refl tt

alike-rule : (m : ℕ) (l r : Shape) (e : Equation) (es : List Equation) (p : Problem) (bs : List Binding) → Alike (rule m l r e es p) (rule m l r e es (With p bs))
alike-rule m Redex r e es p bs = tt
alike-rule m Abstraction Redex e es p bs = tt
alike-rule m Abstraction Abstraction e es p bs = refl
alike-rule m Abstraction (Rigid k ys) e es p bs = refl
alike-rule m Abstraction (Flex w ys) e es p bs = refl
alike-rule m (Rigid h xs) Redex e es p bs = tt
alike-rule m (Rigid h xs) Abstraction e es p bs = refl
alike-rule m (Rigid h xs) (Rigid k ys) e es p bs = alike-rigid h xs k ys e es p bs
alike-rule m (Rigid h xs) (Flex w ys) e es p bs = alike-bind m w (pattern_of ys) e.left e es p bs
alike-rule m (Flex v xs) Redex e es p bs = tt
alike-rule m (Flex v xs) Abstraction e es p bs = refl
alike-rule m (Flex v xs) (Rigid k ys) e es p bs = alike-bind m v (pattern_of xs) e.right e es p bs
alike-rule m (Flex v xs) (Flex w ys) e es p bs = alike-flex m v w (pattern_of xs) (pattern_of ys) e es p bs

alike-step_at : (m : ℕ) (es : List Equation) (p : Problem) (bs : List Binding) → Alike (step_at m es p) (step_at m es (With p bs))
alike-step_at m [] p bs = tt
alike-step_at m (e ∷ es) p bs = alike-rule m (shape m e.left) (shape m e.right) e es p bs

alike-step : (m : ℕ) (p : Problem) (bs : List Binding) → Alike (step m p) (step m (With p bs))
unfolding step
alike-step m p bs = alike-step_at m p.equations p bs

-- by induction on a run
steps-along : (m k : ℕ) (p : Problem) (bs : List Binding) (a : Answer) → run m k p ≡ Some a → steps_of m (With p bs) ≡ steps_of m p
steps-along m zero p bs a h = absurd (let z : None ≡ Some a = h in cc)
steps-along m (suc k) p bs a h = go (λ x cs w. steps-along m k x cs a w) (step m p) (step m (With p bs)) refl refl (alike-step m p bs) h
  where
    go : ((x : Problem) (cs : List Binding) → run m k x ≡ Some a → steps_of m (With x cs) ≡ steps_of m x) → (s t : Step) → step m p ≡ s → step m (With p bs) ≡ t → Alike s t → after (run m k) s ≡ Some a → steps_of m (With p bs) ≡ steps_of m p
    go f (Ends b) (Ends c) d e w h = steps-last m (With p bs) c e ∙ sym (steps-last m p b d)
    go f (Goes x) (Ends c) d e w h = elim w [ ]
    go f (Ends b) (Goes y) d e w h = elim w [ ]
    go f (Goes x) (Goes y) d e w h =
        steps-fall m (With p bs) y e ∙ ap suc (ap (steps_of m) w ∙ f x y.bindings h) ∙ sym (steps-fall m p x d)

-- the count is the same whatever the bindings
pub steps-with : (m : ℕ) (p : Problem) (bs : List Binding) → steps_of m (record p { bindings = bs }) ≡ steps_of m p
steps-with m p bs = let u : Unifies m p (unify m p) = unify-reached m p in steps-along m u.steps p bs (unify m p) u.ends
