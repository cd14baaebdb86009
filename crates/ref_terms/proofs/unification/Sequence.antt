-- Equations that are solved one after the other.
use Rattle.std.proofs.Common.{◌≡◌, ℕ, zero, suc, Bool, true, false, cond, ◌&&◌, nat_eq, List, [], ◌∷◌, ◌++◌, length, map, Option, Some, None, refl, sym, ap, ◌∙◌, subst}
use Rattle.std.proofs.lemmas.List.{map-append, append_assoc}
use Rattle.ref_terms.specs.terms.Term.{Term, Head}
use Rattle.ref_terms.specs.unification.Problem.{Equation, Binding, Problem, Answer, Solved, Clashed, Faulted, Step, Goes, Ends}
use Rattle.ref_terms.specs.unification.Bind.{bind, bind_fresh, inst_equation}
use Rattle.ref_terms.specs.unification.Shape.{Shape, Abstraction, Redex, Rigid, Flex, shape}
use Rattle.ref_terms.specs.unification.Pattern.{SpineName, pattern_of, names_of}
use Rattle.ref_terms.specs.unification.Offence.{Verdict, fine, redex, scope, itself, foreign, dropped, offence}
use Rattle.ref_terms.specs.unification.Closing.{close_all, keeping}
use Rattle.ref_terms.specs.unification.Positions.{agreeing, shared, positions_of, all_but}
use Rattle.ref_terms.specs.unification.Rules.{two_rigid, same_variable, two_variables, by_verdict, bind_to, flex_flex, rule, step, head_eq, equations_of}
use Rattle.ref_terms.specs.unification.Run.{run, after}
use Rattle.ref_terms.specs.unification.Unification.{unify}
use Rattle.ref_terms.proofs.unification.Steps.{unify-goes, unify-ends, unify-reached}
use Rattle.ref_terms.specs.search.Branch.{bound_equation}
use Rattle.ref_terms.specs.search.Sequence.{later, continued}

-- the problem with equations after its own, which its bindings reach, and with older bindings
abbrev pub extend : List Equation → List Binding → Problem → Problem
extend more older p = record { next_var = p.next_var; equations = p.equations ++ map (bound_equation p.bindings) more; bindings = p.bindings ++ older }

map-map : {A B C : Type 0} (x : B → C) (y : A → B) (ts : List A) → map x (map y ts) ≡ map (λ t. x (y t)) ts
map-map x y [] = refl
map-map {A} {B} {C} x y (t ∷ ts) = ap (λ (zs : List C). x (y t) ∷ zs) (map-map x y ts)

-- a step of the longer problem is that of the shorter one, which doesn't solve it
abbrev pub Follows : List Equation → List Binding → Step → Step → Type 0
Follows more older (Goes q) s = s ≡ Goes (extend more older q)
Follows more older (Ends (Solved q)) s = ⊥
Follows more older (Ends (Clashed k)) s = s ≡ Ends (Clashed k)
Follows more older (Ends (Faulted f)) s = s ≡ Ends (Faulted f)

module _ (more : List Equation) (older : List Binding) where
  go-or-clash : (b : Bool) (q q' : Problem) → q' ≡ extend more older q → Follows more older (cond b (Goes q) (Ends (Clashed false))) (cond b (Goes q') (Ends (Clashed false)))
  go-or-clash true q q' e = ap (λ (z : Problem). Goes z) e
  go-or-clash false q q' e = refl

  bind-extends : (v : ℕ) (u : Term) (es : List Equation) (p : Problem) → bind v u (es ++ later more p) (extend more older p) ≡ extend more older (bind v u es p)
  bind-extends v u es p =
      let equations = map-append (inst_equation v u) es (later more p) ∙ ap (λ ys. map (inst_equation v u) es ++ ys) (map-map (inst_equation v u) (bound_equation p.bindings) more) in
      λ i. record { next_var = p.next_var; equations = equations i; bindings = record { variable = v; value = u } ∷ (p.bindings ++ older) }

  fresh-extends : (v : ℕ) (u : Term) (es : List Equation) (p : Problem) → bind_fresh v u (es ++ later more p) (extend more older p) ≡ extend more older (bind_fresh v u es p)
  fresh-extends v u es p = ap (λ (z : Problem). record z { next_var = suc p.next_var }) (bind-extends v u es p)

  rigid-extends : (h : Head) (xs : List Term) (k : Head) (ys : List Term) (e : Equation) (es : List Equation) (p : Problem)
      → Follows more older (two_rigid h xs k ys e es p) (two_rigid h xs k ys e (es ++ later more p) (extend more older p))
  rigid-extends h xs k ys e es p =
      go-or-clash (head_eq h k && nat_eq (length xs) (length ys)) (record p { equations = equations_of e.names xs ys ++ es }) (record (extend more older p) { equations = equations_of e.names xs ys ++ (es ++ later more p) })
      (ap (λ (zs : List Equation). record (extend more older p) { equations = zs }) (sym (append_assoc (equations_of e.names xs ys) es (later more p))))

  same-extends : (v : ℕ) (xs ys : List SpineName) (es : List Equation) (p : Problem) → Follows more older (same_variable v xs ys es p) (same_variable v xs ys (es ++ later more p) (extend more older p))
  same-extends v xs ys es p =
      let u = keeping (length xs) (agreeing 0 xs ys) p.next_var in
      go-or-clash (nat_eq (length xs) (length ys)) (bind_fresh v u es p) (bind_fresh v u (es ++ later more p) (extend more older p)) (fresh-extends v u es p)

  two-extends : (v w : ℕ) (xs ys : List SpineName) (es : List Equation) (p : Problem) → Follows more older (two_variables v w xs ys es p) (two_variables v w xs ys (es ++ later more p) (extend more older p))
  two-extends v w xs ys es p =
      let u = keeping (length xs) (shared 0 xs ys) p.next_var in
      let t = keeping (length ys) (positions_of 0 xs ys) p.next_var in
      let first = bind_fresh v u es p in
      ap (λ (z : Problem). Goes (bind w t z.equations z)) (fresh-extends v u es p)
      ∙ ap (λ (z : Problem). Goes z) (bind-extends w t first.equations first)

  verdict-extends : (v : ℕ) (ns : List ℕ) (t : Term) (e : Equation) (es : List Equation) (p : Problem) (o : Verdict) → Follows more older (by_verdict v ns t e es p o) (by_verdict v ns t e (es ++ later more p) (extend more older p) o)
  verdict-extends v ns t e es p fine = ap (λ (z : Problem). Goes z) (bind-extends v (close_all ns t) es p)
  verdict-extends v ns t e es p redex = refl
  verdict-extends v ns t e es p scope = refl
  verdict-extends v ns t e es p itself = refl
  verdict-extends v ns t e es p foreign = refl
  verdict-extends v ns t e es p (dropped y i n) = ap (λ (z : Problem). Goes z) (fresh-extends y (keeping n (all_but i n) p.next_var) (e ∷ es) p)

  to-extends : (m v : ℕ) (o : Option (List SpineName)) (t : Term) (e : Equation) (es : List Equation) (p : Problem) → Follows more older (bind_to m v o t e es p) (bind_to m v o t e (es ++ later more p) (extend more older p))
  to-extends m v None t e es p = refl
  to-extends m v (Some xs) t e es p = verdict-extends v (names_of xs) t e es p (offence m v (names_of xs) false t)

  either-extends : (b : Bool) (x y x' y' : Step) → Follows more older x x' → Follows more older y y' → Follows more older (cond b x y) (cond b x' y')
  either-extends true x y x' y' h k = h
  either-extends false x y x' y' h k = k

  flex-extends : (m v w : ℕ) (x y : Option (List SpineName)) (e : Equation) (es : List Equation) (p : Problem) → Follows more older (flex_flex m v w x y e es p) (flex_flex m v w x y e (es ++ later more p) (extend more older p))
  flex-extends m v w (Some xs) (Some ys) e es p = either-extends (nat_eq v w) _ _ _ _ (same-extends v xs ys es p) (two-extends v w xs ys es p)
  flex-extends m v w (Some xs) None e es p = either-extends (nat_eq v w) _ _ _ _ refl (to-extends m v (Some xs) e.right e es p)
  flex-extends m v w None y e es p = either-extends (nat_eq v w) _ _ _ _ refl (to-extends m w y e.left e es p)

  rule-extends : (m : ℕ) (s t : Shape) (e : Equation) (es : List Equation) (p : Problem) → Follows more older (rule m s t e es p) (rule m s t e (es ++ later more p) (extend more older p))
  rule-extends m Redex t e es p = refl
  rule-extends m Abstraction Redex e es p = refl
  rule-extends m (Rigid h xs) Redex e es p = refl
  rule-extends m (Flex v xs) Redex e es p = refl
  rule-extends m (Rigid h xs) (Rigid k ys) e es p = rigid-extends h xs k ys e es p
  rule-extends m (Flex v xs) (Rigid k ys) e es p = to-extends m v (pattern_of xs) e.right e es p
  rule-extends m (Rigid h xs) (Flex w ys) e es p = to-extends m w (pattern_of ys) e.left e es p
  rule-extends m (Flex v xs) (Flex w ys) e es p = flex-extends m v w (pattern_of xs) (pattern_of ys) e es p
  rule-extends m Abstraction Abstraction e es p = refl
  rule-extends m Abstraction (Rigid k ys) e es p = refl
  rule-extends m Abstraction (Flex w ys) e es p = refl
  rule-extends m (Rigid h xs) Abstraction e es p = refl
  rule-extends m (Flex v xs) Abstraction e es p = refl

  step-extends : (m n : ℕ) (e : Equation) (es : List Equation) (bs : List Binding)
      → Follows more older (step m (record { next_var = n; equations = e ∷ es; bindings = bs })) (step m (extend more older (record { next_var = n; equations = e ∷ es; bindings = bs })))
  unfolding step
  step-extends m n e es bs = rule-extends m (shape m e.left) (shape m e.right) e es (record { next_var = n; equations = e ∷ es; bindings = bs })

  at-parts : (m k n : ℕ) (es : List Equation) (bs : List Binding) (a : Answer) → run m (suc k) (record { next_var = n; equations = es; bindings = bs }) ≡ Some a
      → ((q : Problem) → run m k q ≡ Some a → unify m (extend more older q) ≡ continued more older m a)
      → unify m (extend more older (record { next_var = n; equations = es; bindings = bs })) ≡ continued more older m a
  unfolding step
  at-parts m k n [] bs a h ih =
      let p : Problem = record { next_var = n; equations = []; bindings = bs } in
      let is : Some (Solved p) ≡ Some a = h in
      let same : Solved p ≡ a = cc in
      subst (λ z. unify m (extend more older p) ≡ continued more older m z) same refl
  at-parts m k n (e ∷ es) bs a h ih =
      go (step m (record { next_var = n; equations = e ∷ es; bindings = bs })) (step-extends m n e es bs) h
    where
      longer : Problem
      longer = extend more older (record { next_var = n; equations = e ∷ es; bindings = bs })

      go : (s : Step) → Follows more older s (step m longer) → after (run m k) s ≡ Some a → unify m longer ≡ continued more older m a
      go (Goes q) f r = unify-goes m longer (extend more older q) f ∙ ih q r
      go (Ends (Solved q)) f r = absurd f
      go (Ends (Clashed b)) f r = let same : Clashed b ≡ a = cc in unify-ends m longer (Clashed b) f ∙ ap (continued more older m) same
      go (Ends (Faulted u)) f r = let same : Faulted u ≡ a = cc in unify-ends m longer (Faulted u) f ∙ ap (continued more older m) same

  run-extends : (m k : ℕ) (p : Problem) (a : Answer) → run m k p ≡ Some a → unify m (extend more older p) ≡ continued more older m a
  run-extends m zero p a e = absurd (let z : None ≡ Some a = e in cc)
  run-extends m (suc k) p a e = at-parts m k p.next_var p.equations p.bindings a e (λ q h. run-extends m k q a h)

  pub unify-extends : (m : ℕ) (p : Problem) → unify m (extend more older p) ≡ continued more older m (unify m p)
  unify-extends m p = let it = unify-reached m p in run-extends m it.steps p (unify m p) it.ends

bound-none : (es : List Equation) → map (bound_equation []) es ≡ es
bound-none [] = refl
bound-none (e ∷ es) = ap (λ (xs : List Equation). e ∷ xs) (bound-none es)

-- the first equation, and then the others under its bindings
pub one-by-one : (m n : ℕ) (e : Equation) (es : List Equation) (bs : List Binding)
    → unify m (record { next_var = n; equations = e ∷ es; bindings = bs }) ≡ continued es bs m (unify m (record { next_var = n; equations = e ∷ []; bindings = [] }))
one-by-one m n e es bs =
    ap (λ (xs : List Equation). unify m (record { next_var = n; equations = e ∷ xs; bindings = bs })) (sym (bound-none es))
    ∙ unify-extends es bs m (record { next_var = n; equations = e ∷ []; bindings = [] })
