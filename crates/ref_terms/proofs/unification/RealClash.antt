-- A clash that is no knot is real: the equations have no solution.
use Rattle.std.proofs.Common.{◌≡◌, ℕ, ℤ, zero, suc, ◌+◌, ◌≤◌, Bool, true, false, cond, ◌&&◌, nat_eq, nat_lt, refl, sym, ap, ap₂, ◌∙◌, subst, arith, List, [], ◌∷◌, ◌++◌, length, Option, Some, None, eqb-true}
use Rattle.std.specs.Ordering.{int_eq}
use Rattle.std.proofs.lemmas.Bool.Decides.{Decides-int_eq, nat_tests}
use Rattle.ref_terms.specs.terms.Term.{Term, Lam, At, App, Head, Con, Int, Str, Name, Bound, Var}
use Rattle.ref_terms.specs.terms.Instance.{valued, inst_all}
use Rattle.ref_terms.specs.unification.Spine.{args_of, head_of}
use Rattle.ref_terms.specs.unification.Shape.{Shape, Abstraction, Redex, Rigid, Flex, headed, shape}
use Rattle.ref_terms.specs.unification.Pattern.{SpineName, pattern_of, names_of}
use Rattle.ref_terms.specs.unification.Closing.{keeping}
use Rattle.ref_terms.specs.unification.Offence.{Verdict, fine, redex, scope, itself, foreign, dropped, offence}
use Rattle.ref_terms.specs.unification.Run.{Unifies, after, run}
use Rattle.ref_terms.specs.unification.Problem.{Equation, Problem, Solved, Clashed, Faulted, Step, Goes, Ends, Pattern_fault}
use Rattle.ref_terms.specs.unification.Bind.{bind_fresh}
use Rattle.ref_terms.specs.unification.Positions.{agreeing}
use Rattle.ref_terms.specs.unification.Rules.{same_variable, two_variables, by_verdict, bind_to, flex_flex, headed_by_name, head_eq, equations_of, rule, step_at, step}
use Rattle.ref_terms.specs.terms.Occurs.{is_name, has_name}
use Rattle.ref_terms.specs.unification.Unifier.{IsUnifier, IsChoice, HasNoUnifier}
use Rattle.ref_terms.specs.unification.RealClash.{FirstHasNoIndexHead, RealClash}
use Rattle.ref_terms.proofs.unification.CountLemmas.{tally, count, NoBound, lams, core}
use Rattle.ref_terms.proofs.unification.HeadLemmas.{or_left, or_right, is_rigid, RigidStay, rigid-head, rigid-length, flex-count, flex-balance, Outside, outside-all, outside-any, pattern-unmet}
use Rattle.ref_terms.proofs.unification.ClashLemmas.{Quiet, no_pattern-quiet, HasForeign, no_bound-name, Strong, IsInstance, offence-strong}

-- what a shape says of its term
abbrev pub Shaped : ℕ → Term → Shape → Type 0
Shaped m t (Rigid h xs) = (head_of t ≡ Some h) × (is_rigid m h ≡ true) × (args_of t ≡ xs)
Shaped m t (Flex v xs) = (head_of t ≡ Some (Var v)) × (nat_lt v m ≡ false) × (args_of t ≡ xs)
Shaped m t Abstraction = Unit {0}
Shaped m t Redex = Unit {0}

shaped : (m : ℕ) (t : Term) → Shaped m t (shape m t)
shaped m (Lam b) = tt
shaped m (At h) = go h refl
  where
    go : (k : Head) → h ≡ k → Shaped m (At h) (headed m (Some k) [])
    go (Var v) e = deep (nat_lt v m) refl
      where
        deep : (b : Bool) → nat_lt v m ≡ b → Shaped m (At h) (cond b (Rigid (Var v) []) (Flex v []))
        deep true d = (ap Some e, d, refl)
        deep false d = (ap Some e, d, refl)
    go (Con c) e = (ap Some e, refl, refl)
    go (Int c) e = (ap Some e, refl, refl)
    go (Str c) e = (ap Some e, refl, refl)
    go (Name c) e = (ap Some e, refl, refl)
    go (Bound c) e = (ap Some e, refl, refl)
shaped m (App f a) = go (head_of f) refl
  where
    go : (o : Option Head) → head_of f ≡ o → Shaped m (App f a) (headed m o (args_of f ++ a ∷ []))
    go None e = tt
    go (Some (Var v)) e = deep (nat_lt v m) refl
      where
        deep : (b : Bool) → nat_lt v m ≡ b → Shaped m (App f a) (cond b (Rigid (Var v) (args_of f ++ a ∷ [])) (Flex v (args_of f ++ a ∷ [])))
        deep true d = (e, d, refl)
        deep false d = (e, d, refl)
    go (Some (Con c)) e = (e, refl, refl)
    go (Some (Int c)) e = (e, refl, refl)
    go (Some (Str c)) e = (e, refl, refl)
    go (Some (Name c)) e = (e, refl, refl)
    go (Some (Bound c)) e = (e, refl, refl)

-- where the step is such a clash, the equation E doesn't hold
abbrev pub Real : Type 0 → Step → Type 0
Real E (Goes q) = Unit {0}
Real E (Ends (Solved q)) = Unit {0}
Real E (Ends (Faulted f)) = Unit {0}
Real E (Ends (Clashed true)) = Unit {0}
Real E (Ends (Clashed false)) = E → ⊥

-- a free index at the head, if there is one, counts as a name
abbrev pub IndexNamed : Term → Type 0
IndexNamed t = (i : ℕ) → head_of t ≡ Some (Bound i) → headed_by_name (Some (Bound i)) ≡ true

-- nor so on either side of the first equation
abbrev pub FirstNamed : List Equation → Type 0
FirstNamed [] = Unit {0}
FirstNamed (e ∷ es) = IndexNamed e.left × IndexNamed e.right

real-more : (E F : Type 0) → (E → F) → (k : Step) → Real F k → Real E k
real-more E F f (Goes q) w = tt
real-more E F f (Ends (Solved q)) w = tt
real-more E F f (Ends (Faulted g)) w = tt
real-more E F f (Ends (Clashed true)) w = tt
real-more E F f (Ends (Clashed false)) w = λ e. w (f e)

nat_eq_self : (n : ℕ) → nat_eq n n ≡ true
nat_eq_self n = grind arith

int_eq_self : (n : ℤ) → int_eq n n ≡ true
int_eq_self n = (Decides-int_eq n n).1 refl

head_eq_self : (h : Head) → head_eq h h ≡ true
head_eq_self (Con c) = nat_eq_self c
head_eq_self (Int c) = int_eq_self c
head_eq_self (Str c) = nat_eq_self c
head_eq_self (Name c) = nat_eq_self c
head_eq_self (Bound c) = nat_eq_self c
head_eq_self (Var c) = nat_eq_self c

nameless-count : (n : ℕ) (t : Term) → has_name n t ≡ false → count (is_name n) t ≡ 0
nameless-count n (Lam b) e = nameless-count n b e
nameless-count n (At h) e = ap tally e
nameless-count n (App f a) e = let x = nameless-count n f (or_left (has_name n f) (has_name n a) e) in let y = nameless-count n a (or_right (has_name n f) (has_name n a) e) in omega arith

module _ (m : ℕ) (u : ℕ → Term) (good : IsChoice m u) where
  stays : RigidStay m (valued u)
  stays (Var v) e = good.frozen v (grind (arith, nat_tests))
  stays (Con c) e = refl
  stays (Int c) e = refl
  stays (Str c) e = refl
  stays (Name c) e = refl
  stays (Bound c) e = refl

  -- both sides are equal under the choice
  abbrev pub Same : Term → Term → Type 0
  Same s t = inst_all u s ≡ inst_all u t

  real-sym : (s t : Term) (k : Step) → Real (Same t s) k → Real (Same s t) k
  real-sym s t (Goes q) w = tt
  real-sym s t (Ends (Solved q)) w = tt
  real-sym s t (Ends (Faulted f)) w = tt
  real-sym s t (Ends (Clashed true)) w = tt
  real-sym s t (Ends (Clashed false)) w = λ e. w (sym e)

  -- what the left side of such a clash holds no more of than the variable's value
  abbrev Few : ℕ → List ℕ → Term → Type 0
  Few v ns s = (p : Head → Bool) → NoBound p → Outside p ns → count p (inst_all u s) ≡ count p (u v)

  few : (v : ℕ) (s : Term) (ks : List SpineName) → head_of s ≡ Some (Var v) → pattern_of (args_of s) ≡ Some ks → Few v (names_of ks) s
  few v s ks e d = λ p n o. flex-count m (valued u) stays p n s v e (pattern-unmet p n (args_of s) ks d o).0

  -- a head that a spine adds nothing to
  too_many : (v : ℕ) (ns : List ℕ) (s t : Term) (h : Head) → Few v ns s → NoBound (head_eq h) → ((k : ℕ) → head_eq h (Name k) ≡ false) → ((p : Head → Bool) → NoBound p → count p (u v) + tally (p h) ≤ count p (inst_all u t)) → Same s t → ⊥
  too_many v ns s t h few n o k e =
      let a = few (head_eq h) n (outside-all (head_eq h) o ns) in
      let b = k (head_eq h) n in
      let c : tally (head_eq h h) ≡ 1 = ap tally (head_eq_self h) in
      let d : count (head_eq h) (inst_all u s) ≡ count (head_eq h) (inst_all u t) = ap (count (head_eq h)) e in
      omega arith

  itself-real : (v : ℕ) (ns : List ℕ) (s t : Term) (h : Head) → ((i : ℕ) → h ≡ Bound i → headed_by_name (Some h) ≡ true) → Few v ns s → ((p : Head → Bool) → NoBound p → count p (u v) + tally (p h) ≤ count p (inst_all u t)) → Real (Same s t) (Ends (Clashed (headed_by_name (Some h))))
  itself-real v ns s t (Name c) n f k = tt
  itself-real v ns s t (Bound c) n f k = subst (λ b. Real (Same s t) (Ends (Clashed b))) (sym (n c refl)) tt
  itself-real v ns s t (Con c) n f k = too_many v ns s t (Con c) f (λ i. refl) (λ i. refl) k
  itself-real v ns s t (Int c) n f k = too_many v ns s t (Int c) f (λ i. refl) (λ i. refl) k
  itself-real v ns s t (Str c) n f k = too_many v ns s t (Str c) f (λ i. refl) (λ i. refl) k
  itself-real v ns s t (Var c) n f k = too_many v ns s t (Var c) f (λ i. refl) (λ i. refl) k

  foreign-real : (v : ℕ) (ns : List ℕ) (s t : Term) → Few v ns s → HasForeign ns (inst_all u t) → Same s t → ⊥
  foreign-real v ns s t f w e =
      let a = f (is_name w.name) (no_bound-name w.name) (outside-any w.name ns w.outside) in
      let b = w.stands in
      let c = nameless-count w.name (u v) (good.substitution.nameless v w.name) in
      let d : count (is_name w.name) (inst_all u s) ≡ count (is_name w.name) (inst_all u t) = ap (count (is_name w.name)) e in
      omega arith

  verdict-real : (v : ℕ) (ns : List ℕ) (s t : Term) (h : Head) (assignable : nat_lt v m ≡ false) → head_of t ≡ Some h → IndexNamed t → Few v ns s → (e : Equation) (es : List Equation) (p : Problem) (w : Verdict) → Strong m v ns assignable (u v) h w (inst_all u t) → Real (Same s t) (by_verdict v ns t e es p w)
  verdict-real v ns s t h g k n f e es p itself q = subst (λ o. Real (Same s t) (Ends (Clashed (headed_by_name o)))) (sym k) (itself-real v ns s t h (λ i d. let same : Some h ≡ Some (Bound i) = ap Some d in ap headed_by_name same ∙ n i (k ∙ same)) f q)
  verdict-real v ns s t h g k z f e es p foreign q = foreign-real v ns s t f q
  verdict-real v ns s t h g k z f e es p fine q = tt
  verdict-real v ns s t h g k z f e es p redex q = tt
  verdict-real v ns s t h g k z f e es p scope q = tt
  verdict-real v ns s t h g k z f e es p (dropped y i n) q = tt

  quiet-real : (E : Type 0) (v : ℕ) (ns : List ℕ) (t : Term) (e : Equation) (es : List Equation) (p : Problem) (w : Verdict) → Quiet w → Real E (by_verdict v ns t e es p w)
  quiet-real E v ns t e es p itself q = absurd q
  quiet-real E v ns t e es p foreign q = absurd q
  quiet-real E v ns t e es p fine q = tt
  quiet-real E v ns t e es p redex q = tt
  quiet-real E v ns t e es p scope q = tt
  quiet-real E v ns t e es p (dropped y i n) q = tt

  -- a variable with a pattern spine against a rigid term
  bind_to-real : (v : ℕ) (s t : Term) (h : Head) → head_of s ≡ Some (Var v) → nat_lt v m ≡ false → head_of t ≡ Some h → is_rigid m h ≡ true → IndexNamed t → (e : Equation) (es : List Equation) (p : Problem) (o : Option (List SpineName)) → pattern_of (args_of s) ≡ o → Real (Same s t) (bind_to m v o t e es p)
  bind_to-real v s t h hs g ht rt z e es p None d = tt
  bind_to-real v s t h hs g ht rt z e es p (Some ks) d =
      let i : IsInstance m v (names_of ks) g (u v) (valued u) = record { stays = stays; carries = λ p n. refl } in
      verdict-real v (names_of ks) s t h g ht z (few v s ks hs d) e es p (offence m v (names_of ks) false t) (offence-strong m v (names_of ks) g (u v) (valued u) i t h rt ht)

  -- one value applied to unequally many names
  unequal : (v : ℕ) (s t : Term) (ks ls : List SpineName) → head_of s ≡ Some (Var v) → head_of t ≡ Some (Var v) → pattern_of (args_of s) ≡ Some ks → pattern_of (args_of t) ≡ Some ls → Same s t → length ks ≡ length ls
  unequal v s t ks ls hs ht ds dt e =
      let p : Head → Bool = λ h. false in
      let n : NoBound p = λ i. refl in
      let a = pattern-unmet p n (args_of s) ks ds (outside-all p (λ i. refl) (names_of ks)) in
      let b = pattern-unmet p n (args_of t) ls dt (outside-all p (λ i. refl) (names_of ls)) in
      let x = flex-balance m (valued u) stays p n s v hs a.0 in
      let y = flex-balance m (valued u) stays p n t v ht b.0 in
      let c : core (inst_all u s) ≡ core (inst_all u t) = ap core e in
      let l : lams (inst_all u s) ≡ lams (inst_all u t) = ap lams e in
      let i : length ks ≡ length (args_of s) = a.1 in
      let j : length ls ≡ length (args_of t) = b.1 in
      omega arith

  same-real : (v : ℕ) (s t : Term) (ks ls : List SpineName) → head_of s ≡ Some (Var v) → head_of t ≡ Some (Var v) → pattern_of (args_of s) ≡ Some ks → pattern_of (args_of t) ≡ Some ls → (es : List Equation) (p : Problem) → Real (Same s t) (same_variable v ks ls es p)
  same-real v s t ks ls hs ht ds dt es p = go (nat_eq (length ks) (length ls)) refl (bind_fresh v (keeping (length ks) (agreeing 0 ks ls) p.next_var) es p)
    where
      go : (b : Bool) → nat_eq (length ks) (length ls) ≡ b → (q : Problem) → Real (Same s t) (cond b (Goes q) (Ends (Clashed false)))
      go true d q = tt
      go false d q = λ e. let same = unequal v s t ks ls hs ht ds dt e in let z : nat_eq (length ls) (length ls) ≡ true = nat_eq_self (length ls) in let y : nat_eq (length ks) (length ls) ≡ nat_eq (length ls) (length ls) = ap (λ k. nat_eq k (length ls)) same in let x : false ≡ true = sym d ∙ y ∙ z in absurd (cc)

  flex_flex-real : (v w : ℕ) (s t : Term) → head_of s ≡ Some (Var v) → nat_lt v m ≡ false → head_of t ≡ Some (Var w) → nat_lt w m ≡ false → (e : Equation) → e.left ≡ s → e.right ≡ t → (es : List Equation) (p : Problem) (o q : Option (List SpineName)) → pattern_of (args_of s) ≡ o → pattern_of (args_of t) ≡ q → Real (Same s t) (flex_flex m v w o q e es p)
  flex_flex-real v w s t hs gs ht gt e el er es p (Some ks) (Some ls) ds dt = go (nat_eq v w) refl
    where
      go : (b : Bool) → nat_eq v w ≡ b → Real (Same s t) (cond b (same_variable v ks ls es p) (two_variables v w ks ls es p))
      go true d = let same : w ≡ v = sym (eqb-true _ _ d) in same-real v s t ks ls hs (ht ∙ ap (λ k. Some (Var k)) same) ds dt es p
      go false d = tt
  flex_flex-real v w s t hs gs ht gt e el er es p (Some ks) None ds dt = go (nat_eq v w) refl
    where
      go : (b : Bool) → nat_eq v w ≡ b → Real (Same s t) (cond b (Ends (Faulted Pattern_fault)) (bind_to m v (Some ks) e.right e es p))
      go true d = tt
      go false d = quiet-real (Same s t) v (names_of ks) e.right e es p (offence m v (names_of ks) false e.right)
          (subst (λ z. Quiet (offence m v (names_of ks) false z)) (sym er) (no_pattern-quiet m v (names_of ks) t w ht gt d dt))
  flex_flex-real v w s t hs gs ht gt e el er es p None (Some ls) ds dt = go (nat_eq v w) refl
    where
      swap : nat_eq v w ≡ false → (b : Bool) → nat_eq w v ≡ b → b ≡ false
      swap d true c = absurd (let same : v ≡ w = sym (eqb-true _ _ c) in let y : nat_eq v w ≡ nat_eq w w = ap (λ k. nat_eq k w) same in let z = nat_eq_self w in let x : false ≡ true = sym d ∙ y ∙ z in cc)
      swap d false c = refl

      go : (b : Bool) → nat_eq v w ≡ b → Real (Same s t) (cond b (Ends (Faulted Pattern_fault)) (bind_to m w (Some ls) e.left e es p))
      go true d = tt
      go false d = quiet-real (Same s t) w (names_of ls) e.left e es p (offence m w (names_of ls) false e.left)
          (subst (λ z. Quiet (offence m w (names_of ls) false z)) (sym el) (no_pattern-quiet m w (names_of ls) s v hs gs (swap d (nat_eq w v) refl) ds))
  flex_flex-real v w s t hs gs ht gt e el er es p None None ds dt = go (nat_eq v w)
    where
      go : (b : Bool) → Real (Same s t) (cond b (Ends (Faulted Pattern_fault)) (Ends (Faulted Pattern_fault)))
      go true = tt
      go false = tt

  -- rigid heads, or numbers of arguments, differ
  rigid-real : (s t : Term) (h k : Head) (xs ys : List Term) → head_of s ≡ Some h → is_rigid m h ≡ true → args_of s ≡ xs → head_of t ≡ Some k → is_rigid m k ≡ true → args_of t ≡ ys → Same s t → (head_eq h k && nat_eq (length xs) (length ys)) ≡ true
  rigid-real s t h k xs ys hs gs as' ht gt at' e =
      let a : Some h ≡ Some k = sym (rigid-head m (valued u) stays s h gs hs) ∙ ap head_of e ∙ rigid-head m (valued u) stays t k gt ht in
      let heads : h ≡ k = cc in
      let b : length xs ≡ length ys = ap length (sym as') ∙ sym (rigid-length m (valued u) stays s h gs hs) ∙ ap (λ w. length (args_of w)) e ∙ rigid-length m (valued u) stays t k gt ht ∙ ap length at' in
      ap₂ (λ (a b : Bool). a && b) (ap (λ q. head_eq q k) heads ∙ head_eq_self k) (ap (λ n. nat_eq n (length ys)) b ∙ nat_eq_self (length ys))

  rule-real : (a b : Shape) (e : Equation) → Shaped m e.left a → Shaped m e.right b → IndexNamed e.left → IndexNamed e.right → (es : List Equation) (p : Problem) → Real (Same e.left e.right) (rule m a b e es p)
  rule-real Redex b e v w i j es p = tt
  rule-real Abstraction Redex e v w i j es p = tt
  rule-real (Rigid h xs) Redex e v w i j es p = tt
  rule-real (Flex x xs) Redex e v w i j es p = tt
  rule-real (Rigid h xs) (Rigid k ys) e v w i j es p = go (head_eq h k && nat_eq (length xs) (length ys)) refl
    where
      go : (b : Bool) → (head_eq h k && nat_eq (length xs) (length ys)) ≡ b → Real (Same e.left e.right) (cond b (Goes (record p { equations = equations_of e.names xs ys ++ es })) (Ends (Clashed false)))
      go true d = tt
      go false d = λ q. absurd (let z = rigid-real e.left e.right h k xs ys v.0 v.1 v.2 w.0 w.1 w.2 q in let y : false ≡ true = sym d ∙ z in cc)
  rule-real (Flex x xs) (Rigid k ys) e v w i j es p =
      subst (λ o. Real (Same e.left e.right) (bind_to m x o e.right e es p)) (ap pattern_of v.2)
      (bind_to-real x e.left e.right k v.0 v.1 w.0 w.1 j e es p (pattern_of (args_of e.left)) refl)
  rule-real (Rigid h xs) (Flex y ys) e v w i j es p =
      real-sym e.left e.right (bind_to m y (pattern_of ys) e.left e es p) (subst (λ o. Real (Same e.right e.left) (bind_to m y o e.left e es p)) (ap pattern_of w.2)
      (bind_to-real y e.right e.left h w.0 w.1 v.0 v.1 i e es p (pattern_of (args_of e.right)) refl))
  rule-real (Flex x xs) (Flex y ys) e v w i j es p =
      flex_flex-real x y e.left e.right v.0 v.1 w.0 w.1 e refl refl es p (pattern_of xs) (pattern_of ys) (ap pattern_of v.2) (ap pattern_of w.2)
  rule-real Abstraction Abstraction e v w i j es p = tt
  rule-real Abstraction (Rigid k ys) e v w i j es p = tt
  rule-real Abstraction (Flex y ys) e v w i j es p = tt
  rule-real (Rigid h xs) Abstraction e v w i j es p = tt
  rule-real (Flex x xs) Abstraction e v w i j es p = tt

  step_at-real : (es : List Equation) (p : Problem) → FirstNamed es → Real (IsUnifier u es) (step_at m es p)
  step_at-real [] p n = tt
  step_at-real (e ∷ es) p n = real-more (IsUnifier u (e ∷ es)) (Same e.left e.right) (λ s. s.0) (step_at m (e ∷ es) p) (rule-real (shape m e.left) (shape m e.right) e (shaped m e.left) (shaped m e.right) n.0 n.1 es p)

real-at : (E : Type 0) (s : Step) → s ≡ Ends (Clashed false) → Real E s → E → ⊥
real-at E s e w = subst (Real E) e w

no-index : (es : List Equation) → FirstHasNoIndexHead es → FirstNamed es
no-index [] w = tt
no-index (e ∷ es) w = (λ i d. absurd (w.0 i d), λ i d. absurd (w.1 i d))

pub real-clash : RealClash
unfolding step
real-clash m p w e u good s = real-at (IsUnifier u p.equations) (step_at m p.equations p) e (step_at-real m u good p.equations p (no-index p.equations w)) s

-- what a step keeps: proper problems stay proper, and what solves one before it can be made to solve the one after it
pub record KeepsSolutions (m : ℕ) (IsProper : Problem → Type 0) : Type 0 where
  pub bound : (p : Problem) → IsProper p → FirstHasNoIndexHead p.equations
  pub proper : (p q : Problem) → IsProper p → step m p ≡ Goes q → IsProper q
  pub solutions : (p q : Problem) → IsProper p → step m p ≡ Goes q → (u : ℕ → Term) → IsChoice m u → IsUnifier u p.equations → (w : ℕ → Term) × IsChoice m w × IsUnifier w q.equations

-- and of a whole run, where the steps keep the solutions
module _ (m : ℕ) (IsProper : Problem → Type 0) (keeps : KeepsSolutions m IsProper) where
  run-real : (n : ℕ) (p : Problem) → IsProper p → run m n p ≡ Some (Clashed false) → HasNoUnifier m p.equations
  run-real zero p w e = absurd (let z : None ≡ Some (Clashed false) = e in cc)
  run-real (suc n) p w e = go (step m p) refl e (λ q v d. run-real n q v d)
    where
      go : (s : Step) → step m p ≡ s → after (run m n) s ≡ Some (Clashed false) → ((q : Problem) → IsProper q → run m n q ≡ Some (Clashed false) → HasNoUnifier m q.equations) → HasNoUnifier m p.equations
      go (Ends a) d e i = let same : Ends a ≡ Ends (Clashed false) = let z : Some a ≡ Some (Clashed false) = e in cc in real-clash m p (keeps.bound p w) (d ∙ same)
      go (Goes q) d e i = λ u good s. let k = keeps.solutions p q w d u good s in i q (keeps.proper p q w d) e k.0 k.1 k.2

  pub real-where-kept : (p : Problem) → IsProper p → Unifies m p (Clashed false) → HasNoUnifier m p.equations
  real-where-kept p w a = run-real a.steps p w a.ends
