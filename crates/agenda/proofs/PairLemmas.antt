-- Ordered lists of pairs.
use Rattle.std.proofs.Common.{◌≡◌, ℕ, Bool, true, false, ◌||◌, ◌&&◌, List, [], ◌∷◌, length, ◌+◌, arith, sym, ◌∙◌, ap, subst, inl, inr, refl}
use Rattle.std.specs.Prelude.{not}
use Rattle.std.proofs.lemmas.Bool.{cases_order, cases_Bool, cond-true, cond-false, or_cases, or_parts, or_left}
use Rattle.std.proofs.lemmas.Bool.Decides.{nat_tests}
use Rattle.agenda.specs.Pairs.{IsBefore, IsBeforeAll, IsOrdered, is_before, same, has, put, without}

-- two pairs with the same parts
pair_equal : (p q : ℕ × ℕ) → p.0 ≡ q.0 → p.1 ≡ q.1 → p ≡ q
pair_equal (a, b) (c, d) e f = cc

-- how two pairs can lie, with what the tests say
data Order (p q : ℕ × ℕ) : Type 0 where
  before : IsBefore p q → is_before p q ≡ true → same p q ≡ false → same q p ≡ false → Order p q
  equal : p ≡ q → is_before p q ≡ false → same p q ≡ true → Order p q
  after : IsBefore q p → is_before p q ≡ false → same p q ≡ false → same q p ≡ false → Order p q

pub same-refl : (p : ℕ × ℕ) → same p p ≡ true
unfolding same
same-refl p = grind (arith, nat_tests)

pub same-true : (p q : ℕ × ℕ) → same p q ≡ true → p ≡ q
unfolding same
same-true p q t =
    let e : p.0 ≡ q.0 = grind (arith, nat_tests) in
    let f : p.1 ≡ q.1 = grind (arith, nat_tests) in
    pair_equal p q e f

before_tests : (p q : ℕ × ℕ) → IsBefore p q → (is_before p q ≡ true) × (is_before q p ≡ false) × (same p q ≡ false) × (same q p ≡ false)
unfolding is_before same
before_tests p q b =
    elim b [
      | inl less ↦ (grind (arith, nat_tests), grind (arith, nat_tests), grind (arith, nat_tests), grind (arith, nat_tests))
      | inr tie ↦ (grind (arith, nat_tests), grind (arith, nat_tests), grind (arith, nat_tests), grind (arith, nat_tests))
    ]

equal_tests : (p : ℕ × ℕ) → (is_before p p ≡ false) × (same p p ≡ true)
unfolding is_before same
equal_tests p = (grind (arith, nat_tests), grind (arith, nat_tests))

order_before : (p q : ℕ × ℕ) → IsBefore p q → Order p q
order_before p q b = let t = before_tests p q b in before b t.0 t.2 t.3

order_after : (p q : ℕ × ℕ) → IsBefore q p → Order p q
order_after p q b = let t = before_tests q p b in after b t.1 t.3 t.2

order_equal : (p q : ℕ × ℕ) → p ≡ q → Order p q
order_equal p q e = let P : ℕ × ℕ → Type 0 = λ r. Order p r in subst P e (let t = equal_tests p in equal refl t.0 t.1)

order : (p q : ℕ × ℕ) → Order p q
order p q =
    elim (cases_order p.0 q.0) [
      | inl tie ↦ elim (cases_order p.1 q.1) [
        | inl alike ↦ order_equal p q (pair_equal p q tie alike)
        | inr apart ↦ elim apart [ inl less ↦ order_before p q (inr (tie, less)) | inr more ↦ order_after p q (inr (sym tie, more)) ]
      ]
      | inr apart ↦ elim apart [ inl less ↦ order_before p q (inl less) | inr more ↦ order_after p q (inl more) ]
    ]

same_flip : (p q : ℕ × ℕ) → same p q ≡ false → same q p ≡ false
same_flip p q f =
    elim (order p q) [
      | before b t s r ↦ r
      | equal e t s ↦ cc
      | after b t s r ↦ r
    ]

IsBefore-trans : (p q r : ℕ × ℕ) → IsBefore p q → IsBefore q r → IsBefore p r
IsBefore-trans p q r b c = grind arith

-- what put and without come to, in each order
put-before : (p q : ℕ × ℕ) (qs : List (ℕ × ℕ)) → is_before p q ≡ true → put p (q ∷ qs) ≡ p ∷ q ∷ qs
put-before p q qs t = cond-true _ _ _ t

put-equal : (p q : ℕ × ℕ) (qs : List (ℕ × ℕ)) → is_before p q ≡ false → same p q ≡ true → put p (q ∷ qs) ≡ q ∷ qs
put-equal p q qs t s = cond-false _ _ _ t ∙ cond-true _ _ _ s

put-after : (p q : ℕ × ℕ) (qs : List (ℕ × ℕ)) → is_before p q ≡ false → same p q ≡ false → put p (q ∷ qs) ≡ q ∷ put p qs
put-after p q qs t s = cond-false _ _ _ t ∙ cond-false _ _ _ s

pub without-same : (p q : ℕ × ℕ) (qs : List (ℕ × ℕ)) → same p q ≡ true → without p (q ∷ qs) ≡ qs
without-same p q qs s = cond-true _ _ _ s

without-other : (p q : ℕ × ℕ) (qs : List (ℕ × ℕ)) → same p q ≡ false → without p (q ∷ qs) ≡ q ∷ without p qs
without-other p q qs s = cond-false _ _ _ s

or_swap : (a b c : Bool) → (b || (a || c)) ≡ (a || (b || c))
or_swap true true c = refl
or_swap true false c = refl
or_swap false true c = refl
or_swap false false c = refl

or_twice : (a c : Bool) → (a || c) ≡ (a || (a || c))
or_twice true c = refl
or_twice false c = refl

-- the pair that was put in is there, and so are those that were
pub has-put : (p q : ℕ × ℕ) (ps : List (ℕ × ℕ)) → has (put p ps) q ≡ (same p q || has ps q)
has-put p q [] = refl
has-put p q (x ∷ xs) =
    elim (order p x) [
      | before b t s r ↦ ap (λ (l : List (ℕ × ℕ)). has l q) (put-before p x xs t)
      | equal e t s ↦ ap (λ (l : List (ℕ × ℕ)). has l q) (put-equal p x xs t s) ∙ (or_twice (same x q) (has xs q) ∙ ap (λ (y : ℕ × ℕ). same y q || (same x q || has xs q)) (sym e))
      | after b t s r ↦ ap (λ (l : List (ℕ × ℕ)). has l q) (put-after p x xs t s) ∙ (ap (λ (d : Bool). same x q || d) (has-put p q xs) ∙ or_swap (same p q) (same x q) (has xs q))
    ]

-- a pair before all of a list is not in it
pub before-absent : (p : ℕ × ℕ) (ps : List (ℕ × ℕ)) → IsBeforeAll p ps → has ps p ≡ false
before-absent p [] b = refl
before-absent p (q ∷ qs) b = ap (λ (d : Bool). d || has qs p) (before_tests p q b.0).3 ∙ before-absent p qs b.1

and_or : (a b c : Bool) → (a ≡ true → b ≡ false) → (b || (not a && c)) ≡ (not a && (b || c))
and_or true true c h = h refl
and_or true false c h = refl
and_or false true c h = refl
and_or false false c h = refl

-- the pair that was taken out is gone, and the others are there
pub has-without : (p q : ℕ × ℕ) (ps : List (ℕ × ℕ)) → IsOrdered ps → has (without p ps) q ≡ (not (same p q) && has ps q)
has-without p q [] o = elim (cases_Bool (same p q)) [ inl t ↦ rw t refl | inr f ↦ rw f refl ]
has-without p q (x ∷ xs) o =
    elim (cases_Bool (same p x)) [
      | inl s ↦
          let e : p ≡ x = same-true p x s in
          ap (λ (l : List (ℕ × ℕ)). has l q) (without-same p x xs s)
          ∙ elim (cases_Bool (same p q)) [
            | inl here ↦
                let at : x ≡ q = sym e ∙ same-true p q here in
                let P : ℕ × ℕ → Type 0 = λ y. has xs y ≡ false in
                subst P at (before-absent x xs o.0) ∙ sym (ap (λ (d : Bool). not d && (same x q || has xs q)) here)
            | inr other ↦
                let Q : ℕ × ℕ → Type 0 = λ y. same y q ≡ false in
                let apart : same x q ≡ false = subst Q e other in
                sym (ap (λ (d : Bool). not d && (same x q || has xs q)) other ∙ ap (λ (d : Bool). d || has xs q) apart)
          ]
      | inr s ↦
          let apart : same p q ≡ true → same x q ≡ false = λ here.
          let P : ℕ × ℕ → Type 0 = λ y. same x y ≡ false in subst P (same-true p q here) (same_flip p x s) in
          ap (λ (l : List (ℕ × ℕ)). has l q) (without-other p x xs s)
          ∙ (ap (λ (d : Bool). same x q || d) (has-without p q xs o.1) ∙ and_or (same p q) (same x q) (has xs q) apart)
    ]

before_all-trans : (p q : ℕ × ℕ) (ps : List (ℕ × ℕ)) → IsBefore p q → IsBeforeAll q ps → IsBeforeAll p ps
before_all-trans p q [] b all = tt
before_all-trans p q (x ∷ xs) b all = (IsBefore-trans p q x b all.0, before_all-trans p q xs b all.1)

before_all-put : (p q : ℕ × ℕ) (ps : List (ℕ × ℕ)) → IsBefore q p → IsBeforeAll q ps → IsBeforeAll q (put p ps)
before_all-put p q [] b all = (b, tt)
before_all-put p q (x ∷ xs) b all =
    let P : List (ℕ × ℕ) → Type 0 = λ l. IsBeforeAll q l in
    elim (order p x) [
      | before c t s r ↦ subst P (sym (put-before p x xs t)) (b, all)
      | equal e t s ↦ subst P (sym (put-equal p x xs t s)) all
      | after c t s r ↦ subst P (sym (put-after p x xs t s)) (all.0, before_all-put p q xs b all.1)
    ]

pub ordered-put : (p : ℕ × ℕ) (ps : List (ℕ × ℕ)) → IsOrdered ps → IsOrdered (put p ps)
ordered-put p [] o = (tt, tt)
ordered-put p (x ∷ xs) o =
    let P : List (ℕ × ℕ) → Type 0 = λ l. IsOrdered l in
    elim (order p x) [
      | before c t s r ↦ subst P (sym (put-before p x xs t)) ((c, before_all-trans p x xs c o.0), o)
      | equal e t s ↦ subst P (sym (put-equal p x xs t s)) o
      | after c t s r ↦ subst P (sym (put-after p x xs t s)) (before_all-put p x xs c o.0, ordered-put p xs o.1)
    ]

before_all-without : (p q : ℕ × ℕ) (ps : List (ℕ × ℕ)) → IsBeforeAll q ps → IsBeforeAll q (without p ps)
before_all-without p q [] all = tt
before_all-without p q (x ∷ xs) all =
    let P : List (ℕ × ℕ) → Type 0 = λ l. IsBeforeAll q l in
    elim (cases_Bool (same p x)) [
      | inl s ↦ subst P (sym (without-same p x xs s)) all.1
      | inr s ↦ subst P (sym (without-other p x xs s)) (all.0, before_all-without p q xs all.1)
    ]

pub ordered-without : (p : ℕ × ℕ) (ps : List (ℕ × ℕ)) → IsOrdered ps → IsOrdered (without p ps)
ordered-without p [] o = tt
ordered-without p (x ∷ xs) o =
    let P : List (ℕ × ℕ) → Type 0 = λ l. IsOrdered l in
    elim (cases_Bool (same p x)) [
      | inl s ↦ subst P (sym (without-same p x xs s)) o.1
      | inr s ↦ subst P (sym (without-other p x xs s)) (before_all-without p x xs o.0, ordered-without p xs o.1)
    ]

pub length-put : (p : ℕ × ℕ) (ps : List (ℕ × ℕ)) → has ps p ≡ false → length (put p ps) ≡ length ps + 1
length-put p [] h = refl
length-put p (x ∷ xs) h =
    elim (order p x) [
      | before c t s r ↦ ap length (put-before p x xs t) ∙ omega arith
      | equal e t s ↦
          let P : ℕ × ℕ → Type 0 = λ y. same y p ≡ true in
          let here : same x p ≡ true = subst P e (same-refl p) in
          let gone : same x p ≡ false = (or_parts _ _ h).0 in
          cc
      | after c t s r ↦ ap length (put-after p x xs t s) ∙ omega (arith, length-put p xs (or_parts _ _ h).1)
    ]

pub length-without : (p : ℕ × ℕ) (ps : List (ℕ × ℕ)) → has ps p ≡ true → length (without p ps) + 1 ≡ length ps
length-without p [] h = cc
length-without p (x ∷ xs) h =
    elim (cases_Bool (same p x)) [
      | inl s ↦ ap (λ (l : List (ℕ × ℕ)). length l + 1) (without-same p x xs s) ∙ omega arith
      | inr s ↦ elim (or_cases (same x p) (has xs p) h) [
        | inl here ↦ let gone : same x p ≡ false = same_flip p x s in cc
        | inr there ↦ ap (λ (l : List (ℕ × ℕ)). length l + 1) (without-other p x xs s) ∙ omega (arith, length-without p xs there)
      ]
    ]

-- the pair that no other comes before is the first
pub first-is : (p : ℕ × ℕ) (ps : List (ℕ × ℕ)) → IsOrdered ps → has ps p ≡ true → ((q : ℕ × ℕ) → has ps q ≡ true → IsBefore q p → ⊥) → ps ≡ p ∷ without p ps
first-is p [] o h least = cc
first-is p (x ∷ xs) o h least =
    elim (order p x) [
      | before c t s r ↦ elim (or_cases (same x p) (has xs p) h) [
        | inl here ↦ cc
        | inr there ↦ let gone : has xs p ≡ false = before-absent p xs (before_all-trans p x xs c o.0) in cc
      ]
      | equal e t s ↦ ap (λ (y : ℕ × ℕ). y ∷ xs) (sym e) ∙ ap (λ (l : List (ℕ × ℕ)). p ∷ l) (sym (without-same p x xs s))
      | after c t s r ↦ absurd (least x (or_left _ _ (same-refl x)) c)
    ]

-- a list that has no pair is empty
pub none-is : (ps : List (ℕ × ℕ)) → ((q : ℕ × ℕ) → has ps q ≡ false) → ps ≡ []
none-is [] h = refl
none-is (x ∷ xs) h = let gone : same x x ≡ false = (or_parts _ _ (h x)).0 in let here : same x x ≡ true = same-refl x in cc
