-- Tables by digits.
use Rattle.std.proofs.Common.{◌≡◌, ℕ, ◌<◌, ◌%◌, ◌&&◌, Bool, true, false, not, List, ◌∷◌, cond, nat_eq, refl, sym, ap, ◌∙◌, arith, ne_eqb, eqb-true, eq-eqb, subst}
use Rattle.std.proofs.lemmas.Bool.Decides.{nat_tests}
use Rattle.hyp_clause.specs.declared.hyp.Hyp.{Hyp}
use Rattle.hyp_context.specs.declared.table.Table.{Table}
use Rattle.hyp_context.specs.declared.table.Lists.{Lists}
use Rattle.hyp_context.specs.inside.Found.{found_in, found_at, halved, same_digit, by_digit, HasOneMore, IsTable}

and_left : (a b : Bool) → (a && b) ≡ true → a ≡ true
and_left true b e = refl
and_left false b e = e

and_right : (a b : Bool) → (a && b) ≡ true → b ≡ true
and_right true b e = e
and_right false b e = absurd (let z : false ≡ true = e in cc)

-- no zero
above : (n k : ℕ) → same_digit n k ≡ true → nat_eq n 0 ≡ false
above n k e = go (nat_eq n 0) (and_left _ _ e)
  where
    go : (b : Bool) → not b ≡ true → b ≡ false
    go true q = absurd (let z : false ≡ true = q in cc)
    go false q = refl

digits : (n k : ℕ) → same_digit n k ≡ true → n % 2 ≡ k % 2
digits n k e = eqb-true _ _ (and_right _ _ e)

same-own : (k : ℕ) → 0 < k → same_digit k k ≡ true
same-own k h = rw (ne_eqb k 0 (omega arith)) (eq-eqb (k % 2) (k % 2) refl)

-- numbers with the same digit and the same half are the same
same-half : (n k : ℕ) → 0 < n → 0 < k → n % 2 ≡ k % 2 → halved n ≡ halved k → n ≡ k
same-half n k h l e f = omega arith

halves : (n k : ℕ) → 0 < k → same_digit n k ≡ true → nat_eq (halved n) (halved k) ≡ nat_eq n k
halves n k h e = go (nat_eq n k) refl
  where
    go : (b : Bool) → nat_eq n k ≡ b → nat_eq (halved n) (halved k) ≡ b
    go true q = eq-eqb _ _ (ap halved (eqb-true n k q))
    go false q = ne_eqb _ _ (λ p. absurd (let z : true ≡ false = sym (eq-eqb n k (same-half n k (positive n (above n k e)) h (digits n k e) p)) ∙ q in cc))
      where
        positive : (m : ℕ) → nat_eq m 0 ≡ false → 0 < m
        positive m r = grind (arith, nat_tests)

other : (n k : ℕ) → 0 < k → same_digit n k ≡ false → nat_eq n k ≡ false
other n k h e = go (nat_eq n k) refl
  where
    go : (b : Bool) → nat_eq n k ≡ b → b ≡ false
    go false q = refl
    go true q =
        let same : n ≡ k = eqb-true n k q in
        absurd (let z : true ≡ false = sym (same-own k h) ∙ subst (λ m. same_digit m k ≡ false) same e in cc)

-- the table for the digit of k is this one
pub odd-half : {A : Type 0} (first : A) (odd even : ℕ → A) (n k : ℕ) → nat_eq (k % 2) 1 ≡ true → same_digit n k ≡ true → by_digit first odd even n ≡ odd (halved n)
odd-half first odd even n k q e = rw (above n k e, ap (λ d. nat_eq d 1) (digits n k e), q) refl

pub even-half : {A : Type 0} (first : A) (odd even : ℕ → A) (n k : ℕ) → nat_eq (k % 2) 1 ≡ false → same_digit n k ≡ true → by_digit first odd even n ≡ even (halved n)
even-half first odd even n k q e = rw (above n k e, ap (λ d. nat_eq d 1) (digits n k e), q) refl

-- with another table for the digit of k
pub odd-changed : {A : Type 0} (first : A) (odd even more : ℕ → A) (n k : ℕ) → 0 < k → nat_eq (k % 2) 1 ≡ true → by_digit first more even n ≡ cond (same_digit n k) (more (halved n)) (by_digit first odd even n)
odd-changed first odd even more n k h q = go (nat_eq n 0) refl (nat_eq (n % 2) 1) refl
  where
    go : (a : Bool) → nat_eq n 0 ≡ a → (b : Bool) → nat_eq (n % 2) 1 ≡ b → by_digit first more even n ≡ cond (same_digit n k) (more (halved n)) (by_digit first odd even n)
    go true e b f = rw e refl
    go false e true f =
        let both : nat_eq (n % 2) (k % 2) ≡ true = eq-eqb _ _ (eqb-true _ _ f ∙ sym (eqb-true _ _ q)) in
        rw (e, f, both) refl
    go false e false f =
        let apart : nat_eq (n % 2) (k % 2) ≡ false = ne_eqb _ _ (λ p. absurd (let z : true ≡ false = sym (eq-eqb (n % 2) 1 (p ∙ eqb-true _ _ q)) ∙ f in cc)) in
        rw (e, f, apart) refl

digit-two : (n k : ℕ) → nat_eq (n % 2) 1 ≡ false → nat_eq (k % 2) 1 ≡ false → n % 2 ≡ k % 2
digit-two n k e f = grind (arith, nat_tests)

pub even-changed : {A : Type 0} (first : A) (odd even more : ℕ → A) (n k : ℕ) → 0 < k → nat_eq (k % 2) 1 ≡ false → by_digit first odd more n ≡ cond (same_digit n k) (more (halved n)) (by_digit first odd even n)
even-changed first odd even more n k h q = go (nat_eq n 0) refl (nat_eq (n % 2) 1) refl
  where
    go : (a : Bool) → nat_eq n 0 ≡ a → (b : Bool) → nat_eq (n % 2) 1 ≡ b → by_digit first odd more n ≡ cond (same_digit n k) (more (halved n)) (by_digit first odd even n)
    go true e b f = rw e refl
    go false e false f =
        let both : nat_eq (n % 2) (k % 2) ≡ true = eq-eqb _ _ (digit-two n k f q) in
        rw (e, f, both) refl
    go false e true f =
        let apart : nat_eq (n % 2) (k % 2) ≡ false = ne_eqb _ _ (λ p. absurd (let z : true ≡ false = sym (eq-eqb (k % 2) 1 (sym p ∙ eqb-true _ _ f)) ∙ q in cc)) in
        rw (e, f, apart) refl

-- one more in the half that has the number
pub more-half : (old half more new : Table) (l : Lists) (k : ℕ) (x : Hyp) → 0 < k → ((n : ℕ) → found_at l n ≡ found_in old n)
    → ((n : ℕ) → same_digit n k ≡ true → found_in half (halved n) ≡ found_at l n) → HasOneMore half (halved k) x more
    → ((n : ℕ) → found_in new n ≡ cond (same_digit n k) (found_in more (halved n)) (found_at l n)) → HasOneMore old k x new
more-half old half more new l k x h parts of_half one changed n = changed n ∙ go (same_digit n k) refl
  where
    go : (b : Bool) → same_digit n k ≡ b → cond b (found_in more (halved n)) (found_at l n) ≡ cond (nat_eq n k) (x ∷ found_in old n) (found_in old n)
    go true e = one (halved n) ∙ rw (halves n k h e, of_half n e, parts n) refl
    go false e = parts n ∙ rw (other n k h e) refl

-- and of the table of a context
pub table-more : (t new : Table) (hyps : List Hyp) (x : Hyp) → IsTable t hyps → HasOneMore t x.pred.0 x new → IsTable new (x ∷ hyps)
table-more t new hyps x old one p = one p ∙ rw (old p) refl
