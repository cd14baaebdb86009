-- First places in lists.
use Rattle.std.proofs.Common.{◌≡◌, ◌∙◌, ℕ, zero, suc, ◌+◌, ◌-◌, ◌<◌, Bool, true, false, not, cond, nat_lt, nat_eq, ◌||◌, List, [], ◌∷◌, ◌++◌, length, map, Option, Some, None, refl, ap, sym, arith}
use Rattle.std.proofs.lemmas.Bool.{lt-ltb, eqb-true}
use Rattle.std.proofs.lemmas.Bool.Decides.{nat_tests}
use Rattle.std.specs.Prelude.{position}
use Rattle.std.specs.Option.{option_map}
use Rattle.std.specs.List.{list_any, position_or_len}

-- one place further
abbrev pub later : Option ℕ → Option ℕ
later o = option_map (λ i. suc i) o

-- the first place in a list with a first item
pub position-cons : {A : Type 0} (p : A → Bool) (x : A) (xs : List A) → position p (x ∷ xs) ≡ cond (p x) (Some 0) (later (position p xs))
position-cons p x xs = at (p x) (position_or_len p xs) (length xs) where
  at : (t : Bool) (n l : ℕ) → cond (nat_lt (cond (not t) (1 + n) 0) (suc l)) (Some (cond (not t) (1 + n) 0)) None ≡ cond t (Some 0) (later (cond (nat_lt n l) (Some n) None))
  at true n l = rw (lt-ltb 0 (suc l) (omega arith)) refl
  at false n l = beyond (nat_lt n l) refl where
    beyond : (b : Bool) → nat_lt n l ≡ b → cond (nat_lt (1 + n) (suc l)) (Some (1 + n)) None ≡ later (cond b (Some n) None)
    beyond true e = let lt : nat_lt (1 + n) (suc l) ≡ true = grind (arith, nat_tests) in rw lt (ap Some (omega arith))
    beyond false e = let ge : nat_lt (1 + n) (suc l) ≡ false = grind (arith, nat_tests) in rw ge refl

-- what is there, or else the other
abbrev pub or_else : Option ℕ → Option ℕ → Option ℕ
or_else (Some i) o = Some i
or_else None o = o

-- the first place in a list with a last item
pub position-push : {A : Type 0} (p : A → Bool) (xs : List A) (y : A) → position p (xs ++ y ∷ []) ≡ or_else (position p xs) (cond (p y) (Some (length xs)) None)
position-push p [] y = position-cons p y [] ∙ at (p y) where
  at : (t : Bool) → cond t (Some 0) (later None) ≡ cond t (Some 0) None
  at true = refl
  at false = refl
position-push p (x ∷ xs) y =
    position-cons p x (xs ++ y ∷ []) ∙ ap (λ o. cond (p x) (Some 0) (later o)) (position-push p xs y)
    ∙ at (p x) (p y) (position p xs) ∙ ap (λ o. or_else o (cond (p y) (Some (suc (length xs))) None)) (sym (position-cons p x xs)) where
      at : (t u : Bool) (o : Option ℕ) → cond t (Some 0) (later (or_else o (cond u (Some (length xs)) None))) ≡ or_else (cond t (Some 0) (later o)) (cond u (Some (suc (length xs))) None)
      at true u o = refl
      at false u (Some i) = refl
      at false true None = refl
      at false false None = refl

-- a place that is found passes
pub any-found : {A : Type 0} (p : A → Bool) (xs : List A) (i : ℕ) → Some i ≡ position p xs → list_any p xs ≡ true
any-found p [] i e = absurd (let bad : Some i ≡ None = e in cc)
any-found p (x ∷ xs) i e = at (p x) (position p xs) (list_any p xs) (e ∙ position-cons p x xs) (λ j. any-found p xs j) where
  at : (t : Bool) (o : Option ℕ) (any : Bool) → Some i ≡ cond t (Some 0) (later o) → ((j : ℕ) → Some j ≡ o → any ≡ true) → (t || any) ≡ true
  at true o any e rest = refl
  at false (Some j) any e rest = rest j refl
  at false None any e rest = absurd (let bad : Some i ≡ None = e in cc)

-- where none is found none passes
pub none-found : {A : Type 0} (p : A → Bool) (xs : List A) → None ≡ position p xs → list_any p xs ≡ false
none-found p [] e = refl
none-found p (x ∷ xs) e = at (p x) (position p xs) (list_any p xs) (e ∙ position-cons p x xs) (none-found p xs) where
  at : (t : Bool) (o : Option ℕ) (any : Bool) → None ≡ cond t (Some 0) (later o) → (None ≡ o → any ≡ false) → (t || any) ≡ false
  at true o any e rest = absurd (let bad : None ≡ Some 0 = e in cc)
  at false None any e rest = rest refl
  at false (Some j) any e rest = absurd (let bad : None ≡ Some (suc j) = e in cc)
