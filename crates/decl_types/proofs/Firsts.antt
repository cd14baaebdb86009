-- The first of breaches: the first of a list in two parts is the earlier of their first ones.
use Rattle.std.proofs.Common.{◌≡◌, ◌∙◌, ℕ, ◌+◌, ◌<◌, Bool, true, false, List, [], ◌∷◌, ◌++◌, Option, Some, None, length, get_or, take, sym, ap, refl, arith}
use Rattle.std.specs.Prelude.{if◌then◌else◌, nat_lt}
use Rattle.std.specs.List.{flat_map}
use Rattle.std.proofs.lemmas.List.{take_more}
use Rattle.std.proofs.lemmas.Grind.{flat_map-append}
use Rattle.std.proofs.lemmas.Bool.Decides.{nat_tests}
use Rattle.lp_resolve.specs.Places.{is_less_or}
use Rattle.decl_types.specs.declared.breach.Breach.{Breach}
use Rattle.decl_types.specs.TypeRules.{is_before, earlier, first_of, number_of}

-- the order of triples of numbers is transitive
less-trans : (f1 f2 f3 a1 a2 a3 n1 n2 n3 : ℕ) → is_less_or f1 f2 (is_less_or a1 a2 (nat_lt n1 n2)) ≡ true
    → is_less_or f2 f3 (is_less_or a2 a3 (nat_lt n2 n3)) ≡ true → is_less_or f1 f3 (is_less_or a1 a3 (nat_lt n1 n3)) ≡ true
less-trans f1 f2 f3 a1 a2 a3 n1 n2 n3 p q = grind (arith, nat_tests)

-- and so is its negation
least-trans : (f1 f2 f3 a1 a2 a3 n1 n2 n3 : ℕ) → is_less_or f1 f2 (is_less_or a1 a2 (nat_lt n1 n2)) ≡ false
    → is_less_or f2 f3 (is_less_or a2 a3 (nat_lt n2 n3)) ≡ false → is_less_or f1 f3 (is_less_or a1 a3 (nat_lt n1 n3)) ≡ false
least-trans f1 f2 f3 a1 a2 a3 n1 n2 n3 p q = grind (arith, nat_tests)

-- with no second breach
pub earlier-none : (a : Option Breach) → earlier a None ≡ a
earlier-none None = refl
earlier-none (Some a) = refl

-- the earliest of three
assoc-some : (a b c : Breach) (x y : Bool) → is_before b a ≡ x → is_before c b ≡ y
    → earlier (if x then Some b else Some a) (Some c) ≡ earlier (Some a) (if y then Some c else Some b)
assoc-some a b c true true p q =
    let r : is_before c a ≡ true = less-trans c.place.file b.place.file a.place.file c.place.at b.place.at a.place.at (number_of c.rule) (number_of b.rule) (number_of a.rule) q p in
    rw q (rw r refl)
assoc-some a b c true false p q = rw p (rw q refl)
assoc-some a b c false true p q = refl
assoc-some a b c false false p q =
    let r : is_before c a ≡ false = least-trans c.place.file b.place.file a.place.file c.place.at b.place.at a.place.at (number_of c.rule) (number_of b.rule) (number_of a.rule) q p in
    rw p (rw r refl)

-- the order in which breaches are compared makes no difference
pub earlier-assoc : (a b c : Option Breach) → earlier (earlier a b) c ≡ earlier a (earlier b c)
earlier-assoc None b c = refl
earlier-assoc (Some a) None c = refl
earlier-assoc (Some a) (Some b) None = earlier-none (earlier (Some a) (Some b))
earlier-assoc (Some a) (Some b) (Some c) = assoc-some a b c (is_before b a) (is_before c b) refl refl

-- the first of a list in two parts
pub first_of-append : (xs ys : List Breach) → first_of (xs ++ ys) ≡ earlier (first_of xs) (first_of ys)
first_of-append [] ys = refl
first_of-append (x ∷ xs) ys = ap (earlier (Some x)) (first_of-append xs ys) ∙ sym (earlier-assoc (Some x) (first_of xs) (first_of ys))

-- the first breach of what items give, with one more item
pub first_of-take : {A : Type 0} (f : A → List Breach) (xs : List A) (i : ℕ) (d : A) → i < length xs
    → first_of (flat_map f (take (i + 1) xs)) ≡ earlier (first_of (flat_map f (take i xs))) (first_of (f (get_or xs i d)))
first_of-take f xs i d h =
    ap (λ ys. first_of (flat_map f ys)) (take_more xs i d h) ∙ ap first_of (flat_map-append f (take i xs) (get_or xs i d ∷ []))
    ∙ first_of-append (flat_map f (take i xs)) (f (get_or xs i d) ++ [])
    ∙ ap (λ o. earlier (first_of (flat_map f (take i xs))) o) (first_of-append (f (get_or xs i d)) [] ∙ earlier-none (first_of (f (get_or xs i d))))

-- so a loop that keeps the first breach goes on
pub next-first : {A : Type 0} (f : A → List Breach) (xs : List A) (i : ℕ) (x : A) (found next later : Option Breach) → i < length xs → x ≡ get_or xs i x
    → found ≡ first_of (flat_map f (take i xs)) → next ≡ first_of (f x) → later ≡ earlier found next → later ≡ first_of (flat_map f (take (i + 1) xs))
next-first f xs i x found next later h e before here both =
    both ∙ ap (λ o. earlier o next) before ∙ ap (earlier (first_of (flat_map f (take i xs)))) (here ∙ ap (λ y. first_of (f y)) e) ∙ sym (first_of-take f xs i x h)

-- the first of three
pub first-three : (a b c : List Breach) (fa fb fc two three : Option Breach) → fa ≡ first_of a → fb ≡ first_of b → fc ≡ first_of c → two ≡ earlier fa fb → three ≡ earlier two fc → three ≡ first_of (a ++ b ++ c)
first-three a b c fa fb fc two three ea eb ec e2 e3 =
    e3 ∙ ap (λ o. earlier o fc) (e2 ∙ ap (λ o. earlier o fb) ea ∙ ap (earlier (first_of a)) eb) ∙ ap (earlier (earlier (first_of a) (first_of b))) ec
    ∙ ap (λ o. earlier o (first_of c)) (sym (first_of-append a b)) ∙ sym (first_of-append (a ++ b) c)

-- and of two
pub first-two : (a b : List Breach) (fa fb two : Option Breach) → fa ≡ first_of a → fb ≡ first_of b → two ≡ earlier fa fb → two ≡ first_of (a ++ b)
first-two a b fa fb two ea eb e2 = e2 ∙ ap (λ o. earlier o fb) ea ∙ ap (earlier (first_of a)) eb ∙ sym (first_of-append a b)
