-- The first of breaches: the first of a list in two parts is the earlier of their first ones.
use Rattle.std.proofs.Common.{◌≡◌, ◌∙◌, ℕ, ◌+◌, ◌<◌, ◌≤◌, min, Bool, true, false, List, [], ◌∷◌, ◌++◌, Option, Some, None, length, get_or, take, map, filter, sym, ap, refl, arith}
use Rattle.std.specs.Prelude.{if◌then◌else◌, nat_lt}
use Rattle.std.specs.List.{flat_map, zip}
use Rattle.std.proofs.lemmas.List.{take_more, take_all, get_or_default}
use Rattle.std.proofs.lemmas.List.Folds.{flat_map-map}
use Rattle.std.proofs.lemmas.Slice.Zip.{length-zip, get_or-zip}
use Rattle.std.proofs.lemmas.Grind.{flat_map-append}
use Rattle.std.proofs.lemmas.Bool.Decides.{nat_tests}
use Rattle.lp_parser.specs.declared.ast.Place.{Place}
use Rattle.lp_resolve.specs.declared.static_rule.StaticRule.{StaticRule}
use Rattle.lp_resolve.specs.Places.{is_less_or}
use Rattle.lp_resolve.specs.StaticRules.{Breach, is_before, earlier, first_of, breaches_at, where_true, number_of}

-- the order of triples of numbers is transitive
less-trans : (f1 f2 f3 a1 a2 a3 n1 n2 n3 : ℕ) → is_less_or f1 f2 (is_less_or a1 a2 (nat_lt n1 n2)) ≡ true
    → is_less_or f2 f3 (is_less_or a2 a3 (nat_lt n2 n3)) ≡ true → is_less_or f1 f3 (is_less_or a1 a3 (nat_lt n1 n3)) ≡ true
less-trans f1 f2 f3 a1 a2 a3 n1 n2 n3 p q = grind (arith, nat_tests)

-- and so is its negation
least-trans : (f1 f2 f3 a1 a2 a3 n1 n2 n3 : ℕ) → is_less_or f1 f2 (is_less_or a1 a2 (nat_lt n1 n2)) ≡ false
    → is_less_or f2 f3 (is_less_or a2 a3 (nat_lt n2 n3)) ≡ false → is_less_or f1 f3 (is_less_or a1 a3 (nat_lt n1 n3)) ≡ false
least-trans f1 f2 f3 a1 a2 a3 n1 n2 n3 p q = grind (arith, nat_tests)

-- with no second breach
pub earlier-none : (a : Option Breach) → earlier a None ≡ a
earlier-none None = refl
earlier-none (Some a) = refl

-- the earliest of three
assoc-some : (a b c : Breach) (x y : Bool) → is_before b a ≡ x → is_before c b ≡ y
    → earlier (if x then Some b else Some a) (Some c) ≡ earlier (Some a) (if y then Some c else Some b)
assoc-some a b c true true p q =
    let r : is_before c a ≡ true = less-trans c.place.file b.place.file a.place.file c.place.at b.place.at a.place.at (number_of c.rule) (number_of b.rule) (number_of a.rule) q p in
    rw q (rw r refl)
assoc-some a b c true false p q = rw p (rw q refl)
assoc-some a b c false true p q = refl
assoc-some a b c false false p q =
    let r : is_before c a ≡ false = least-trans c.place.file b.place.file a.place.file c.place.at b.place.at a.place.at (number_of c.rule) (number_of b.rule) (number_of a.rule) q p in
    rw p (rw r refl)

-- the order in which breaches are compared makes no difference
pub earlier-assoc : (a b c : Option Breach) → earlier (earlier a b) c ≡ earlier a (earlier b c)
earlier-assoc None b c = refl
earlier-assoc (Some a) None c = refl
earlier-assoc (Some a) (Some b) None = earlier-none (earlier (Some a) (Some b))
earlier-assoc (Some a) (Some b) (Some c) = assoc-some a b c (is_before b a) (is_before c b) refl refl

-- the first of a list in two parts
pub first_of-append : (xs ys : List Breach) → first_of (xs ++ ys) ≡ earlier (first_of xs) (first_of ys)
first_of-append [] ys = refl
first_of-append (x ∷ xs) ys = ap (earlier (Some x)) (first_of-append xs ys) ∙ sym (earlier-assoc (Some x) (first_of xs) (first_of ys))

-- the first breach of what items give, with one more item
pub first_of-take : {A : Type 0} (f : A → List Breach) (xs : List A) (i : ℕ) (d : A) → i < length xs
    → first_of (flat_map f (take (i + 1) xs)) ≡ earlier (first_of (flat_map f (take i xs))) (first_of (f (get_or xs i d)))
first_of-take f xs i d h =
    ap (λ ys. first_of (flat_map f ys)) (take_more xs i d h) ∙ ap first_of (flat_map-append f (take i xs) (get_or xs i d ∷ []))
    ∙ first_of-append (flat_map f (take i xs)) (f (get_or xs i d) ++ [])
    ∙ ap (λ o. earlier (first_of (flat_map f (take i xs))) o) (first_of-append (f (get_or xs i d)) [] ∙ earlier-none (first_of (f (get_or xs i d))))

-- so a loop that keeps the first breach goes on
pub next-first : {A : Type 0} (f : A → List Breach) (xs : List A) (i : ℕ) (x : A) (found next later : Option Breach) → i < length xs → x ≡ get_or xs i x
    → found ≡ first_of (flat_map f (take i xs)) → next ≡ first_of (f x) → later ≡ earlier found next → later ≡ first_of (flat_map f (take (i + 1) xs))
next-first f xs i x found next later h e before here both =
    both ∙ ap (λ o. earlier o next) before ∙ ap (earlier (first_of (flat_map f (take i xs)))) (here ∙ ap (λ y. first_of (f y)) e) ∙ sym (first_of-take f xs i x h)

-- a breach at the place of an item that passes the test
abbrev pub breach_at : {A : Type 0} → StaticRule → (A → Bool) → A × Place → List Breach
breach_at s test item = breaches_at s (if test item.0 then item.1 ∷ [] else [])

-- the breaches at the places of all these items
pub breaches-where : {A : Type 0} (s : StaticRule) (test : A → Bool) (items : List (A × Place)) → breaches_at s (where_true test items) ≡ flat_map (breach_at s test) items
breaches-where s test [] = refl
breaches-where s test (i ∷ items) = of (test i.0) (breaches-where s test items) where
  of : (b : Bool) → breaches_at s (where_true test items) ≡ flat_map (breach_at s test) items
      → breaches_at s (map (λ j. j.1) (if b then i ∷ filter (λ j. test j.0) items else filter (λ j. test j.0) items))
      ≡ breaches_at s (if b then i.1 ∷ [] else []) ++ flat_map (breach_at s test) items
  of true rest = ap (λ bs. record { rule = s; place = i.1 } ∷ bs) rest
  of false rest = rest

-- one more item of a list with places, where it is known whether the rule is broken there
pub marked-more : {A : Type 0} (s : StaticRule) (test : A → Bool) (xs : List A) (ps : List Place) (i : ℕ) (x : A) (e : Place) (broken : Bool) (found next later : Option Breach)
    → next ≡ first_of (breaches_at s (if broken then get_or ps i e ∷ [] else [])) → broken ≡ test x → x ≡ get_or xs i x
    → i < length xs → i < length ps → found ≡ first_of (flat_map (breach_at s test) (take i (zip xs ps))) → later ≡ earlier found next
    → later ≡ first_of (flat_map (breach_at s test) (take (i + 1) (zip xs ps)))
marked-more s test xs ps i x e broken found next later here known ex hx hp before both =
    let p : Place = get_or ps i e in
    let within : i < length (zip xs ps) = omega (arith, length-zip xs ps) in
    let ep : p ≡ get_or ps i p = get_or_default ps i e p hp in
    let item : (x, p) ≡ get_or (zip xs ps) i (x, p) = ap (λ y. (y, p)) ex ∙ ap (λ q. (get_or xs i x, q)) ep ∙ sym (get_or-zip xs ps i (x, p) hx hp) in
    next-first (breach_at s test) (zip xs ps) i (x, p) found next later within item before (here ∙ ap (λ b. first_of (breaches_at s (if b then p ∷ [] else []))) known) both

-- all items of a list with places
pub marked-all : {A : Type 0} (s : StaticRule) (test : A → Bool) (xs : List A) (ps : List Place) (n : ℕ) → min (length xs) (length ps) ≤ n
    → first_of (flat_map (breach_at s test) (take n (zip xs ps))) ≡ first_of (breaches_at s (where_true test (zip xs ps)))
marked-all s test xs ps n h =
    let all : length (zip xs ps) ≤ n = omega (arith, length-zip xs ps) in
    ap (λ items. first_of (flat_map (breach_at s test) items)) (take_all n (zip xs ps) all) ∙ sym (ap first_of (breaches-where s test (zip xs ps)))

-- items are tested by what they are seen as
pub where-map : {A B : Type 0} (g : A → B) (test : B → Bool) (xs : List A) (ps : List Place)
    → where_true test (zip (map g xs) ps) ≡ where_true (λ x. test (g x)) (zip xs ps)
where-map g test [] ps = refl
where-map g test (x ∷ xs) [] = refl
where-map g test (x ∷ xs) (p ∷ ps) = of (test (g x)) (where-map g test xs ps) where
  of : (b : Bool) → where_true test (zip (map g xs) ps) ≡ where_true (λ y. test (g y)) (zip xs ps) → map (λ j. j.1) (if b then (g x, p) ∷ filter (λ j. test j.0) (zip (map g xs) ps) else filter (λ j. test j.0) (zip (map g xs) ps))
      ≡ map (λ j. j.1) (if b then (x, p) ∷ filter (λ j. test (g j.0)) (zip xs ps) else filter (λ j. test (g j.0)) (zip xs ps))
  of true rest = ap (λ qs. p ∷ qs) rest
  of false rest = rest

-- the first of a list in three parts, and in four
pub first-three : (a b c : List Breach) → earlier (earlier (first_of a) (first_of b)) (first_of c) ≡ first_of (a ++ b ++ c)
first-three a b c = ap (λ o. earlier o (first_of c)) (sym (first_of-append a b)) ∙ sym (first_of-append (a ++ b) c)

pub first-four : (a b c d : List Breach) → earlier (earlier (earlier (first_of a) (first_of b)) (first_of c)) (first_of d) ≡ first_of (a ++ b ++ c ++ d)
first-four a b c d = ap (λ o. earlier o (first_of d)) (first-three a b c) ∙ sym (first_of-append (a ++ b ++ c) d)

-- the breaches of lists within lists
flat-flat : {A B C : Type 0} (f : B → List C) (g : A → List B) (xs : List A) → flat_map f (flat_map g xs) ≡ flat_map (λ x. flat_map f (g x)) xs
flat-flat f g [] = refl
flat-flat f g (x ∷ xs) = flat_map-append f (g x) (flat_map g xs) ∙ ap (λ ys. flat_map f (g x) ++ ys) (flat-flat f g xs)

-- the first breach of the heads of clauses and rules
pub first-placed : {A B C : Type 0} (f : C → List Breach) (g : A → C) (h : B → List C) (xs : List A) (ys : List B)
    → earlier (first_of (flat_map (λ x. f (g x)) xs)) (first_of (flat_map (λ y. flat_map f (h y)) ys)) ≡ first_of (flat_map f (map g xs ++ flat_map h ys))
first-placed f g h xs ys =
    ap (λ o. earlier o (first_of (flat_map (λ y. flat_map f (h y)) ys))) (ap first_of (sym (flat_map-map f g xs)))
    ∙ ap (λ o. earlier (first_of (flat_map f (map g xs))) o) (ap first_of (sym (flat-flat f h ys)))
    ∙ sym (ap first_of (flat_map-append f (map g xs) (flat_map h ys)) ∙ first_of-append (flat_map f (map g xs)) (flat_map f (flat_map h ys)))

-- the same, as code joins them
pub four-firsts : (a b c d : List Breach) (fa fb fc fd two three four : Option Breach) → fa ≡ first_of a → fb ≡ first_of b → fc ≡ first_of c → fd ≡ first_of d
    → two ≡ earlier fa fb → three ≡ earlier two fc → four ≡ earlier three fd → four ≡ first_of (a ++ b ++ c ++ d)
four-firsts a b c d fa fb fc fd two three four ea eb ec ed e2 e3 e4 =
    let both : two ≡ earlier (first_of a) (first_of b) = e2 ∙ ap (λ o. earlier o fb) ea ∙ ap (earlier (first_of a)) eb in
    let more : three ≡ earlier (earlier (first_of a) (first_of b)) (first_of c) = e3 ∙ ap (λ o. earlier o fc) both ∙ ap (earlier (earlier (first_of a) (first_of b))) ec in
    e4 ∙ ap (λ o. earlier o fd) more ∙ ap (earlier (earlier (earlier (first_of a) (first_of b)) (first_of c))) ed ∙ first-four a b c d
