-- Lists by their groups.
use Rattle.std.proofs.Common.{◌≡◌, ℕ, suc, ◌+◌, ◌<◌, Bool, true, false, cond, not, nat_lt, List, [], ◌∷◌, ◌++◌, length, Option, Some, None, refl, sym, ap, ◌∙◌, arith, ◌||◌, map, get_or, option_map, if◌then◌else◌}
use Rattle.std.specs.Prelude.{position, slice_get, slice_set, unwrap_or}
use Rattle.std.specs.List.{list_any, position_or_len}
use Rattle.std.specs.Option.{option_map_or}
use Rattle.std.proofs.lemmas.Bool.{ltb-true}
use Rattle.std.proofs.lemmas.Option.{slice_get-map, slice_get_read}
use Rattle.clause_index.specs.declared.lists.Group.{Group}
use Rattle.clause_index.specs.inside.Lists.{same_group, found}
use Rattle.clause_index.proofs.EqLemmas.{group-sound, group-own}
use Rattle.clause_index.proofs.OrderLemmas.{is-lower}

-- where a group stands
place : Group → List Group → ℕ
place g [] = 0
place g (h ∷ hs) = cond (same_group g h) 0 (suc (place g hs))

place-is : (g : Group) (hs : List Group) → position_or_len (same_group g) hs ≡ place g hs
unfolding place
place-is g [] = refl
place-is g (h ∷ hs) = by (same_group g h) (place-is g hs)
  where
    by : (b : Bool) → position_or_len (same_group g) hs ≡ place g hs → cond (not b) (1 + position_or_len (same_group g) hs) 0 ≡ cond b 0 (suc (place g hs))
    by true r = refl
    by false r = let z : 1 + position_or_len (same_group g) hs ≡ suc (position_or_len (same_group g) hs) = omega arith in z ∙ ap suc r

-- it stands among groups
record Stands (g : Group) (hs : List Group) (n : ℕ) : Type 0 where
  is : place g hs ≡ n
  low : place g hs < length hs

stands : (g : Group) (hs : List Group) (n : ℕ) → position (same_group g) hs ≡ Some n → Stands g hs n
stands g hs n e = by (nat_lt (position_or_len (same_group g) hs) (length hs)) refl
  where
    by : (b : Bool) → nat_lt (position_or_len (same_group g) hs) (length hs) ≡ b → Stands g hs n
    by true l =
        let m : position_or_len (same_group g) hs ≡ n = let z : Some (position_or_len (same_group g) hs) ≡ Some n = sym (ap (λ b. cond b (Some (position_or_len (same_group g) hs)) None) l) ∙ e in cc in
        let at = place-is g hs in
        let low : position_or_len (same_group g) hs < length hs = ltb-true (position_or_len (same_group g) hs) (length hs) l in
        record { is = omega (arith, at, m); low = omega (arith, at, low) }
    by false l = absurd (let z : None ≡ Some n = sym (ap (λ b. cond b (Some (position_or_len (same_group g) hs)) None) l) ∙ e in cc)

-- it stands nowhere
place-within : (g : Group) (hs : List Group) → list_any (same_group g) hs ≡ true → place g hs < length hs
unfolding place
place-within g [] e = absurd (let z : false ≡ true = e in cc)
place-within g (h ∷ hs) e = by (same_group g h) e (place-within g hs)
  where
    by : (b : Bool) → (b || list_any (same_group g) hs) ≡ true → (list_any (same_group g) hs ≡ true → place g hs < length hs) → cond b 0 (suc (place g hs)) < suc (length hs)
    by true d r = let z : 0 < suc (length hs) = omega arith in z
    by false d r = let l = r d in let z : suc (place g hs) < suc (length hs) = omega (arith, l) in z

absent : (g : Group) (hs : List Group) → position (same_group g) hs ≡ None → list_any (same_group g) hs ≡ false
absent g hs e = by (list_any (same_group g) hs) refl
  where
    by : (b : Bool) → list_any (same_group g) hs ≡ b → list_any (same_group g) hs ≡ false
    by false d = d
    by true d =
        let low = place-within g hs d in
        let at = place-is g hs in
        let l : nat_lt (position_or_len (same_group g) hs) (length hs) ≡ true = is-lower (position_or_len (same_group g) hs) (length hs) (omega (arith, low, at)) in
        absurd (let z : Some (position_or_len (same_group g) hs) ≡ None = sym (ap (λ b. cond b (Some (position_or_len (same_group g) hs)) None) l) ∙ e in cc)

-- its list is that at its place
at-place : (g : Group) (hs : List Group) (xss : List (List ℕ)) → place g hs < length hs → length hs ≡ length xss → slice_get xss (place g hs) ≡ Some (found g hs xss)
unfolding place
at-place g [] xss l e = absurd (let z : 0 < 0 = l in omega (arith, z))
at-place g (h ∷ hs) [] l e = absurd (let z : suc (length hs) ≡ 0 = e in omega (arith, z))
at-place g (h ∷ hs) (xs ∷ xss) l e = by (same_group g h) l (λ m. at-place g hs xss m (let z : suc (length hs) ≡ suc (length xss) = e in omega (arith, z)))
  where
    by : (b : Bool) → cond b 0 (suc (place g hs)) < suc (length hs) → (place g hs < length hs → slice_get xss (place g hs) ≡ Some (found g hs xss)) → slice_get (xs ∷ xss) (cond b 0 (suc (place g hs))) ≡ Some (cond b xs (found g hs xss))
    by true m r = refl
    by false m r = r (let z : suc (place g hs) < suc (length hs) = m in omega (arith, z))

-- without a place there is none
not-found : (g : Group) (hs : List Group) (xss : List (List ℕ)) → list_any (same_group g) hs ≡ false → found g hs xss ≡ []
not-found g [] xss e = refl
not-found g (h ∷ hs) [] e = refl
not-found g (h ∷ hs) (xs ∷ xss) e = by (same_group g h) e (not-found g hs xss)
  where
    by : (b : Bool) → (b || list_any (same_group g) hs) ≡ false → (list_any (same_group g) hs ≡ false → found g hs xss ≡ []) → cond b xs (found g hs xss) ≡ []
    by true d r = absurd (let z : true ≡ false = d in cc)
    by false d r = r d

-- the list of a group, by its number
pub found-by : (g : Group) (hs : List Group) (xss : List (List ℕ)) (o : Option ℕ) → length hs ≡ length xss → position (same_group g) hs ≡ o → found g hs xss ≡ option_map_or (λ n. unwrap_or (slice_get xss n) []) o []
found-by g hs xss None e p = not-found g hs xss (absent g hs p)
found-by g hs xss (Some n) e p =
    let s = stands g hs n p in
    sym (ap (λ o. unwrap_or o []) (ap (slice_get xss) (sym s.is) ∙ at-place g hs xss s.low e))

pub number-low : (g : Group) (hs : List Group) (n : ℕ) → position (same_group g) hs ≡ Some n → n < length hs
number-low g hs n p = let s = stands g hs n p in omega (arith, s.is, s.low)

-- a list in place of that of a group
set-found : (h g : Group) (hs : List Group) (xss : List (List ℕ)) (ys : List ℕ) → place g hs < length hs → length hs ≡ length xss → found h hs (slice_set xss (place g hs) ys) ≡ cond (same_group h g) ys (found h hs xss)
unfolding place
set-found h g [] xss ys l e = absurd (let z : 0 < 0 = l in omega (arith, z))
set-found h g (k ∷ hs) [] ys l e = absurd (let z : suc (length hs) ≡ 0 = e in omega (arith, z))
set-found h g (k ∷ hs) (xs ∷ xss) ys l e = by (same_group g k) refl l (λ m. set-found h g hs xss ys m (let z : suc (length hs) ≡ suc (length xss) = e in omega (arith, z)))
  where
    both : same_group h k ≡ same_group h g → (c : Bool) → same_group h g ≡ c → cond (same_group h k) ys (found h hs xss) ≡ cond (same_group h g) ys (cond (same_group h k) xs (found h hs xss))
    both same true s = rw (same, s) refl
    both same false s = rw (same, s) refl

    apart : same_group g k ≡ false → (a c : Bool) → same_group h k ≡ a → same_group h g ≡ c → cond a xs (cond c ys (found h hs xss)) ≡ cond c ys (cond a xs (found h hs xss))
    apart d true true u v = absurd (let z : true ≡ false = sym (group-own k) ∙ ap (λ q. same_group q k) (sym (group-sound h k u) ∙ group-sound h g v) ∙ d in cc)
    apart d true false u v = refl
    apart d false c u v = refl

    by : (b : Bool) → same_group g k ≡ b → cond b 0 (suc (place g hs)) < suc (length hs)
        → (place g hs < length hs → found h hs (slice_set xss (place g hs) ys) ≡ cond (same_group h g) ys (found h hs xss))
        → found h (k ∷ hs) (slice_set (xs ∷ xss) (cond b 0 (suc (place g hs))) ys) ≡ cond (same_group h g) ys (cond (same_group h k) xs (found h hs xss))
    by true d m r = both (ap (same_group h) (sym (group-sound g k d))) (same_group h g) refl
    by false d m r = ap (cond (same_group h k) xs) (r (let z : suc (place g hs) < suc (length hs) = m in omega (arith, z))) ∙ apart d (same_group h k) (same_group h g) refl refl

-- one more group with its list
more-found : (h g : Group) (hs : List Group) (xss : List (List ℕ)) (ys : List ℕ) → length hs ≡ length xss
    → found h (hs ++ g ∷ []) (xss ++ ys ∷ []) ≡ cond (list_any (same_group h) hs) (found h hs xss) (cond (same_group h g) ys [])
more-found h g [] [] ys e = refl
more-found h g [] (xs ∷ xss) ys e = absurd (let z : 0 ≡ suc (length xss) = e in omega (arith, z))
more-found h g (k ∷ hs) [] ys e = absurd (let z : suc (length hs) ≡ 0 = e in omega (arith, z))
more-found h g (k ∷ hs) (xs ∷ xss) ys e = ap (cond (same_group h k) xs) (more-found h g hs xss ys (let z : suc (length hs) ≡ suc (length xss) = e in omega (arith, z))) ∙ by (same_group h k)
  where
    by : (b : Bool) → cond b xs (cond (list_any (same_group h) hs) (found h hs xss) (cond (same_group h g) ys [])) ≡ cond (b || list_any (same_group h) hs) (cond b xs (found h hs xss)) (cond (same_group h g) ys [])
    by true = refl
    by false = refl

-- putting a clause last into the list of a group that has one
pub put-found : (h g : Group) (hs : List Group) (xss : List (List ℕ)) (n c : ℕ) → length hs ≡ length xss → position (same_group g) hs ≡ Some n
    → found h hs (slice_set xss n (unwrap_or (slice_get xss n) [] ++ c ∷ [])) ≡ cond (same_group h g) (found h hs xss ++ c ∷ []) (found h hs xss)
put-found h g hs xss n c e p =
    let s = stands g hs n p in
    let list : unwrap_or (slice_get xss n) [] ≡ found g hs xss = sym (found-by g hs xss (Some n) e p) in
    ap (λ m. found h hs (slice_set xss m (unwrap_or (slice_get xss n) [] ++ c ∷ []))) (sym s.is)
    ∙ set-found h g hs xss (unwrap_or (slice_get xss n) [] ++ c ∷ []) s.low e
    ∙ ap (λ us. cond (same_group h g) (us ++ c ∷ []) (found h hs xss)) list
    ∙ by (same_group h g) refl
  where
    by : (b : Bool) → same_group h g ≡ b → cond b (found g hs xss ++ c ∷ []) (found h hs xss) ≡ cond b (found h hs xss ++ c ∷ []) (found h hs xss)
    by true d = ap (λ q. found q hs xss ++ c ∷ []) (sym (group-sound h g d))
    by false d = refl

-- and of one that has none
pub put-new : (h g : Group) (hs : List Group) (xss : List (List ℕ)) (c : ℕ) → length hs ≡ length xss → position (same_group g) hs ≡ None
    → found h (hs ++ g ∷ []) (xss ++ (c ∷ []) ∷ []) ≡ cond (same_group h g) (found h hs xss ++ c ∷ []) (found h hs xss)
put-new h g hs xss c e p = more-found h g hs xss (c ∷ []) e ∙ by (list_any (same_group h) hs) (same_group h g) refl refl
  where
    none : list_any (same_group g) hs ≡ false
    none = absent g hs p

    by : (a b : Bool) → list_any (same_group h) hs ≡ a → same_group h g ≡ b → cond a (found h hs xss) (cond b (c ∷ []) []) ≡ cond b (found h hs xss ++ c ∷ []) (found h hs xss)
    by true true u v = absurd (let z : true ≡ false = sym u ∙ ap (λ q. list_any (same_group q) hs) (group-sound h g v) ∙ none in cc)
    by true false u v = refl
    by false true u v = ap (λ us. us ++ c ∷ []) (sym (not-found h hs xss u))
    by false false u v = sym (not-found h hs xss u)

-- a group that stands nowhere goes last
pub keys-new : (g : Group) (hs : List Group) → position (same_group g) hs ≡ None → (if list_any (same_group g) hs then hs else hs ++ g ∷ []) ≡ hs ++ g ∷ []
keys-new g hs p = ap (λ b. cond b hs (hs ++ g ∷ [])) (absent g hs p)

-- the list with a number
pub item-at : {A : Type 0} (f : A → List ℕ) (xs : List A) (n : ℕ) (x : A) → n < length xs → x ≡ get_or xs n x → unwrap_or (slice_get (map f xs) n) [] ≡ f x
item-at f xs n x l e = ap (λ o. unwrap_or o []) (slice_get-map f xs n ∙ ap (option_map f) (slice_get_read xs (length xs) n x refl l e))
