-- Taking the newest entry of a trail back.
use Rattle.std.proofs.Common.{◌≡◌, ◌↔◌, ℕ, ◌≤◌, ◌+◌, ◌-◌, List, [], ◌∷◌, ◌++◌, map, reverse, length, drop, take, Option, Some, None, IsNone, IfSome, OnSome, refl, sym, ap, ap₂, ◌∙◌, arith, length-append}
use Rattle.std.proofs.lemmas.List.{length-reverse, length-map, reverse-append, reverse-reverse, drop-map}
use Rattle.std.proofs.Math.Seq.{take-append_seam}
use Rattle.level_terms.specs.declared.node.Change.{Change}
use Rattle.level_terms.specs.Graph.{Assigned}
use Rattle.level_terms.specs.Growth.{changes_of, change_of}
use Rattle.level_terms.proofs.UndoLemmas.{reverse-take}

-- what stands before the last item
same_front : {A : Type 0} (xs ys : List A) (x y : A) → xs ++ x ∷ [] ≡ ys ++ y ∷ [] → xs ≡ ys
same_front xs ys x y e =
    let long : length xs ≡ length ys = (let n = ap length e in omega (arith, n, length-append xs (x ∷ []), length-append ys (y ∷ []))) in
    sym (take-append_seam xs (x ∷ [])) ∙ ap₂ take long e ∙ take-append_seam ys (y ∷ [])

pub taken : (o : Option Change) (before after front : List Change) (x : Change) (m : ℕ) → IsNone o ↔ (length before ≡ m) → IfSome o (λ e. before ≡ after ++ e ∷ []) → before ≡ front ++ x ∷ [] → m ≤ length front → after ≡ front
taken None before after front x m none newest e h = let k : length before ≡ m = none.0 refl in absurd (let n = ap length e in omega (arith, k, n, h, length-append front (x ∷ [])))
taken (Some y) before after front x m none newest e h = same_front after front y x (sym newest ∙ e)

pub taken_spare : (o : Option Change) (before : List Change) (front : List Change) (x : Change) (m spare after : ℕ) → IsNone o ↔ (length before ≡ m) → OnSome o (after ≡ spare + 1) → before ≡ front ++ x ∷ [] → m ≤ length front → after ≡ spare + 1
taken_spare None before front x m spare after none some e h = let k : length before ≡ m = none.0 refl in absurd (let n = ap length e in omega (arith, k, n, h, length-append front (x ∷ [])))
taken_spare (Some y) before front x m spare after none some e h = some

pub newest_change : (a : Assigned) (older : List Assigned) → changes_of (a ∷ older) ≡ changes_of older ++ change_of a ∷ []
newest_change a older = reverse-append (change_of a ∷ []) (map change_of older)

-- the changes of what stays are those up to the mark
pub changes-drop : (bs : List Assigned) (n : ℕ) → n ≤ length bs → changes_of (drop (length bs - n) bs) ≡ take n (changes_of bs)
changes-drop bs n h =
    let notes = map change_of bs in
    let long : length (reverse notes) ≡ length bs = length-reverse notes ∙ length-map bs change_of in
    let within : n ≤ length (reverse notes) = omega (arith, h, long) in
    let back = reverse-take n (reverse notes) within ∙ ap₂ (λ k xs. drop (k - n) xs) long (reverse-reverse notes) in
    ap reverse (sym (drop-map change_of (length bs - n) bs) ∙ sym back) ∙ reverse-reverse (take n (changes_of bs))
