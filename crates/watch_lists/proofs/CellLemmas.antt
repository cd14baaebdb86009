-- The cells of watch lists, and what stands in their lists.
use Rattle.std.proofs.Common.{◌≡◌, ℕ, suc, ◌+◌, ◌-◌, ◌<◌, ◌≤◌, Bool, true, false, cond, nat_eq, List, [], ◌∷◌, ◌++◌, reverse, length, drop, zero, slice_get, refl, sym, ap, ap₂, ◌∙◌, subst, Option, Some, None, arith, ne_eqb}
use Rattle.std.proofs.lemmas.Bool.{eqb-true, eqb-false}
use Rattle.std.proofs.lemmas.List.{append_assoc, append-nil, reverse-reverse, reverse-append, length-reverse}
use Rattle.std.proofs.lemmas.Bool.Decides.{nat_tests}
use Rattle.watch_lists.specs.Rows.{oldest}
use Rattle.std.specs.Prelude.{slice_index_or}
use Rattle.std.proofs.lemmas.Option.{slice_get-get_or}
use Rattle.watch_lists.specs.declared.Change.{Change}
use Rattle.watch_lists.specs.declared.Change.TheVariants.{Entered, Handed}
use Rattle.watch_lists.specs.declared.Cell.{Cell}
use Rattle.watch_lists.specs.Rows.{numbers_after}
use Rattle.watch_lists.specs.inside.Cells.{changes, subject_of, first_at, handed_at, IsLinked, put_before, entered, from_cell, list_at, weight_of, weight_at, lists_at, weights_at, AllCells, with_one, Passes, cell_at}

-- an optional cell is one of so many
abbrev pub IsBelow : Option ℕ → ℕ → Type 0
IsBelow None n = Unit {0}
IsBelow (Some i) n = i < n

below-more : (o : Option ℕ) (n m : ℕ) → n ≤ m → IsBelow o n → IsBelow o m
below-more None n m h w = tt
below-more (Some i) n m h w = omega (arith, h, w)

pub first-below : (cells : List Cell) (s : ℕ) → IsBelow (first_at cells s) (length cells)
first-below [] s = tt
first-below (c ∷ older) s = go (nat_eq (subject_of c.change) s) (first-below older s)
  where
    go : (b : Bool) → IsBelow (first_at older s) (length older) → IsBelow (cond b (Some (length older)) (first_at older s)) (suc (length older))
    go true w = omega arith
    go false w = below-more (first_at older s) (length older) (suc (length older)) (omega arith) w

handed-below : (cells : List Cell) (x : Change) → IsBelow (handed_at cells x) (length cells)
handed-below cells (Entered s n) = tt
handed-below cells (Handed v u) = first-below cells v

-- a newer cell changes no list from an older one on
list-older : (c : Cell) (older : List Cell) (i : ℕ) → i < length older → list_at (c ∷ older) i ≡ list_at older i
list-older c older i low = ap (λ (b : Bool). cond b (put_before c.change (from_cell (list_at older) c.handed) (from_cell (list_at older) c.next)) (list_at older i)) (ne_eqb (length older) i (omega (arith, low)))

weight-older : (c : Cell) (older : List Cell) (i : ℕ) → i < length older → weight_at (c ∷ older) i ≡ weight_at older i
weight-older c older i low = ap (λ (b : Bool). cond b (suc (weight_of (weight_at older) c.handed + weight_of (weight_at older) c.next)) (weight_at older i)) (ne_eqb (length older) i (omega (arith, low)))

from-older : (c : Cell) (older : List Cell) (o : Option ℕ) → IsBelow o (length older) → from_cell (list_at (c ∷ older)) o ≡ from_cell (list_at older) o
from-older c older None w = refl
from-older c older (Some i) w = list-older c older i w

of-older : (c : Cell) (older : List Cell) (o : Option ℕ) → IsBelow o (length older) → weight_of (weight_at (c ∷ older)) o ≡ weight_of (weight_at older) o
of-older c older None w = refl
of-older c older (Some i) w = weight-older c older i w

itself : (n : ℕ) → nat_eq n n ≡ true
itself n = go (nat_eq n n) refl
  where
    go : (b : Bool) → nat_eq n n ≡ b → nat_eq n n ≡ true
    go true e = e
    go false e = absurd (eqb-false n n e refl)

-- the list of a subject stands from its first cell on
pub numbers-from : (cells : List Cell) (s : ℕ) → IsLinked cells → numbers_after (changes cells) s ≡ from_cell (list_at cells) (first_at cells s)
numbers-from [] s w = refl
numbers-from (c ∷ older) s w = go c.change refl (λ t. numbers-from older t w.2)
  where
    later : (x : Change) → c.change ≡ x → nat_eq (subject_of x) s ≡ false → from_cell (list_at (c ∷ older)) (first_at (c ∷ older) s) ≡ from_cell (list_at older) (first_at older s)
    later x e k =
        ap (λ (b : Bool). from_cell (list_at (c ∷ older)) (cond b (Some (length older)) (first_at older s))) (ap (λ (y : Change). nat_eq (subject_of y) s) e ∙ k)
        ∙ from-older c older (first_at older s) (first-below older s)

    here : (x : Change) → c.change ≡ x → nat_eq (subject_of x) s ≡ true → from_cell (list_at (c ∷ older)) (first_at (c ∷ older) s) ≡ put_before x (from_cell (list_at older) (handed_at older x)) (from_cell (list_at older) (first_at older s))
    here x e k =
        ap (λ (b : Bool). from_cell (list_at (c ∷ older)) (cond b (Some (length older)) (first_at older s))) (ap (λ (y : Change). nat_eq (subject_of y) s) e ∙ k)
        ∙ ap (λ (b : Bool). cond b (put_before c.change (from_cell (list_at older) c.handed) (from_cell (list_at older) c.next)) (list_at older (length older))) (itself (length older))
        ∙ ap (λ (y : Change). put_before y (from_cell (list_at older) c.handed) (from_cell (list_at older) c.next)) e
        ∙ ap₂ (λ (a b : Option ℕ). put_before x (from_cell (list_at older) a) (from_cell (list_at older) b)) (w.1 ∙ ap (handed_at older) e) (w.0 ∙ ap (λ (y : Change). first_at older (subject_of y)) e ∙ ap (first_at older) (eqb-true (subject_of x) s k))

    go : (x : Change) → c.change ≡ x → ((t : ℕ) → numbers_after (changes older) t ≡ from_cell (list_at older) (first_at older t)) → numbers_after (c.change ∷ changes older) s ≡ from_cell (list_at (c ∷ older)) (first_at (c ∷ older) s)
    go (Entered t n) e f = ap (λ (y : Change). numbers_after (y ∷ changes older) s) e ∙ at (nat_eq t s) refl
      where
        at : (b : Bool) → nat_eq t s ≡ b → cond b (n ∷ numbers_after (changes older) s) (numbers_after (changes older) s) ≡ from_cell (list_at (c ∷ older)) (first_at (c ∷ older) s)
        at true k = ap (λ (zs : List ℕ). n ∷ zs) (f s) ∙ sym (here (Entered t n) e k)
        at false k = f s ∙ sym (later (Entered t n) e k)
    go (Handed v u) e f = ap (λ (y : Change). numbers_after (y ∷ changes older) s) e ∙ at (nat_eq u s) refl
      where
        at : (b : Bool) → nat_eq u s ≡ b → cond b (numbers_after (changes older) v ++ numbers_after (changes older) s) (numbers_after (changes older) s) ≡ from_cell (list_at (c ∷ older)) (first_at (c ∷ older) s)
        at true k = ap₂ (λ (xs ys : List ℕ). xs ++ ys) (f v) (f s) ∙ sym (here (Handed v u) e k)
        at false k = f s ∙ sym (later (Handed v u) e k)

-- one more cell in front, and one less
pub put-first : (c : Cell) (older : List Cell) (f g : ℕ → Option ℕ) (k : ℕ) → k ≡ length older → ((s : ℕ) → f s ≡ first_at older s) → ((s : ℕ) → g s ≡ cond (nat_eq (subject_of c.change) s) (Some k) (f s)) → (s : ℕ) → g s ≡ first_at (c ∷ older) s
put-first c older f g k e a b s = b s ∙ ap₂ (λ (m : ℕ) (o : Option ℕ). cond (nat_eq (subject_of c.change) s) (Some m) o) e (a s)

pub back-first : (c : Cell) (older : List Cell) (f g : ℕ → Option ℕ) → IsLinked (c ∷ older) → ((s : ℕ) → f s ≡ first_at (c ∷ older) s) → ((s : ℕ) → g s ≡ cond (nat_eq (subject_of c.change) s) c.next (f s)) → (s : ℕ) → g s ≡ first_at older s
back-first c older f g w a b s = b s ∙ go (nat_eq (subject_of c.change) s) refl
  where
    go : (t : Bool) → nat_eq (subject_of c.change) s ≡ t → cond t c.next (f s) ≡ first_at older s
    go true k = w.0 ∙ ap (first_at older) (eqb-true (subject_of c.change) s k)
    go false k = a s ∙ ap (λ (t : Bool). cond t (Some (length older)) (first_at older s)) k

pub has-first : (c : Cell) (older : List Cell) (f : ℕ → Option ℕ) → ((s : ℕ) → f s ≡ first_at (c ∷ older) s) → f (subject_of c.change) ≡ Some (length older)
has-first c older f a = a (subject_of c.change) ∙ ap (λ (t : Bool). cond t (Some (length older)) (first_at older (subject_of c.change))) (itself (subject_of c.change))

-- a cell is passed: its number is put out, and the lists that it leads to are left
pub record Passed (cells : List Cell) (i : ℕ) (c : Cell) : Type 0 where
  pub numbers : list_at cells i ≡ entered c.change ++ (from_cell (list_at cells) c.handed ++ from_cell (list_at cells) c.next)
  pub weight : weight_at cells i ≡ suc (weight_of (weight_at cells) c.handed + weight_of (weight_at cells) c.next)
  pub handed : IsBelow c.handed (length cells)
  pub next : IsBelow c.next (length cells)

parts : (older : List Cell) (c : Cell) (f : ℕ → List ℕ) → c.handed ≡ handed_at older c.change → put_before c.change (from_cell f c.handed) (from_cell f c.next) ≡ entered c.change ++ (from_cell f c.handed ++ from_cell f c.next)
parts older c f e = go c.change e
  where
    go : (x : Change) → c.handed ≡ handed_at older x → put_before x (from_cell f c.handed) (from_cell f c.next) ≡ entered x ++ (from_cell f c.handed ++ from_cell f c.next)
    go (Entered s n) k = ap (λ (o : Option ℕ). n ∷ (from_cell f o ++ from_cell f c.next)) (sym k)
    go (Handed v u) k = refl

some-same : (a b : Cell) → Some a ≡ Some b → a ≡ b
some-same a b e = ap value e
  where
    value : Option Cell → Cell
    value (Some z) = z
    value None = a

passed-first : (d : Cell) (older : List Cell) (i : ℕ) → IsLinked (d ∷ older) → nat_eq (length older) i ≡ true → Passed (d ∷ older) i d
passed-first d older i w k =
    let handed : IsBelow d.handed (length older) = subst (λ (o : Option ℕ). IsBelow o (length older)) (sym w.1) (handed-below older d.change) in
    let next : IsBelow d.next (length older) = subst (λ (o : Option ℕ). IsBelow o (length older)) (sym w.0) (first-below older (subject_of d.change)) in
    let here : list_at (d ∷ older) i ≡ put_before d.change (from_cell (list_at older) d.handed) (from_cell (list_at older) d.next) = ap (λ (b : Bool). cond b (put_before d.change (from_cell (list_at older) d.handed) (from_cell (list_at older) d.next)) (list_at older i)) k in
    let heavy : weight_at (d ∷ older) i ≡ suc (weight_of (weight_at older) d.handed + weight_of (weight_at older) d.next) = ap (λ (b : Bool). cond b (suc (weight_of (weight_at older) d.handed + weight_of (weight_at older) d.next)) (weight_at older i)) k in
    record {
      numbers = here ∙ parts older d (list_at older) w.1 ∙ ap₂ (λ (a b : List ℕ). entered d.change ++ (a ++ b)) (sym (from-older d older d.handed handed)) (sym (from-older d older d.next next));
      weight = heavy ∙ ap₂ (λ (a b : ℕ). suc (a + b)) (sym (of-older d older d.handed handed)) (sym (of-older d older d.next next));
      handed = below-more d.handed (length older) (suc (length older)) (omega arith) handed;
      next = below-more d.next (length older) (suc (length older)) (omega arith) next;
    }

passed-later : (d : Cell) (older : List Cell) (i : ℕ) (c : Cell) → i < length older → Passed older i c → Passed (d ∷ older) i c
passed-later d older i c low w = record {
  numbers = list-older d older i low ∙ w.numbers ∙ ap₂ (λ (a b : List ℕ). entered c.change ++ (a ++ b)) (sym (from-older d older c.handed w.handed)) (sym (from-older d older c.next w.next));
  weight = weight-older d older i low ∙ w.weight ∙ ap₂ (λ (a b : ℕ). suc (a + b)) (sym (of-older d older c.handed w.handed)) (sym (of-older d older c.next w.next));
  handed = below-more c.handed (length older) (suc (length older)) (omega arith) w.handed;
  next = below-more c.next (length older) (suc (length older)) (omega arith) w.next;
}

cell-low : (cells : List Cell) (i : ℕ) (c : Cell) → cell_at cells i ≡ Some c → i < length cells
cell-low [] i c e = absurd (let z : None ≡ Some c = e in cc)
cell-low (d ∷ older) i c e = go (nat_eq (length older) i) refl (λ z. cell-low older i c z)
  where
    go : (b : Bool) → nat_eq (length older) i ≡ b → (cell_at older i ≡ Some c → i < length older) → i < suc (length older)
    go true k f = let z = eqb-true (length older) i k in omega (arith, z)
    go false k f = let low = f (sym (ap (λ (b : Bool). cond b (Some d) (cell_at older i)) k) ∙ e) in omega (arith, low)

pub cell-passed : (cells : List Cell) (i : ℕ) (c : Cell) → IsLinked cells → cell_at cells i ≡ Some c → Passed cells i c
cell-passed [] i c w e = absurd (let z : None ≡ Some c = e in cc)
cell-passed (d ∷ older) i c w e = go (nat_eq (length older) i) refl (λ z. cell-passed older i c w.2 z)
  where
    go : (b : Bool) → nat_eq (length older) i ≡ b → (cell_at older i ≡ Some c → Passed older i c) → Passed (d ∷ older) i c
    go true k f = subst (Passed (d ∷ older) i) (some-same d c (sym (ap (λ (b : Bool). cond b (Some d) (cell_at older i)) k) ∙ e)) (passed-first d older i w k)
    go false k f =
        let at : cell_at older i ≡ Some c = sym (ap (λ (b : Bool). cond b (Some d) (cell_at older i)) k) ∙ e in
        passed-later d older i c (cell-low older i c at) (f at)

lists-one : (cells : List Cell) (o : Option ℕ) (st : List ℕ) → lists_at cells (with_one o st) ≡ from_cell (list_at cells) o ++ lists_at cells st
lists-one cells None st = refl
lists-one cells (Some i) st = refl

weights-one : (cells : List Cell) (o : Option ℕ) (st : List ℕ) → weights_at cells (with_one o st) ≡ weight_of (weight_at cells) o + weights_at cells st
weights-one cells None st = omega arith
weights-one cells (Some i) st = refl

pub all-one : (cells : List Cell) (o : Option ℕ) (st : List ℕ) → IsBelow o (length cells) → AllCells cells st → AllCells cells (with_one o st)
all-one cells None st w u = u
all-one cells (Some i) st w u = (w, u)

pub passes : (cells : List Cell) (i : ℕ) (c : Cell) (st st' out out' : List ℕ) → Passed cells i c → AllCells cells st → st' ≡ with_one c.handed (with_one c.next st) → out' ≡ out ++ entered c.change → Passes cells (i ∷ st) out st' out'
passes cells i c st st' out out' w all e f =
    let h = from_cell (list_at cells) c.handed in
    let n = from_cell (list_at cells) c.next in
    let rest : lists_at cells st' ≡ h ++ (n ++ lists_at cells st) = ap (lists_at cells) e ∙ lists-one cells c.handed (with_one c.next st) ∙ ap (λ (zs : List ℕ). h ++ zs) (lists-one cells c.next st) in
    let heavy : weights_at cells st' ≡ weight_of (weight_at cells) c.handed + (weight_of (weight_at cells) c.next + weights_at cells st) = ap (weights_at cells) e ∙ weights-one cells c.handed (with_one c.next st) ∙ ap (λ (m : ℕ). weight_of (weight_at cells) c.handed + m) (weights-one cells c.next st) in
    let own = w.weight in
    record {
      numbers =
          ap (λ (zs : List ℕ). out ++ (zs ++ lists_at cells st)) w.numbers
          ∙ ap (λ (zs : List ℕ). out ++ zs) (append_assoc (entered c.change) (h ++ n) (lists_at cells st) ∙ ap (λ (zs : List ℕ). entered c.change ++ zs) (append_assoc h n (lists_at cells st)))
          ∙ sym (append_assoc out (entered c.change) (h ++ (n ++ lists_at cells st)))
          ∙ ap₂ (λ (xs ys : List ℕ). xs ++ ys) (sym f) (sym rest);
      within = subst (AllCells cells) (sym e) (all-one cells c.handed (with_one c.next st) w.handed (all-one cells c.next st w.next all));
      fewer = omega (arith, own, heavy);
    }

-- the cells in the order of their ages
nat_eq-suc : (a b : ℕ) → nat_eq a b ≡ nat_eq (suc a) (suc b)
nat_eq-suc a b = grind (arith, nat_tests)

slice_get-snoc : (xs : List Cell) (n : Cell) (t : ℕ) → slice_get (xs ++ n ∷ []) t ≡ cond (nat_eq (length xs) t) (Some n) (slice_get xs t)
slice_get-snoc [] n zero = refl
slice_get-snoc [] n (suc t) = rw (ne_eqb 0 (suc t) (omega arith)) refl
slice_get-snoc (x ∷ xs) n zero = rw (ne_eqb (suc (length xs)) 0 (omega arith)) refl
slice_get-snoc (x ∷ xs) n (suc t) = slice_get-snoc xs n t ∙ ap (λ (b : Bool). cond b (Some n) (slice_get xs t)) (nat_eq-suc (length xs) t)

cell_at-newest : (cells : List Cell) (t : ℕ) → cell_at cells t ≡ slice_get (reverse cells) t
cell_at-newest [] t = refl
cell_at-newest (c ∷ older) t =
    ap (cond (nat_eq (length older) t) (Some c)) (cell_at-newest older t)
    ∙ ap (λ (k : ℕ). cond (nat_eq k t) (Some c) (slice_get (reverse older) t)) (sym (length-reverse older))
    ∙ sym (slice_get-snoc (reverse older) c t)
    ∙ ap (λ (zs : List Cell). slice_get zs t) (sym (reverse-append (c ∷ []) older))

pub cell_at-reverse : (xs : List Cell) (t : ℕ) → cell_at (reverse xs) t ≡ slice_get xs t
cell_at-reverse xs t = cell_at-newest (reverse xs) t ∙ ap (λ (zs : List Cell). slice_get zs t) (reverse-reverse xs)

pub cell_found : (xs : List Cell) (i : ℕ) (d : Cell) → i < length xs → cell_at (reverse xs) i ≡ Some (slice_index_or xs i d)
cell_found xs i d low = cell_at-reverse xs i ∙ slice_get-get_or xs i d low

-- reading begins at the first cell, and ends where no cell is left
pub begins : (cells : List Cell) (s : ℕ) (out st : List ℕ) → IsLinked cells → st ≡ with_one (first_at cells s) []
    → AllCells cells st × (out ++ numbers_after (changes cells) s ≡ out ++ lists_at cells st)
begins cells s out st w e = (
  subst (AllCells cells) (sym e) (all-one cells (first_at cells s) [] (first-below cells s) tt),
  ap (λ (zs : List ℕ). out ++ zs) (numbers-from cells s w ∙ sym (append-nil (from_cell (list_at cells) (first_at cells s))) ∙ sym (lists-one cells (first_at cells s) []) ∙ ap (lists_at cells) (sym e)),
)

-- a log gone back to a mark
pub oldest-less : (m : ℕ) (x : Change) (xs : List Change) → m ≤ length xs → oldest m (x ∷ xs) ≡ oldest m xs
oldest-less m x xs h = let k : suc (length xs) - m ≡ suc (length xs - m) = omega (arith, h) in ap (λ (n : ℕ). drop n (x ∷ xs)) k

pub oldest-all : (m : ℕ) (xs : List Change) → m ≡ length xs → oldest m xs ≡ xs
oldest-all m xs e = let k : length xs - m ≡ 0 = omega (arith, e) in ap (λ (n : ℕ). drop n xs) k
