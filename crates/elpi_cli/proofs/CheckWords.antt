-- The words behind `check`, one after another.
use Rattle.std.proofs.Common.{◌≡◌, ◌∙◌, ℕ, zero, suc, ◌+◌, ◌<◌, ◌≤◌, Bool, true, false, ◌||◌, nat_lt, List, [], ◌∷◌, ◌++◌, map, drop, length, length-append, None, Some, if◌then◌else◌, refl, ap, sym, arith, subst}
use Rattle.std.proofs.Math.Seq.{drop-cons}
use Rattle.std.proofs.lemmas.List.{drop_all, map-append, append_assoc, append-nil}
use Rattle.std.proofs.lemmas.Bool.Decides.{nat_tests}
use Rattle.elpi_cli.specs.Words.{is_option, most_files, AllBelow}
use Rattle.elpi_cli.specs.Top.{word_at}
use Rattle.elpi_cli.specs.Typed.{bad_from, check_names}
use Rattle.elpi_cli.specs.inside.Typing.{AreFileWords}
use Rattle.elpi_cli.proofs.Indices.{below-more}

-- the words before an index name files, and those from it on are to be looked at
pub record Reads (words : List (List ℕ)) (indices : List ℕ) (index : ℕ) : Type 0 where
  pub bad : bad_from index (drop index words) ≡ bad_from 1 (check_names words)
  pub names : map (word_at words) indices ++ drop index words ≡ check_names words
  pub below : AllBelow (length words) indices
  pub count : length indices + 1 ≡ index
  pub few : length indices ≤ 16

pub reads-none : (words : List (List ℕ)) (indices : List ℕ) → indices ≡ [] → Reads words indices 1
reads-none words indices e = subst (λ (xs : List ℕ). Reads words xs 1) (sym e) (record { bad = refl; names = refl; below = tt; count = refl; few = omega arith })

word-next : (words : List (List ℕ)) (i : ℕ) → i < length words → drop i words ≡ word_at words i ∷ drop (i + 1) words
word-next words i h = let e : suc i ≡ i + 1 = omega arith in drop-cons words i [] h ∙ ap (λ (k : ℕ). word_at words i ∷ drop k words) e

chosen : (words : List (List ℕ)) (i : ℕ) (b : Bool) → i < length words → (is_option (word_at words i) || nat_lt most_files i) ≡ b → bad_from i (drop i words) ≡ (if b then Some i else bad_from (i + 1) (drop (i + 1) words))
chosen words i b h e = ap (bad_from i) (word-next words i h) ∙ ap (λ (t : Bool). if t then Some i else bad_from (i + 1) (drop (i + 1) words)) e

-- the word at an index can't stand there
pub reads-bad : (words : List (List ℕ)) (indices : List ℕ) (i : ℕ) → i < length words → (is_option (word_at words i) || nat_lt most_files i) ≡ true → Reads words indices i → bad_from 1 (check_names words) ≡ Some i
reads-bad words indices i h e r = sym r.bad ∙ chosen words i true h e

not-beyond : (b : Bool) (i : ℕ) → (b || nat_lt 16 i) ≡ false → i ≤ 16
not-beyond true i e = absurd (let f = e in cc)
not-beyond false i e = grind (arith, nat_tests)

-- it can
pub reads-next : (words : List (List ℕ)) (indices later : List ℕ) (i : ℕ) → i < length words → (is_option (word_at words i) || nat_lt most_files i) ≡ false → later ≡ indices ++ i ∷ [] → Reads words indices i → Reads words later (i + 1)
reads-next words indices later i h e put r = subst (λ (xs : List ℕ). Reads words xs (i + 1)) (sym put) (record {
  bad = sym (chosen words i false h e) ∙ r.bad;
  names = ap (λ (xs : List (List ℕ)). xs ++ drop (i + 1) words) (map-append (word_at words) indices (i ∷ []))
      ∙ append_assoc (map (word_at words) indices) (word_at words i ∷ []) (drop (i + 1) words)
      ∙ ap (λ (xs : List (List ℕ)). map (word_at words) indices ++ xs) (sym (word-next words i h)) ∙ r.names;
  below = below-more (length words) indices i r.below h;
  count = omega (arith, r.count, length-append indices (i ∷ []));
  few = omega (arith, r.count, length-append indices (i ∷ []), not-beyond (is_option (word_at words i)) i e);
})

-- no file is named
pub reads-nothing : (words : List (List ℕ)) (indices : List ℕ) (i : ℕ) → length words ≤ i → length indices ≡ 0 → Reads words indices i → bad_from 1 (check_names words) ≡ Some 1
reads-nothing words indices i h e r = ap (bad_from 1) (drop_all 1 words (omega (arith, h, e, r.count)))

-- all words name files
pub reads-all : (words : List (List ℕ)) (indices : List ℕ) (i : ℕ) → length words ≤ i → 0 < length indices → Reads words indices i → AreFileWords words indices
reads-all words indices i h some r =
    let none : drop i words ≡ [] = drop_all i words h in
    let more : nat_lt i 2 ≡ false = let l : 2 ≤ i = omega (arith, some, r.count) in grind (arith, nat_tests) in
    record {
      none_bad = sym r.bad ∙ ap (bad_from i) none ∙ ap (λ (t : Bool). if t then Some i else None) more;
      names = sym (append-nil (map (word_at words) indices)) ∙ ap (λ (xs : List (List ℕ)). map (word_at words) indices ++ xs) (sym none) ∙ r.names;
      below = r.below;
      few = r.few;
    }

pub positive : (n : ℕ) → (n ≡ 0 → ⊥) → 0 < n
positive zero f = absurd (f refl)
positive (suc n) f = omega arith
