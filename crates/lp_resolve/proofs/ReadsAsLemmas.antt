-- Texts that are read one after another.
use Rattle.std.proofs.Common.{◌≡◌, ◌∙◌, ◌<◌, ◌+◌, ℕ, List, [], ◌∷◌, ◌++◌, Option, Some, None, ap, refl, sym, subst, flat_map, take, length, get_or}
use Rattle.std.proofs.lemmas.List.{take_more, flat_map_more}
use Rattle.std.proofs.lemmas.List.Sums.{fold-append}
use Rattle.lp_resolve.specs.Symbols.{interned, interned_all}
use Rattle.lp_resolve.specs.Symbols.{Begins}
use Rattle.lp_resolve.specs.Variables.{Met}
use Rattle.lp_resolve.specs.ProgramReading.{Read, read_all, read_option}
use Rattle.lp_resolve.specs.inside.ReadsAs.{ReadsAs}
use Rattle.lp_resolve.proofs.BeginsLemmas.{begins-refl, begins-trans}

-- texts after others
pub interned_all-more : (start : List (List ℕ)) (xs ys : List (List ℕ)) → interned_all (interned_all start xs) ys ≡ interned_all start (xs ++ ys)
interned_all-more start xs ys = sym (fold-append interned start xs ys)

-- the texts of one more item
pub flat_map_last : {A B : Type 0} (texts : A → List B) (xs : List A) (x : A) → flat_map texts xs ++ texts x ≡ flat_map texts (xs ++ x ∷ [])
flat_map_last texts xs x = flat_map_more texts [] xs x

-- the last of the items is read after the others
pub read_all-last : {A B : Type 0} (read : Met → A → Read B) (met : Met) (xs : List A) (x : A)
    → read_all read met (xs ++ x ∷ []) ≡ record { value = (read_all read met xs).value ++ (read (read_all read met xs).met x).value ∷ []; met = (read (read_all read met xs).met x).met }
read_all-last read met [] x = refl
read_all-last read met (y ∷ ys) x =
    ap (λ r. record { value = (read met y).value ∷ r.value; met = r.met }) (read_all-last read (read met y).met ys x)

module _ {A B : Type 0} (read : List (List ℕ) → Met → A → Read B) where
  -- no items
  pub reads_as-none : (table : List (List ℕ)) (met : Met) → ReadsAs (λ t. read_all (read t)) table met [] [] met
  reads_as-none table met = record { is = λ later b. refl }

  -- one more item
  pub reads_as-more : (table next : List (List ℕ)) (before met after : Met) (xs : List A) (ys : List B) (x : A) (y : B)
      → ReadsAs (λ t. read_all (read t)) table before xs ys met → Begins table next → ReadsAs read next met x y after
      → ReadsAs (λ t. read_all (read t)) next before (xs ++ x ∷ []) (ys ++ y ∷ []) after
  reads_as-more table next before met after xs ys x y front b last = record {
    is = λ later c.
        read_all-last (read later) before xs x
        ∙ ap (λ r. record { value = r.value ++ (read later r.met x).value ∷ []; met = (read later r.met x).met }) (front.is later (begins-trans b c))
        ∙ ap (λ r. record { value = ys ++ r.value ∷ []; met = r.met }) (last.is later c);
  }

  -- a missing item
  pub reads_as-missing : (table : List (List ℕ)) (met : Met) → ReadsAs (λ t. read_option (read t)) table met None None met
  reads_as-missing table met = record { is = λ later b. refl }

  -- an item that is there
  pub reads_as-there : (table : List (List ℕ)) (before after : Met) (x : A) (y : B)
      → ReadsAs read table before x y after → ReadsAs (λ t. read_option (read t)) table before (Some x) (Some y) after
  reads_as-there table before after x y it = record { is = λ later b. ap (λ r. record { value = Some r.value; met = r.met }) (it.is later b) }

-- the same text
pub reads_as-same : {A B : Type 0} {read : List (List ℕ) → Met → A → Read B} {table : List (List ℕ)} {before after : Met} {x y : A} {value : B}
    → x ≡ y → ReadsAs read table before x value after → ReadsAs read table before y value after
reads_as-same {read = read} {table = table} {before = before} {after = after} {value = value} e it = subst (λ z. ReadsAs read table before z value after) e it

-- These items were read from the left, and their texts went into the table.
pub record HaveRead {A B : Type 0} (texts : A → List (List ℕ)) (read : List (List ℕ) → Met → A → Read B) (start table : List (List ℕ)) (before : Met) (xs : List A) (ys : List B) (after : Met) : Type 0 where
  pub begins : Begins start table
  pub table_is : table ≡ interned_all start (flat_map texts xs)
  pub reads : ReadsAs (λ t. read_all (read t)) table before xs ys after

module _ {A B : Type 0} (texts : A → List (List ℕ)) (read : List (List ℕ) → Met → A → Read B) where
  -- none of them
  pub have_read-none : (start : List (List ℕ)) (met : Met) (xs : List A) → HaveRead texts read start start met (take 0 xs) [] met
  have_read-none start met xs = record { begins = begins-refl start; table_is = refl; reads = reads_as-none read start met }

  -- one more
  pub have_read-more : (start table next : List (List ℕ)) (before met after : Met) (xs : List A) (i : ℕ) (ys : List B) (x : A) (y : B)
      → HaveRead texts read start table before (take i xs) ys met → i < length xs → x ≡ get_or xs i x
      → Begins table next → next ≡ interned_all table (texts x) → ReadsAs read next met x y after
      → HaveRead texts read start next before (take (i + 1) xs) (ys ++ y ∷ []) after
  have_read-more start table next before met after xs i ys x y so_far within item b grown it =
      let more : take i xs ++ x ∷ [] ≡ take (i + 1) xs = ap (λ z. take i xs ++ z ∷ []) item ∙ sym (take_more xs i x within) in
      subst (λ zs. HaveRead texts read start next before zs (ys ++ y ∷ []) after) more
      (record {
        begins = begins-trans so_far.begins b;
        table_is = grown ∙ ap (λ t. interned_all t (texts x)) so_far.table_is ∙ interned_all-more start (flat_map texts (take i xs)) (texts x) ∙ ap (interned_all start) (flat_map_last texts (take i xs) x);
        reads = reads_as-more read table next before met after (take i xs) ys x y so_far.reads b it;
      })
