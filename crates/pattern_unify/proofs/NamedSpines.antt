-- The names of a pattern spine, and terms on which the verdict is that nothing offends.
use Rattle.std.proofs.Common.{◌≡◌, ℕ, zero, suc, ◌<◌, ◌||◌, List, [], ◌∷◌, length, map, nat_eq, Bool, true, false, Option, Some, None, option_map, IfSome, slice_index, refl, sym, ap, ◌∙◌, arith, subst}
use Rattle.std.specs.List.{list_any}
use Rattle.ref_terms.specs.terms.Term.{Term, Lam, At, App, Con, Var}
use Rattle.ref_terms.specs.terms.Occurs.{occurs, has_name}
use Rattle.ref_terms.specs.unification.Pattern.{of_name, same_name, pattern_of, names_of}
use Rattle.ref_terms.specs.unification.Offence.{Verdict, fine, offence}
use Rattle.ref_terms.specs.lemmas.NameLemmas.{nat_eq_self}
use Rattle.ref_terms.specs.ending.Bounds.{mem}
use Rattle.ref_terms.specs.ending.Fits.{Fits, before}
use Rattle.ref_terms.specs.ending.OffenceLemmas.{Told, told}
use Rattle.ref_terms.proofs.unification.DropLemmas.{DistinctNames, pattern-terms, Scoped, Tells, fine-scoped}
use Rattle.beta_fragment.specs.Names.{AreDistinct}
use Rattle.pattern_unify.specs.Bound.{NamesAmong}

-- names as those of a spine, and back
pub names-of_names : (ns : List ℕ) → names_of (map of_name ns) ≡ ns
names-of_names [] = refl
names-of_names (n ∷ ns) = ap (λ (ms : List ℕ). n ∷ ms) (names-of_names ns)

pub names-length : (ns : List ℕ) → length (map of_name ns) ≡ length ns
names-length [] = refl
names-length (n ∷ ns) = ap suc (names-length ns)

-- the name at a place is among them
among-at : (n : ℕ) (ns : List ℕ) (j : ℕ) → j < length ns → n ≡ slice_index ns j → list_any (same_name (of_name n)) (map of_name ns) ≡ true
among-at n [] j h e = absurd (omega (arith, h))
among-at n (m ∷ ns) zero h e = ap (λ (b : Bool). b || list_any (same_name (of_name n)) (map of_name ns)) (ap (nat_eq n) (sym e) ∙ nat_eq_self n)
among-at n (m ∷ ns) (suc j) h e = rest (nat_eq n m) (among-at n ns j (omega (arith, h)) e)
  where
    rest : (b : Bool) {c : Bool} → c ≡ true → (b || c) ≡ true
    rest true e = refl
    rest false e = e

-- distinct names
distinct-names : (ns : List ℕ) → DistinctNames (map of_name ns) → AreDistinct ns
distinct-names [] w i j h l e = absurd (omega (arith, h))
distinct-names (n ∷ ns) w zero zero h l e = refl
distinct-names (n ∷ ns) w zero (suc j) h l e = absurd (let k : false ≡ true = sym w.0 ∙ among-at n ns j (omega (arith, l)) e in cc)
distinct-names (n ∷ ns) w (suc i) zero h l e = absurd (let k : false ≡ true = sym w.0 ∙ among-at n ns i (omega (arith, h)) (sym e) in cc)
distinct-names (n ∷ ns) w (suc i) (suc j) h l e = ap suc (distinct-names ns w.1 i j (omega (arith, h)) (omega (arith, l)) e)

pub pattern-distinct : {A : Type 0} (o : Option A) (items : A → List ℕ) (ts : List Term) → option_map (λ a. map of_name (items a)) o ≡ pattern_of ts → IfSome o (λ a. AreDistinct (items a))
pattern-distinct None items ts e = tt
pattern-distinct (Some a) items ts e = distinct-names (items a) (pattern-terms ts (map of_name (items a)) (sym e)).1

-- where nothing offends, each name is one of the spine
among-mem : (n : ℕ) (ns : List ℕ) → list_any (nat_eq n) ns ≡ mem n ns
among-mem n [] = refl
among-mem n (m ∷ ns) = ap (λ b. nat_eq n m || b) (among-mem n ns)

scoped-among : (ns : List ℕ) (t : Term) → Scoped ns t → NamesAmong ns t
scoped-among ns t s = λ n h. go n (mem n ns) refl h
  where
    go : (n : ℕ) (b : Bool) → mem n ns ≡ b → has_name n t ≡ true → list_any (nat_eq n) ns ≡ true
    go n true e h = among-mem n ns ∙ e
    go n false e h = absurd (let k : false ≡ true = sym (s n e) ∙ h in cc)

pub fine-among : (m x : ℕ) (ns : List ℕ) (t : Term) (w : Verdict) → w ≡ offence m x ns false t → w ≡ fine → NamesAmong ns t
fine-among m x ns t w e q = scoped-among ns t (subst (Tells (Scoped ns t)) (sym e ∙ q) (fine-scoped m x ns t false))

-- and the variable doesn't stand there
abbrev Anywhere : ℕ → ℕ → Type 0
Anywhere v j = Unit {0}

anywhere : (t : Term) (j : ℕ) → Fits Anywhere j t
anywhere (Lam b) j = anywhere b (before j)
anywhere (At (Var v)) j = tt
anywhere (At (Con c)) j = tt
anywhere (At _) j = tt
anywhere (App f a) j = (anywhere f (suc j), anywhere a 0)

pub fine-absent : (m x : ℕ) (ns : List ℕ) (t : Term) (w : Verdict) → w ≡ offence m x ns false t → w ≡ fine → occurs x t ≡ false
fine-absent m x ns t w e q =
    subst (Told Anywhere (λ v j i h k. tt) m x ns false (occurs x t ≡ false)) (sym e ∙ q)
    ((told Anywhere (λ v j i h k. tt) m x ns t).0 false (anywhere t 0))
