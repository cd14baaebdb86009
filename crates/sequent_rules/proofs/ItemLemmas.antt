-- Terms that are lists, by their forms.
use Rattle.std.proofs.Common.{◌≡◌, ℕ, zero, suc, ◌+◌, ◌<◌, Bool, true, false, cond, ◌||◌, nat_eq, List, [], ◌∷◌, ◌++◌, Option, Some, None, slice_get, refl, sym, ap, ◌∙◌, arith, eqb-true, ne_eqb, eq-eqb}
use Rattle.std.specs.List.{list_any}
use Rattle.level_terms.specs.Graph.{Graph}
use Rattle.level_terms.specs.Reading.{read}
use Rattle.beta_fragment.specs.Names.{names}
use Rattle.beta_fragment.specs.HeadForm.{IsHeadForm}
use Rattle.beta_fragment.specs.declared.answer.Whnf.{Whnf}
use Rattle.goal_form.specs.Forms.{form_shape}
use Rattle.goal_form.proofs.FormLemmas.{form-shape}
use Rattle.ref_terms.specs.terms.Term.{Term, Lam, At, App, Con, Int, Str, Name, Bound, Var}
use Rattle.ref_terms.specs.unification.Spine.{head_of, args_of, apply_all}
use Rattle.ref_terms.specs.unification.Shape.{Shape, Rigid, shape, headed}
use Rattle.ref_terms.specs.declared.reserved.Reserved.{Reserved}
use Rattle.ref_terms.specs.declared.reserved.Reserved.TheVariants.{Nil as Nil_word, Cons as Cons_word}
use Rattle.ref_terms.specs.search.Reserved.{words, word_of}
use Rattle.ref_terms.specs.search.Lists.{item_of, before, items_of}
use Rattle.ref_terms.specs.ending.Measure.{size, size-positive}
use Rattle.sequent_rules.specs.declared.lists.ListForm.{ListForm}
use Rattle.sequent_rules.specs.declared.lists.ListForm.TheVariants.{End, Item, Other}
use Rattle.sequent_rules.specs.inside.Lists.{IsListForm, items_left, after_items, ListFits}

-- a constant before its arguments
abbrev pub is_constant : Shape → Bool
is_constant (Rigid (Con c) ts) = true
is_constant _ = false

-- only a constant heads a list
no-item : (f a : Term) → is_constant (headed 0 (head_of f) (args_of f ++ a ∷ [])) ≡ false → item_of f ≡ None
no-item (Lam b) a e = refl
no-item (At h) a e = refl
no-item (App (Lam b) t) a e = refl
no-item (App (App g s) t) a e = refl
no-item (App (At (Con c)) t) a e = absurd (let z : true ≡ false = e in cc)
no-item (App (At (Int n)) t) a e = refl
no-item (App (At (Str s)) t) a e = refl
no-item (App (At (Name n)) t) a e = refl
no-item (App (At (Bound n)) t) a e = refl
no-item (App (At (Var v)) t) a e = refl

pub no-list : (u : Term) → is_constant (shape 0 u) ≡ false → items_of u ≡ None
no-list (Lam b) e = refl
no-list (At (Con c)) e = absurd (let z : true ≡ false = e in cc)
no-list (At (Int n)) e = refl
no-list (At (Str s)) e = refl
no-list (At (Name n)) e = refl
no-list (At (Bound n)) e = refl
no-list (At (Var v)) e = refl
no-list (App f a) e = ap (λ (o : Option Term). before o (items_of a)) (no-item f a e)

-- a constant with three arguments or more
deep-none : (ts : List Term) (x a b d : Term) → items_of (apply_all (App (App (App x a) b) d) ts) ≡ None
deep-none [] x a b d = refl
deep-none (e ∷ ts) x a b d = deep-none ts (App x a) b d e

pub more-none : (c : ℕ) (a b d : Term) (ts : List Term) → items_of (apply_all (At (Con c)) (a ∷ b ∷ d ∷ ts)) ≡ None
more-none c a b d ts = deep-none ts (At (Con c)) a b d

-- a form that isn't a constant before its arguments
pub other-form : (g : Graph) (depth : ℕ) (u : Term) (w : Whnf) → IsHeadForm g depth u w → is_constant (form_shape g w) ≡ false → items_of u ≡ None
other-form g depth u w h e = no-list u (ap is_constant (form-shape g depth u w h) ∙ e)

-- the places of a word in the table
abbrev places : (Reserved → Bool) → ℕ → List Reserved → List ℕ
places p k [] = []
places p k (w ∷ ws) = cond (p w) (k ∷ places p (suc k) ws) (places p (suc k) ws)

or-later : (a b : Bool) → b ≡ true → (a || b) ≡ true
or-later true b e = refl
or-later false b e = e

found : (p : Reserved → Bool) (w : Reserved) → p w ≡ true → (ws : List Reserved) (k c : ℕ) → slice_get ws c ≡ Some w → list_any (nat_eq (k + c)) (places p k ws) ≡ true
found p w is [] k c e = absurd (let z : ◌≡◌ {A = Option Reserved} None (Some w) = e in cc)
found p w is (x ∷ ws) k zero e =
    let same : x ≡ w = cc in
    ap (λ b. list_any (nat_eq (k + 0)) (cond b (k ∷ places p (suc k) ws) (places p (suc k) ws))) (ap p same ∙ is)
    ∙ ap (λ b. b || list_any (nat_eq (k + 0)) (places p (suc k) ws)) (eq-eqb (k + 0) k (omega arith))
found p w is (x ∷ ws) k (suc c) e =
    let at : k + suc c ≡ suc k + c = omega arith in
    go (p x) (ap (λ n. list_any (nat_eq n) (places p (suc k) ws)) at ∙ found p w is ws (suc k) c e)
  where
    go : (b : Bool) → list_any (nat_eq (k + suc c)) (places p (suc k) ws) ≡ true → list_any (nat_eq (k + suc c)) (cond b (k ∷ places p (suc k) ws) (places p (suc k) ws)) ≡ true
    go true later = or-later (nat_eq (k + suc c) k) (list_any (nat_eq (k + suc c)) (places p (suc k) ws)) later
    go false later = later

abbrev is_nil : Reserved → Bool
is_nil Nil_word = true
is_nil _ = false

abbrev is_cons : Reserved → Bool
is_cons Cons_word = true
is_cons _ = false

only-one : (n k : ℕ) → (nat_eq n k || false) ≡ true → n ≡ k
only-one n k e = go (nat_eq n k) refl
  where
    go : (b : Bool) → nat_eq n k ≡ b → n ≡ k
    go true q = eqb-true n k q
    go false q = absurd (let z : false ≡ true = sym (ap (λ b. b || false) q) ∙ e in cc)

pub nil-number : (c : ℕ) → word_of c ≡ Some Nil_word → c ≡ 18
nil-number c e =
    let here : 0 + c ≡ c = omega arith in
    only-one c 18 (ap (λ n. nat_eq n 18 || false) (sym here) ∙ found is_nil Nil_word refl words 0 c e)

pub cons-number : (c : ℕ) → word_of c ≡ Some Cons_word → c ≡ 19
cons-number c e =
    let here : 0 + c ≡ c = omega arith in
    only-one c 19 (ap (λ n. nat_eq n 19 || false) (sym here) ∙ found is_cons Cons_word refl words 0 c e)

pub bare-none : (c : ℕ) → (word_of c ≡ Some Nil_word → ⊥) → items_of (At (Con c)) ≡ None
bare-none c never = ap (λ (b : Bool). cond b (Some []) None) (ne_eqb c 18 (λ e. never (ap word_of e)))

pub pair-none : (c : ℕ) (a b : Term) → (word_of c ≡ Some Cons_word → ⊥) → items_of (App (App (At (Con c)) a) b) ≡ None
pair-none c a b never = ap (λ (x : Bool). before (cond x (Some a) None) (items_of b)) (ne_eqb c 19 (λ e. never (ap word_of e)))

-- what a form says of the items
pub form-items : (g : Graph) (depth : ℕ) (u : Term) (f : ListForm) → IsListForm g depth u f → items_of u ≡ items_left g f
form-items g depth u End e = ap items_of e
form-items g depth u (Item a b) e = ap items_of e.2
form-items g depth u Other e = e

pub form-fits : (g : Graph) (depth : ℕ) (u : Term) (f : ListForm) → IsListForm g depth u f → ListFits g depth f
form-fits g depth u End e = tt
form-fits g depth u (Item a b) e = (e.0, e.1)
form-fits g depth u Other e = tt

-- how much of a list is left
abbrev pub form_size : Graph → ListForm → ℕ
form_size g End = 0
form_size g (Item a b) = size (read g a.index names) + size (read g b.index names)
form_size g Other = 0

pub form-smaller : (g : Graph) (depth : ℕ) (u : Term) (f : ListForm) → IsListForm g depth u f → form_size g f < size u
form-smaller g depth u End e = let k = size-positive u in omega (arith, k)
form-smaller g depth u (Item a b) e = let k = ap size e.2 in omega (arith, k)
form-smaller g depth u Other e = let k = size-positive u in omega (arith, k)

-- one more item is read
pub one-more : (ts : List Term) (t : Term) (o : Option (List Term)) → after_items ts (before (Some t) o) ≡ after_items (ts ++ t ∷ []) o
one-more ts t None = refl
one-more ts t (Some us) = ap Some (moved ts us)
  where
    moved : (xs us : List Term) → xs ++ (t ∷ us) ≡ (xs ++ t ∷ []) ++ us
    moved [] us = refl
    moved (x ∷ xs) us = ap (λ (ys : List Term). x ∷ ys) (moved xs us)
