-- The names of a spine.
use Rattle.std.proofs.Common.{◌≡◌, ℕ, zero, suc, ◌<◌, ◌≤◌, ◌++◌, List, [], ◌∷◌, length, map, reverse, cond, nat_eq, nat_lt, eqb-true, Bool, true, false, ◌||◌, Option, Some, None, option_map, IfSome, refl, sym, ap, ap₂, ◌∙◌, arith, ne_eqb, get_or, drop, ◌-◌}
use Rattle.std.specs.List.{list_any}
use Rattle.std.proofs.lemmas.List.{reverse-append, map-append}
use Rattle.std.proofs.lemmas.List.Folds.{list_any-append}
use Rattle.level_terms.specs.declared.node.TermId.{TermId}
use Rattle.level_terms.specs.Graph.{Graph}
use Rattle.level_terms.specs.Valid.{IsValid}
use Rattle.level_terms.specs.Reading.{read}
use Rattle.ref_terms.specs.terms.Term as term
use Rattle.ref_terms.specs.terms.Term.{Term, Head, At}
use Rattle.ref_terms.specs.terms.Index.{sub, first}
use Rattle.ref_terms.specs.terms.Ready.{ready}
use Rattle.ref_terms.specs.terms.Occurs.{has_name}
use Rattle.ref_terms.specs.unification.Spine.{apply_all}
use Rattle.ref_terms.specs.unification.Pattern.{SpineName, of_name, of_bound, same_name, spine_name, add_distinct, pattern_of}
use Rattle.ref_terms.specs.lemmas.NameLemmas.{nat_eq_self}
use Rattle.beta_fragment.specs.declared.answer.RigidHead.{RigidHead}
use Rattle.beta_fragment.specs.declared.answer.RigidHead.TheVariants.{Con, Int, Str, Level}
use Rattle.beta_fragment.specs.declared.answer.Whnf.{Whnf}
use Rattle.beta_fragment.specs.declared.answer.Whnf.TheVariants.{Lam, Rigid, Flex, Redex}
use Rattle.beta_fragment.specs.Names.{names}
use Rattle.beta_fragment.specs.HeadForm.{IsHeadForm, IsAbstraction, AllValidAt, all_read, rigid_head}
use Rattle.beta_fragment.proofs.HeadLemmas.{drop-whole}
use Rattle.beta_fragment.proofs.QuotableLemmas.{nameless-valid}
use Rattle.pattern_unify.specs.inside.SpineNames.{bare_level, form_name}

-- an application is no name, whatever follows
app-no_name : (xs : List Term) (f a : Term) → spine_name (apply_all (term.App f a) xs) ≡ None
app-no_name [] f a = refl
app-no_name (x ∷ xs) f a = app-no_name xs (term.App f a) x

-- nor is a head before arguments
head-no_name : (h : Head) (x : Term) (xs : List Term) → spine_name (apply_all (At h) (x ∷ xs)) ≡ None
head-no_name h x xs = app-no_name xs (At h) x

-- nor is an abstraction
lam-no_name : (u : Term) → IsAbstraction u → spine_name u ≡ None
lam-no_name (term.Lam b) w = refl
lam-no_name (At h) w = absurd w
lam-no_name (term.App f a) w = absurd w

-- nor one before an argument that isn't ready
redex-no_name : (u x : Term) (xs : List Term) → IsAbstraction u → ready x ≡ false → spine_name (apply_all u (x ∷ xs)) ≡ None
redex-no_name (term.Lam b) x xs w r =
    ap (λ (r : Bool). spine_name (apply_all (cond r (sub (first x) b) (term.App (term.Lam b) x)) xs)) r ∙ app-no_name xs (term.Lam b) x
redex-no_name (At h) x xs w r = absurd w
redex-no_name (term.App f a) x xs w r = absurd w

-- a rigid head is a name where it is a level without arguments
rigid-name : (h : RigidHead) (g : Graph) (ts : List TermId) → option_map of_name (bare_level h ts) ≡ spine_name (apply_all (At (rigid_head h)) (all_read g ts))
rigid-name (Level l) g [] = refl
rigid-name (Level l) g (a ∷ ts) = sym (head-no_name (term.Name l) (read g a.index names) (all_read g ts))
rigid-name (Con c) g [] = refl
rigid-name (Con c) g (a ∷ ts) = sym (head-no_name (term.Con c.0) (read g a.index names) (all_read g ts))
rigid-name (Int n) g [] = refl
rigid-name (Int n) g (a ∷ ts) = sym (head-no_name (term.Int n) (read g a.index names) (all_read g ts))
rigid-name (Str s) g [] = refl
rigid-name (Str s) g (a ∷ ts) = sym (head-no_name (term.Str s.0) (read g a.index names) (all_read g ts))

-- a variable is none
variable-no_name : (v : ℕ) (g : Graph) (ts : List TermId) → spine_name (apply_all (At (term.Var v)) (all_read g ts)) ≡ None
variable-no_name v g [] = refl
variable-no_name v g (a ∷ ts) = head-no_name (term.Var v) (read g a.index names) (all_read g ts)

-- the name that a term is, by its form
pub name-from_form : (g : Graph) (depth : ℕ) (u : Term) (w : Whnf) → IsHeadForm g depth u w → option_map of_name (form_name w) ≡ spine_name u
name-from_form g depth u (Lam t) f = sym (ap spine_name f.1 ∙ lam-no_name (read g t.index names) f.0.reads)
name-from_form g depth u (Rigid h ts) f = rigid-name h g ts ∙ sym (ap spine_name f.1)
name-from_form g depth u (Flex v ts) f = sym (ap spine_name f.3 ∙ variable-no_name v.index g ts)
name-from_form g depth u (Redex t []) f = absurd f.1
name-from_form g depth u (Redex t (a ∷ ts)) f = sym (ap spine_name f.3 ∙ redex-no_name (read g t.index names) (read g a.index names) (all_read g ts) f.0.reads f.1)

-- a term that is a name has it
name-stands : (u : Term) (n : ℕ) → Some (of_name n) ≡ spine_name u → has_name n u ≡ true
name-stands (At (term.Name m)) n e = let q : n ≡ m = cc in ap (nat_eq n) (sym q) ∙ nat_eq_self n
name-stands (At (term.Bound i)) n e = absurd (let q : Some (of_name n) ≡ Some (of_bound i) = e in cc)
name-stands (At (term.Con c)) n e = absurd (let q : Some (of_name n) ≡ None = e in cc)
name-stands (At (term.Int c)) n e = absurd (let q : Some (of_name n) ≡ None = e in cc)
name-stands (At (term.Str c)) n e = absurd (let q : Some (of_name n) ≡ None = e in cc)
name-stands (At (term.Var v)) n e = absurd (let q : Some (of_name n) ≡ None = e in cc)
name-stands (term.Lam b) n e = absurd (let q : Some (of_name n) ≡ None = e in cc)
name-stands (term.App f a) n e = absurd (let q : Some (of_name n) ≡ None = e in cc)

-- what isn't from the depth on lies below it
below-unless : (n depth : ℕ) → (depth ≤ n → ⊥) → n < depth
below-unless n depth h = go (nat_lt n depth) refl
  where
    go : (b : Bool) → nat_lt n depth ≡ b → n < depth
    go true e = grind (arith, e)
    go false e = absurd (h (grind (arith, e)))

-- a name that a valid node reads as lies below the depth
pub name-below : (g : Graph) (t depth : ℕ) (o : Option ℕ) → IsValid g t depth → option_map of_name o ≡ spine_name (read g t names) → IfSome o (λ n. n < depth)
name-below g t depth None v e = tt
name-below g t depth (Some n) v e = below-unless n depth (λ h.
    let k : false ≡ true = sym (nameless-valid n g t depth names v (λ i l. ne_eqb n i (omega (arith, h, l)))) ∙ name-stands (read g t names) n e in cc)

-- tests the other way round
pub nat_eq-turned : (a b : ℕ) → nat_eq a b ≡ nat_eq b a
nat_eq-turned a b = go (nat_eq a b) refl (nat_eq b a) refl
  where
    go : (x : Bool) → nat_eq a b ≡ x → (y : Bool) → nat_eq b a ≡ y → nat_eq a b ≡ nat_eq b a
    go true e y f = let q = eqb-true a b e in ap₂ nat_eq q (sym q)
    go false e true f = let q = eqb-true b a f in ap₂ nat_eq (sym q) q
    go false e false f = e ∙ sym f

or-turned : (a b : Bool) → (a || (b || false)) ≡ (b || a)
or-turned true true = refl
or-turned true false = refl
or-turned false true = refl
or-turned false false = refl

-- whether a name is among those that stand in the reverse order
pub among-reverse : (n : ℕ) (ns : List ℕ) → list_any (same_name (of_name n)) (map of_name (reverse ns)) ≡ list_any (λ m. nat_eq m n) ns
among-reverse n [] = refl
among-reverse n (m ∷ ns) =
    ap (λ (ms : List ℕ). list_any (same_name (of_name n)) (map of_name ms)) (reverse-append (m ∷ []) ns)
    ∙ ap (list_any (same_name (of_name n))) (map-append of_name (reverse ns) (m ∷ []))
    ∙ list_any-append (same_name (of_name n)) (map of_name (reverse ns)) (of_name m ∷ [])
    ∙ ap₂ (λ (x y : Bool). x || (y || false)) (among-reverse n ns) (nat_eq-turned n m)
    ∙ or-turned (list_any (λ k. nat_eq k n) ns) (nat_eq m n)

-- a name that isn't there is put, and one that is there isn't
pub name-put : (n : ℕ) (ns ms : List ℕ) → ms ≡ ns ++ n ∷ [] → list_any (λ m. nat_eq m n) ns ≡ false → Some (map of_name (reverse ms)) ≡ add_distinct (Some (of_name n)) (Some (map of_name (reverse ns)))
name-put n ns ms e h =
    ap (λ (ks : List ℕ). Some (map of_name (reverse ks))) e
    ∙ ap (λ (ks : List ℕ). Some (map of_name ks)) (reverse-append ns (n ∷ []))
    ∙ sym (ap (λ b. cond b None (Some (of_name n ∷ map of_name (reverse ns)))) (among-reverse n ns ∙ h))

pub name-there : (n : ℕ) (ns : List ℕ) → list_any (λ m. nat_eq m n) ns ≡ true → None ≡ add_distinct (Some (of_name n)) (Some (map of_name (reverse ns)))
name-there n ns h = sym (ap (λ b. cond b None (Some (of_name n ∷ map of_name (reverse ns)))) (among-reverse n ns ∙ h))

-- the arguments of a spine
pub arg-valid : (g : Graph) (d : ℕ) (ts : List TermId) (i : ℕ) (z : TermId) → i < length ts → AllValidAt g ts d → IsValid g (get_or ts i z).index d
arg-valid g d [] i z h v = absurd (omega (arith, h))
arg-valid g d (t ∷ ts) zero z h v = v.0
arg-valid g d (t ∷ ts) (suc i) z h v = arg-valid g d ts i z (omega (arith, h)) v.1

args-split : (ts : List TermId) (i : ℕ) (z : TermId) → i < length ts → drop i ts ≡ get_or ts i z ∷ drop (suc i) ts
args-split [] i z h = absurd (omega (arith, h))
args-split (t ∷ ts) zero z h = refl
args-split (t ∷ ts) (suc i) z h = args-split ts i z (omega (arith, h))

-- one more argument before those whose names are known
pub pattern-more : (g : Graph) (ts : List TermId) (i : ℕ) (z : TermId) (ns : List ℕ) (u : Term) (o : Option (List SpineName)) → 0 < i → i ≤ length ts → pattern_of (all_read g (drop i ts)) ≡ Some (map of_name (reverse ns)) →
    u ≡ read g (get_or ts (i - 1) z).index names → o ≡ add_distinct (spine_name u) (Some (map of_name (reverse ns))) → o ≡ pattern_of (all_read g (drop (i - 1) ts))
pattern-more g ts i z ns u o l h e r k =
    let up : suc (i - 1) ≡ i = omega (arith, l) in
    k ∙ ap₂ (λ (v : Term) (p : Option (List SpineName)). add_distinct (spine_name v) p) r (sym e)
    ∙ ap (λ (j : ℕ). add_distinct (spine_name (read g (get_or ts (i - 1) z).index names)) (pattern_of (all_read g (drop j ts)))) (sym up)
    ∙ ap (λ (us : List TermId). pattern_of (all_read g us)) (sym (args-split ts (i - 1) z (omega (arith, l, h))))

-- where the back of a spine is no pattern, the spine is none
no_pattern-more : (o : Option SpineName) → add_distinct o None ≡ None
no_pattern-more None = refl
no_pattern-more (Some n) = refl

pub pattern-front : (g : Graph) (ts : List TermId) (i : ℕ) → pattern_of (all_read g (drop i ts)) ≡ None → pattern_of (all_read g ts) ≡ None
pattern-front g [] zero h = h
pattern-front g [] (suc i) h = h
pattern-front g (t ∷ ts) zero h = h
pattern-front g (t ∷ ts) (suc i) h =
    ap (add_distinct (spine_name (read g t.index names))) (pattern-front g ts i h) ∙ no_pattern-more (spine_name (read g t.index names))

-- behind the last argument there are no names
pub pattern-end : (g : Graph) (ts : List TermId) (i : ℕ) → i ≡ length ts → pattern_of (all_read g (drop i ts)) ≡ Some []
pattern-end g ts i e = ap (λ (j : ℕ). pattern_of (all_read g (drop j ts))) e ∙ ap (λ (us : List TermId). pattern_of (all_read g us)) (drop-whole ts)
