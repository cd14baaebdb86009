-- Equality of groups.
use Rattle.std.proofs.Common.{◌≡◌, Bool, true, false, ◌&&◌, nat_eq, refl, sym, ap, ap₂, ◌∙◌, eqb-true, eq-eqb}
use Rattle.std.proofs.lemmas.Bool.Decides.{Decides-int_eq}
use Rattle.clause_key.specs.declared.key.Key.{Key}
use Rattle.clause_key.specs.declared.key.Key.TheVariants.{Any, Con, Int, Str, Level, Lam}
use Rattle.clause_key.specs.Keys.{same_key}
use Rattle.clause_index.specs.declared.lists.Group.{Group}
use Rattle.clause_index.specs.declared.lists.Group.TheVariants.{Every, Loose, Keyed}
use Rattle.clause_index.specs.inside.Lists.{same_group}
use Rattle.clause_index.specs.contracts.lists.GroupPartialEq.TheImpl.{eq-value}
use Rattle.clause_key.specs.contracts.key.KeyPartialEq.TheImpl.{eq-value as key_eq}

key-is : (a b : Key) → key_eq.it a b ≡ same_key a b
key-is Any Any = refl
key-is Any (Con b) = refl
key-is Any (Int b) = refl
key-is Any (Str b) = refl
key-is Any (Level b) = refl
key-is Any Lam = refl
key-is (Con a) Any = refl
key-is (Con a) (Con b) = refl
key-is (Con a) (Int b) = refl
key-is (Con a) (Str b) = refl
key-is (Con a) (Level b) = refl
key-is (Con a) Lam = refl
key-is (Int a) Any = refl
key-is (Int a) (Con b) = refl
key-is (Int a) (Int b) = refl
key-is (Int a) (Str b) = refl
key-is (Int a) (Level b) = refl
key-is (Int a) Lam = refl
key-is (Str a) Any = refl
key-is (Str a) (Con b) = refl
key-is (Str a) (Int b) = refl
key-is (Str a) (Str b) = refl
key-is (Str a) (Level b) = refl
key-is (Str a) Lam = refl
key-is (Level a) Any = refl
key-is (Level a) (Con b) = refl
key-is (Level a) (Int b) = refl
key-is (Level a) (Str b) = refl
key-is (Level a) (Level b) = refl
key-is (Level a) Lam = refl
key-is Lam Any = refl
key-is Lam (Con b) = refl
key-is Lam (Int b) = refl
key-is Lam (Str b) = refl
key-is Lam (Level b) = refl
key-is Lam Lam = refl

-- what is derived is what the definitions say
pub group-is : (a b : Group) → eq-value.it a b ≡ same_group a b
group-is (Every a) (Every b) = refl
group-is (Every a) (Loose b) = refl
group-is (Every a) (Keyed b l) = refl
group-is (Loose a) (Every b) = refl
group-is (Loose a) (Loose b) = refl
group-is (Loose a) (Keyed b l) = refl
group-is (Keyed a k) (Every b) = refl
group-is (Keyed a k) (Loose b) = refl
group-is (Keyed a k) (Keyed b l) = ap (λ x. nat_eq a.0 b.0 && x) (key-is k l)

-- equal keys are one
pub key-sound : (a b : Key) → same_key a b ≡ true → a ≡ b
key-sound Any Any e = refl
key-sound Any (Con b) e = absurd (let z : false ≡ true = e in cc)
key-sound Any (Int b) e = absurd (let z : false ≡ true = e in cc)
key-sound Any (Str b) e = absurd (let z : false ≡ true = e in cc)
key-sound Any (Level b) e = absurd (let z : false ≡ true = e in cc)
key-sound Any Lam e = absurd (let z : false ≡ true = e in cc)
key-sound (Con a) Any e = absurd (let z : false ≡ true = e in cc)
key-sound (Con a) (Con b) e = ap (λ n. Con (record { 0 = n })) (eqb-true a.0 b.0 e)
key-sound (Con a) (Int b) e = absurd (let z : false ≡ true = e in cc)
key-sound (Con a) (Str b) e = absurd (let z : false ≡ true = e in cc)
key-sound (Con a) (Level b) e = absurd (let z : false ≡ true = e in cc)
key-sound (Con a) Lam e = absurd (let z : false ≡ true = e in cc)
key-sound (Int a) Any e = absurd (let z : false ≡ true = e in cc)
key-sound (Int a) (Con b) e = absurd (let z : false ≡ true = e in cc)
key-sound (Int a) (Int b) e = ap Int ((Decides-int_eq a b).0 e)
key-sound (Int a) (Str b) e = absurd (let z : false ≡ true = e in cc)
key-sound (Int a) (Level b) e = absurd (let z : false ≡ true = e in cc)
key-sound (Int a) Lam e = absurd (let z : false ≡ true = e in cc)
key-sound (Str a) Any e = absurd (let z : false ≡ true = e in cc)
key-sound (Str a) (Con b) e = absurd (let z : false ≡ true = e in cc)
key-sound (Str a) (Int b) e = absurd (let z : false ≡ true = e in cc)
key-sound (Str a) (Str b) e = ap (λ n. Str (record { 0 = n })) (eqb-true a.0 b.0 e)
key-sound (Str a) (Level b) e = absurd (let z : false ≡ true = e in cc)
key-sound (Str a) Lam e = absurd (let z : false ≡ true = e in cc)
key-sound (Level a) Any e = absurd (let z : false ≡ true = e in cc)
key-sound (Level a) (Con b) e = absurd (let z : false ≡ true = e in cc)
key-sound (Level a) (Int b) e = absurd (let z : false ≡ true = e in cc)
key-sound (Level a) (Str b) e = absurd (let z : false ≡ true = e in cc)
key-sound (Level a) (Level b) e = ap Level (eqb-true a b e)
key-sound (Level a) Lam e = absurd (let z : false ≡ true = e in cc)
key-sound Lam Any e = absurd (let z : false ≡ true = e in cc)
key-sound Lam (Con b) e = absurd (let z : false ≡ true = e in cc)
key-sound Lam (Int b) e = absurd (let z : false ≡ true = e in cc)
key-sound Lam (Str b) e = absurd (let z : false ≡ true = e in cc)
key-sound Lam (Level b) e = absurd (let z : false ≡ true = e in cc)
key-sound Lam Lam e = refl

pub key-own : (a : Key) → same_key a a ≡ true
key-own Any = refl
key-own (Con a) = eq-eqb a.0 a.0 refl
key-own (Int a) = (Decides-int_eq a a).1 refl
key-own (Str a) = eq-eqb a.0 a.0 refl
key-own (Level a) = eq-eqb a a refl
key-own Lam = refl

pub key-symm : (a b : Key) → same_key a b ≡ same_key b a
key-symm a b = by (same_key a b) (same_key b a) refl refl
  where
    by : (x y : Bool) → same_key a b ≡ x → same_key b a ≡ y → same_key a b ≡ same_key b a
    by true true e f = e ∙ sym f
    by false false e f = e ∙ sym f
    by true false e f = absurd (let z : true ≡ false = sym (key-own a) ∙ ap (λ k. same_key k a) (key-sound a b e) ∙ f in cc)
    by false true e f = absurd (let z : true ≡ false = sym (key-own b) ∙ ap (λ k. same_key k b) (key-sound b a f) ∙ e in cc)

-- equal groups are one
both-true : (a b : Bool) → (a && b) ≡ true → (a ≡ true) × (b ≡ true)
both-true true b e = (refl, e)
both-true false b e = absurd (let z : false ≡ true = e in cc)

pub group-sound : (a b : Group) → same_group a b ≡ true → a ≡ b
group-sound (Every a) (Every b) e = ap (λ n. Every (record { 0 = n })) (eqb-true a.0 b.0 e)
group-sound (Every a) (Loose b) e = absurd (let z : false ≡ true = e in cc)
group-sound (Every a) (Keyed b l) e = absurd (let z : false ≡ true = e in cc)
group-sound (Loose a) (Every b) e = absurd (let z : false ≡ true = e in cc)
group-sound (Loose a) (Loose b) e = ap (λ n. Loose (record { 0 = n })) (eqb-true a.0 b.0 e)
group-sound (Loose a) (Keyed b l) e = absurd (let z : false ≡ true = e in cc)
group-sound (Keyed a k) (Every b) e = absurd (let z : false ≡ true = e in cc)
group-sound (Keyed a k) (Loose b) e = absurd (let z : false ≡ true = e in cc)
group-sound (Keyed a k) (Keyed b l) e =
    let w = both-true (nat_eq a.0 b.0) (same_key k l) e in ap₂ (λ n m. Keyed (record { 0 = n }) m) (eqb-true a.0 b.0 w.0) (key-sound k l w.1)

pub group-own : (a : Group) → same_group a a ≡ true
group-own (Every a) = eq-eqb a.0 a.0 refl
group-own (Loose a) = eq-eqb a.0 a.0 refl
group-own (Keyed a k) = ap₂ (λ x y. x && y) (eq-eqb a.0 a.0 refl) (key-own k)
