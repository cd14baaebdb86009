-- Nothing offends in a term without variables and stuck abstractions whose names are all known.
use Rattle.std.proofs.Common.{◌≡◌, ℕ, ◌<◌, ◌≤◌, ◌||◌, ◌&&◌, ◌++◌, Bool, true, false, not, cond, nat_eq, nat_lt, List, [], ◌∷◌, Option, Some, refl, sym, ap, ap₂, ◌∙◌, arith, subst}
use Rattle.std.specs.List.{list_any}
use Rattle.level_terms.specs.Graph.{Graph}
use Rattle.level_terms.specs.GroundNormal.{is_ground_normal, is_lam}
use Rattle.ref_terms.specs.terms.Term.{Term, Head, Lam, At, App, Con, Int, Str, Name, Bound, Var}
use Rattle.ref_terms.specs.terms.Occurs.{has_name}
use Rattle.ref_terms.specs.ending.Measure.{size-positive}
use Rattle.ref_terms.specs.lemmas.NameLemmas.{nat_eq_self}
use Rattle.ref_terms.specs.unification.Spine.{head_of, args_of}
use Rattle.ref_terms.specs.unification.Offence.{Verdict, fine, scope, foreign, offence, along, or_later, arguments, of_rigid, head_verdict, Arguments}
use Rattle.beta_fragment.specs.Quoted.{AllNamesBelow}
use Rattle.pattern_unify.specs.declared.offence.Subterm.{Subterm}
use Rattle.pattern_unify.specs.declared.offence.Verdict.TheVariants.{Fine}
use Rattle.pattern_unify.specs.inside.Searching.{Search, known_at, verdict_on, LooksAt}
use Rattle.pattern_unify.proofs.OffenceSpines.{known-at}
use Rattle.pattern_unify.proofs.SearchLemmas.{nothing-put}

-- every name is known
abbrev AllKnown : List ℕ → Term → Type 0
AllKnown ns u = (n : ℕ) → has_name n u ≡ true → list_any (nat_eq n) ns ≡ true

both-left : (a b : Bool) → (a && b) ≡ true → a ≡ true
both-left true b e = refl
both-left false b e = e

both-right : (a b : Bool) → (a && b) ≡ true → b ≡ true
both-right true b e = e
both-right false b e = absurd (let w : false ≡ true = e in cc)

either-left : (a b : Bool) → a ≡ true → (a || b) ≡ true
either-left true b e = refl
either-left false b e = absurd (let w : false ≡ true = e in cc)

either-right : (a b : Bool) → b ≡ true → (a || b) ≡ true
either-right true b e = refl
either-right false b e = e

-- a head that is no variable
head-fine : (x : ℕ) (ns : List ℕ) (loose : Bool) (h : Head) → is_ground_normal (At h) ≡ true → AllKnown ns (At h) → head_verdict x ns loose h ≡ fine
head-fine x ns loose (Con c) e k = refl
head-fine x ns loose (Int n) e k = refl
head-fine x ns loose (Str s) e k = refl
head-fine x ns loose (Bound i) e k = refl
head-fine x ns loose (Name n) e k = ap (λ b. cond b fine (cond loose scope foreign)) (k n (nat_eq_self n))
head-fine x ns loose (Var v) e k = absurd (let w : false ≡ true = e in cc)

not-lam : (b : Bool) → not b ≡ true → b ≡ false
not-lam true w = absurd (let z : false ≡ true = w in cc)
not-lam false w = refl

-- it has rigid arguments
kind-rigid : (m : ℕ) (f : Term) (xs : List Term) → is_ground_normal f ≡ true → is_lam f ≡ false → arguments m (head_of f) xs ≡ of_rigid
kind-rigid m (Lam b) xs e l = absurd (let w : true ≡ false = l in cc)
kind-rigid m (At (Con c)) xs e l = refl
kind-rigid m (At (Int n)) xs e l = refl
kind-rigid m (At (Str s)) xs e l = refl
kind-rigid m (At (Bound i)) xs e l = refl
kind-rigid m (At (Name n)) xs e l = refl
kind-rigid m (At (Var v)) xs e l = absurd (let w : false ≡ true = e in cc)
kind-rigid m (App f a) xs e l =
    let rest = both-right (not (is_lam f)) _ e in
    kind-rigid m f xs (both-left (is_ground_normal f) _ rest) (not-lam (is_lam f) (both-left (not (is_lam f)) _ e))

mutual
  -- a term
  term-fine : (m x : ℕ) (ns : List ℕ) (loose : Bool) (u : Term) → is_ground_normal u ≡ true → AllKnown ns u → offence m x ns loose u ≡ fine
  term-fine m x ns loose (Lam b) e k = term-fine m x ns loose b e k
  term-fine m x ns loose (At h) e k = head-fine x ns loose h e k
  term-fine m x ns loose (App f a) e k =
      let rest = both-right (not (is_lam f)) _ e in
      let ground = both-left (is_ground_normal f) _ rest in
      let plain = not-lam (is_lam f) (both-left (not (is_lam f)) _ e) in
      rw (kind-rigid m f (args_of f ++ a ∷ []) ground plain)
      (ap₂ or_later (front-fine m x ns loose f ground plain (λ n h. k n (either-left _ _ h))) (term-fine m x ns loose a (both-right (is_ground_normal f) _ rest) (λ n h. k n (either-right (has_name n f) _ h))))

  -- the front part of an application
  front-fine : (m x : ℕ) (ns : List ℕ) (loose : Bool) (f : Term) → is_ground_normal f ≡ true → is_lam f ≡ false → AllKnown ns f → along m x ns loose of_rigid f ≡ fine
  front-fine m x ns loose (Lam b) e l k = absurd (let w : true ≡ false = l in cc)
  front-fine m x ns loose (At h) e l k = head-fine x ns loose h e k
  front-fine m x ns loose (App f a) e l k =
      let rest = both-right (not (is_lam f)) _ e in
      ap₂ or_later
      (front-fine m x ns loose f (both-left (is_ground_normal f) _ rest) (not-lam (is_lam f) (both-left (not (is_lam f)) _ e)) (λ n h. k n (either-left _ _ h)))
      (term-fine m x ns loose a (both-right (is_ground_normal f) _ rest) (λ n h. k n (either-right (has_name n f) _ h)))

-- all names below the depth are known where the base is 0
all-known : (s : Search) (depth : ℕ) (u : Term) → s.base ≡ 0 → AllNamesBelow depth u → AllKnown (known_at s depth) u
all-known s depth u zero_base low n h = go (nat_lt n depth) refl
  where
    known : (b : Bool) → nat_lt n s.base ≡ b → cond b (list_any (nat_eq n) s.spine) true ≡ true
    known true e = absurd (let k : n < s.base = grind (arith, e) in omega (arith, k, zero_base))
    known false e = refl

    go : (b : Bool) → nat_lt n depth ≡ b → list_any (nat_eq n) (known_at s depth) ≡ true
    go true e = known-at s depth n (omega (arith, zero_base)) (grind (arith, e)) ∙ known (nat_lt n s.base) refl
    go false e = absurd (let w : true ≡ false = sym h ∙ low n (grind (arith, e)) in cc)

pub looks-ground : (s : Search) (g : Graph) (depth : ℕ) (loose : Bool) (u : Term) (work : List Subterm) → s.base ≡ 0 → AllNamesBelow depth u → is_ground_normal u ≡ true → LooksAt s g depth loose u work work Fine
looks-ground s g depth loose u work zero_base low e = record {
  parts = [];
  pushed = nothing-put work;
  verdict = term-fine s.mark s.variable (known_at s depth) loose u e (all-known s depth u zero_base low);
  searchable = tt;
  less = size-positive u;
  drops = tt;
}
