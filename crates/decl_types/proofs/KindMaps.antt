-- Kinds in a map, as they come one by one.
use Rattle.std.proofs.Common.{◌≡◌, ◌∙◌, ℕ, Bool, true, false, nat_eq, ◌+◌, ◌<◌, List, [], ◌∷◌, ◌++◌, length, get_or, take, map, Option, Some, None, cond, ap, sym, subst, refl}
use Rattle.std.specs.Option.{option_or}
use Rattle.std.specs.Prelude.{if◌then◌else◌}
use Rattle.std.specs.List.{flat_map}
use Rattle.std.proofs.lemmas.List.{append_assoc, map-append}
use Rattle.std.proofs.lemmas.Bool.{eqb-true, eqb-false, eq-eqb}
use Rattle.indexmap.specs.IndexMap.{IndexMap, get}
use Rattle.decl_trees.specs.declared.trees.PlacedName.{PlacedName}
use Rattle.decl_trees.specs.declared.trees.DeclTree.{DeclTree}
use Rattle.decl_types.specs.TypeRules.{Kind, kind_of, kinds_in, arrows_of}
use Rattle.decl_types.specs.inside.Kinds.{AreKinds}
use Rattle.decl_types.proofs.Lists.{take-more, flat-more}

-- the first of two lists that has a name counts
arrows-append : (xs ys : List Kind) (c : ℕ) → arrows_of (xs ++ ys) c ≡ option_or (arrows_of xs c) (arrows_of ys c)
arrows-append [] ys c = refl
arrows-append (k ∷ xs) ys c = of (arrows-append xs ys c) (nat_eq c k.name)
  where
    of : arrows_of (xs ++ ys) c ≡ option_or (arrows_of xs c) (arrows_of ys c) → (b : Bool)
        → (if b then Some k.arrows else arrows_of (xs ++ ys) c) ≡ option_or (if b then Some k.arrows else arrows_of xs c) (arrows_of ys c)
    of rest true = refl
    of rest false = rest

or-none : (o : Option ℕ) → option_or o None ≡ o
or-none None = refl
or-none (Some x) = refl

-- a name that is there
pub kind-known : {S : Type 0} (kinds : IndexMap ℕ ℕ S) (before : List Kind) (name : PlacedName) (arity n : ℕ) → AreKinds kinds before → get nat_eq kinds name.sym.0 ≡ Some n → AreKinds kinds (before ++ kind_of arity name ∷ [])
kind-known kinds before name arity n are there c = are c ∙ of (nat_eq c name.sym.0) refl ∙ sym (arrows-append before (kind_of arity name ∷ []) c)
  where
    of : (b : Bool) → nat_eq c name.sym.0 ≡ b → arrows_of before c ≡ option_or (arrows_of before c) (if b then Some arity else None)
    of false e = sym (or-none (arrows_of before c))
    of true e =
        let some : arrows_of before c ≡ Some n = ap (arrows_of before) (eqb-true c name.sym.0 e) ∙ sym (are name.sym.0) ∙ there in
        some ∙ ap (λ o. option_or o (Some arity)) (sym some)

eqb-swap : (a b : ℕ) → nat_eq a b ≡ false → nat_eq b a ≡ false
eqb-swap a b e = of (nat_eq b a) refl
  where
    of : (x : Bool) → nat_eq b a ≡ x → nat_eq b a ≡ false
    of false f = f
    of true f = absurd (eqb-false a b e (sym (eqb-true b a f)))

-- a new name
pub kind-new : {S : Type 0} (kinds later : IndexMap ℕ ℕ S) (before : List Kind) (name : PlacedName) (arity : ℕ) → AreKinds kinds before → get nat_eq kinds name.sym.0 ≡ None
    → ((c : ℕ) → get nat_eq later c ≡ cond (nat_eq name.sym.0 c) (Some arity) (get nat_eq kinds c)) → AreKinds later (before ++ kind_of arity name ∷ [])
kind-new kinds later before name arity are none put c = put c ∙ of (nat_eq name.sym.0 c) refl ∙ sym (arrows-append before (kind_of arity name ∷ []) c)
  where
    of : (b : Bool) → nat_eq name.sym.0 c ≡ b → cond b (Some arity) (get nat_eq kinds c) ≡ option_or (arrows_of before c) (if nat_eq c name.sym.0 then Some arity else None)
    of true e =
        let same : c ≡ name.sym.0 = sym (eqb-true name.sym.0 c e) in
        sym (ap (λ o. option_or o (if nat_eq c name.sym.0 then Some arity else None)) (ap (arrows_of before) same ∙ sym (are name.sym.0) ∙ none)
        ∙ ap (λ b. if b then Some arity else None) (eq-eqb c name.sym.0 same))
    of false e =
        are c ∙ sym (or-none (arrows_of before c)) ∙ ap (λ b. option_or (arrows_of before c) (if b then Some arity else None)) (sym (eqb-swap name.sym.0 c e))

-- more names
pub kinds-more : {S : Type 0} (later : IndexMap ℕ ℕ S) (before : List Kind) (arity : ℕ) (names : List PlacedName) (i : ℕ) (x : PlacedName) → i < length names → x ≡ get_or names i x
    → AreKinds later ((before ++ map (kind_of arity) (take i names)) ++ kind_of arity x ∷ []) → AreKinds later (before ++ map (kind_of arity) (take (i + 1) names))
kinds-more later before arity names i x h e are =
    subst (AreKinds later) (append_assoc before (map (kind_of arity) (take i names)) (kind_of arity x ∷ [])
    ∙ ap (λ ks. before ++ ks) (sym (map-append (kind_of arity) (take i names) (x ∷ [])) ∙ ap (map (kind_of arity)) (sym (take-more names i x h e)))) are

-- more declarations
pub kinds-in-more : {S : Type 0} (later : IndexMap ℕ ℕ S) (decls : List DeclTree) (i : ℕ) (d : DeclTree) → i < length decls → d ≡ get_or decls i d
    → AreKinds later (flat_map kinds_in (take i decls) ++ kinds_in d) → AreKinds later (flat_map kinds_in (take (i + 1) decls))
kinds-in-more later decls i d h e are =
    subst (AreKinds later) (flat-more kinds_in (flat_map kinds_in (take i decls)) (flat_map kinds_in (take i decls) ++ kinds_in d) decls i d h e refl refl) are
