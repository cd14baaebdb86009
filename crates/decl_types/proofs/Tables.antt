-- Tables of declared types, as they grow.
use Rattle.std.proofs.Common.{◌≡◌, ◌∙◌, ℕ, ◌+◌, ◌<◌, ◌⊎◌, inl, inr, Bool, true, false, nat_eq, nat_lt, List, [], ◌∷◌, ◌++◌, length, get_or, set, take, map, Option, Some, None, ap, sym, subst, refl, arith, length-set, get_or-set_same, get_or-set_other}
use Rattle.std.specs.Option.{option_or}
use Rattle.std.specs.List.{flat_map}
use Rattle.std.specs.Prelude.{if◌then◌else◌}
use Rattle.std.proofs.lemmas.List.{map-append, get_or_past, get_or_push, get_or_append_left, length_push}
use Rattle.std.proofs.lemmas.Bool.{eqb-true, eqb-false, ltb-true, ltb-false, lt-ltb, le-ltb, cases_order}
use Rattle.decl_trees.specs.declared.trees.PlacedName.{PlacedName}
use Rattle.decl_trees.specs.declared.trees.TypeTree.{TypeTree}
use Rattle.decl_trees.specs.declared.trees.DeclTree.{DeclTree}
use Rattle.type_terms.specs.declared.scheme.Polytype.{Polytype}
use Rattle.type_terms.specs.Read.{declared_of}
use Rattle.decl_types.specs.DeclaredTypes.{Declared, type_in, typed_so, declared_in, declared_types, reserved_polytype}
use Rattle.decl_types.specs.inside.Tables.{Gains}
use Rattle.decl_types.proofs.Lists.{take-more, flat-more}

-- the first of two lists that gives a type counts
type-append : (xs ys : List Declared) (c : ℕ) → type_in (xs ++ ys) c ≡ option_or (type_in xs c) (type_in ys c)
type-append [] ys c = refl
type-append (d ∷ xs) ys c = of (type-append xs ys c) (nat_eq c d.name)
  where
    of : type_in (xs ++ ys) c ≡ option_or (type_in xs c) (type_in ys c) → (b : Bool)
        → (if b then Some d.type else type_in (xs ++ ys) c) ≡ option_or (if b then Some d.type else type_in xs c) (type_in ys c)
    of rest true = refl
    of rest false = rest

or-none : (o : Option Polytype) → option_or o None ≡ o
or-none None = refl
or-none (Some x) = refl

or-assoc : (a b c : Option Polytype) → option_or (option_or a b) c ≡ option_or a (option_or b c)
or-assoc None b c = refl
or-assoc (Some x) b c = refl

-- nothing is given
pub gains-none : (table : List (Option Polytype)) → Gains table table []
gains-none table = record { same = refl; types = λ c h. sym (or-none (declared_of table c)) }

-- one list after another
pub gains-both : (old mid new : List (Option Polytype)) (xs ys : List Declared) → Gains old mid xs → Gains mid new ys → Gains old new (xs ++ ys)
gains-both old mid new xs ys a b = record {
  same = b.same ∙ a.same;
  types = λ c h.
      let l : c < length mid = omega (arith, h, a.same) in
      b.types c l ∙ ap (λ o. option_or o (type_in ys c)) (a.types c h) ∙ or-assoc (declared_of old c) (type_in xs c) (type_in ys c) ∙ ap (option_or (declared_of old c)) (sym (type-append xs ys c));
}

-- a constant that has a type, or is none of the table
pub gains-kept : (table : List (Option Polytype)) (d : Declared) → (d.name < length table → declared_of table d.name ≡ None → ⊥) → Gains table table (d ∷ [])
gains-kept table d kept = record { same = refl; types = λ c h. of c h (nat_eq c d.name) refl (declared_of table c) refl }
  where
    of : (c : ℕ) → c < length table → (b : Bool) → nat_eq c d.name ≡ b → (o : Option Polytype) → declared_of table c ≡ o → declared_of table c ≡ option_or (declared_of table c) (if b then Some d.type else None)
    of c h false e o f = sym (or-none (declared_of table c))
    of c h true e (Some p) f = f ∙ ap (λ q. option_or q (Some d.type)) (sym f)
    of c h true e None f = let same : c ≡ d.name = eqb-true c d.name e in absurd (kept (subst (λ k. k < length table) same h) (sym (ap (declared_of table) same) ∙ f))

-- a constant gets its type
pub gains-one : (table : List (Option Polytype)) (d : Declared) → d.name < length table → declared_of table d.name ≡ None → Gains table (set table d.name (Some d.type)) (d ∷ [])
gains-one table d h none = record { same = length-set table d.name (Some d.type); types = λ c l. of c l (nat_eq c d.name) refl }
  where
    of : (c : ℕ) → c < length table → (b : Bool) → nat_eq c d.name ≡ b → declared_of (set table d.name (Some d.type)) c ≡ option_or (declared_of table c) (if b then Some d.type else None)
    of c l true e =
        let same : c ≡ d.name = eqb-true c d.name e in
        ap (declared_of (set table d.name (Some d.type))) same ∙ get_or-set_same table d.name (Some d.type) None h
        ∙ ap (λ o. option_or o (Some d.type)) (sym (ap (declared_of table) same ∙ none))
    of c l false e = get_or-set_other table d.name c (Some d.type) None (eqb-false c d.name e) ∙ sym (or-none (declared_of table c))

-- more names of one type
pub gains-names : (old now new : List (Option Polytype)) (ty : TypeTree) (names : List PlacedName) (i : ℕ) (x : PlacedName) → i < length names → x ≡ get_or names i x
    → Gains old now (map (typed_so ty) (take i names)) → Gains now new (typed_so ty x ∷ []) → Gains old new (map (typed_so ty) (take (i + 1) names))
gains-names old now new ty names i x h e a b =
    subst (Gains old new) (sym (map-append (typed_so ty) (take i names) (x ∷ [])) ∙ ap (map (typed_so ty)) (sym (take-more names i x h e)))
    (gains-both old now new (map (typed_so ty) (take i names)) (typed_so ty x ∷ []) a b)

-- more declarations
pub gains-decls : (old now new : List (Option Polytype)) (decls : List DeclTree) (i : ℕ) (d : DeclTree) → i < length decls → d ≡ get_or decls i d
    → Gains old now (flat_map declared_in (take i decls)) → Gains now new (declared_in d) → Gains old new (flat_map declared_in (take (i + 1) decls))
gains-decls old now new decls i d h e a b =
    subst (Gains old new) (flat-more declared_in (flat_map declared_in (take i decls)) (flat_map declared_in (take i decls) ++ declared_in d) decls i d h e refl refl)
    (gains-both old now new (flat_map declared_in (take i decls)) (declared_in d) a b)

-- the whole table
pub table-whole : (count : ℕ) (decls : List DeclTree) (first table : List (Option Polytype)) → length first ≡ count → ((c : ℕ) → declared_of first c ≡ (if nat_lt c count then reserved_polytype c else None))
    → Gains first table (flat_map declared_in decls) → (c : ℕ) → declared_of table c ≡ declared_types count decls c
table-whole count decls first table len reserved g c = of (nat_lt c count) refl
  where
    of : (b : Bool) → nat_lt c count ≡ b → declared_of table c ≡ (if b then option_or (reserved_polytype c) (type_in (flat_map declared_in decls) c) else None)
    of true e =
        let h : c < length first = omega (arith, ltb-true c count e, len) in
        g.types c h ∙ ap (λ o. option_or o (type_in (flat_map declared_in decls) c)) (reserved c ∙ ap (λ b. if b then reserved_polytype c else None) e)
    of false e = get_or_past table c None (omega (arith, ltb-false c count e, len, g.same))

-- the reserved constants, as the table is filled
pub reserved-more : (table later : List (Option Polytype)) (i : ℕ) → length table ≡ i → ((c : ℕ) → declared_of table c ≡ (if nat_lt c i then reserved_polytype c else None))
    → later ≡ table ++ reserved_polytype i ∷ [] → (c : ℕ) → declared_of later c ≡ (if nat_lt c (i + 1) then reserved_polytype c else None)
reserved-more table later i len known put c = ap (λ xs. declared_of xs c) put ∙ of (cases_order c i)
  where
    lt : (n : ℕ) → c < n → nat_lt c n ≡ true
    lt n h = lt-ltb c n h

    of : (c ≡ i) ⊎ ((c < i) ⊎ (i < c)) → declared_of (table ++ reserved_polytype i ∷ []) c ≡ (if nat_lt c (i + 1) then reserved_polytype c else None)
    of (inr (inl h)) =
        get_or_append_left table (reserved_polytype i ∷ []) None c (omega (arith, h, len)) ∙ known c
        ∙ ap (λ b. if b then reserved_polytype c else None) (lt i h ∙ sym (lt (i + 1) (omega (arith, h))))
    of (inl e) =
        get_or_push table (reserved_polytype i) None c (len ∙ sym e) ∙ ap reserved_polytype (sym e)
        ∙ ap (λ b. if b then reserved_polytype c else None) (sym (lt (i + 1) (omega (arith, e))))
    of (inr (inr h)) =
        get_or_past (table ++ reserved_polytype i ∷ []) c None (omega (arith, h, len, length_push table (reserved_polytype i)))
        ∙ ap (λ b. if b then reserved_polytype c else None) (sym (le-ltb c (i + 1) (omega (arith, h))))
