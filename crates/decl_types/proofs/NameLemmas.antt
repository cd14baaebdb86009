-- Names that are declared, as they come one by one.
use Rattle.std.proofs.Common.{◌≡◌, ◌∙◌, ℕ, ◌+◌, ◌<◌, Bool, true, false, ◌||◌, not, nat_eq, List, [], ◌∷◌, ◌++◌, Option, length, get_or, take, drop, ap, sym, refl}
use Rattle.std.specs.List.{list_any}
use Rattle.std.specs.Prelude.{if◌then◌else◌}
use Rattle.std.proofs.lemmas.List.{drop_more}
use Rattle.std.proofs.lemmas.List.Folds.{list_any-append}
use Rattle.std.proofs.lemmas.Bool.{eqb-true}
use Rattle.indexmap.specs.IndexSet.{insert_key}
use Rattle.decl_trees.specs.declared.rule.TypeRule.{TypeRule}
use Rattle.decl_types.specs.declared.breach.Breach.{Breach}
use Rattle.decl_types.specs.declared.names.DeclaredName.{DeclaredName}
use Rattle.decl_types.specs.TypeRules.{is_among, breaches_if, name_breaches, earlier, first_of}
use Rattle.decl_types.proofs.Firsts.{earlier-assoc, first_of-append}
use Rattle.decl_types.proofs.Lists.{take-more}

or-false : (b : Bool) → (b || false) ≡ b
or-false true = refl
or-false false = refl

or-true : (b : Bool) → (b || true) ≡ true
or-true true = refl
or-true false = refl

-- the numbers that a set has after one more
any-insert : (keys : List ℕ) (k c : ℕ) → list_any (nat_eq c) (insert_key nat_eq keys k) ≡ (list_any (nat_eq c) keys || nat_eq c k)
any-insert keys k c = of (list_any (nat_eq k) keys) (nat_eq c k) refl refl
  where
    of : (known same : Bool) → list_any (nat_eq k) keys ≡ known → nat_eq c k ≡ same
        → list_any (nat_eq c) (if known then keys else keys ++ k ∷ []) ≡ (list_any (nat_eq c) keys || same)
    of false same p q = list_any-append (nat_eq c) keys (k ∷ []) ∙ ap (λ b. list_any (nat_eq c) keys || b) (or-false (nat_eq c k) ∙ q)
    of true false p q = sym (or-false (list_any (nat_eq c) keys))
    of true true p q = ap (λ x. list_any (nat_eq x) keys) (eqb-true c k q) ∙ p ∙ sym (or-true (list_any (nat_eq c) keys))

-- a number that is among the names
abbrev pub holds : List DeclaredName → ℕ → Bool
holds names c = list_any (λ e. nat_eq c e.name.sym.0) names

-- the names of a set, with one more
pub names-more : (names : List DeclaredName) (i : ℕ) (d : DeclaredName) (keys later : List ℕ) → i < length names → d ≡ get_or names i d
    → later ≡ insert_key nat_eq keys d.name.sym.0 → ((c : ℕ) → list_any (nat_eq c) keys ≡ holds (take i names) c)
    → (c : ℕ) → list_any (nat_eq c) later ≡ holds (take (i + 1) names) c
names-more names i d keys later h e l same c =
    ap (list_any (nat_eq c)) l ∙ any-insert keys d.name.sym.0 c ∙ ap (λ b. b || nat_eq c d.name.sym.0) (same c)
    ∙ sym (ap (λ xs. holds xs c) (take-more names i d h e) ∙ list_any-append (λ x. nat_eq c x.name.sym.0) (take i names) (d ∷ [])
    ∙ ap (λ b. holds (take i names) c || b) (or-false (nat_eq c d.name.sym.0)))

-- the first breach from a name on
breaches-more : (rule : TypeRule) (names : List DeclaredName) (i : ℕ) (d : DeclaredName) → i < length names → d ≡ get_or names i d
    → first_of (name_breaches rule (take i names) (drop i names))
    ≡ earlier (first_of (breaches_if (d.refused || is_among (take i names) d.name) rule d.name.place)) (first_of (name_breaches rule (take (i + 1) names) (drop (i + 1) names)))
breaches-more rule names i d h e =
    ap (λ rest. first_of (name_breaches rule (take i names) rest)) (drop_more names i d h ∙ ap (λ x. x ∷ drop (i + 1) names) (sym e))
    ∙ first_of-append (breaches_if (d.refused || is_among (take i names) d.name) rule d.name.place) (name_breaches rule (take i names ++ d ∷ []) (drop (i + 1) names))
    ∙ ap (λ seen. earlier (first_of (breaches_if (d.refused || is_among (take i names) d.name) rule d.name.place)) (first_of (name_breaches rule seen (drop (i + 1) names))))
    (sym (take-more names i d h e))

not-not : (b : Bool) → not (not b) ≡ b
not-not true = refl
not-not false = refl

-- the first breach so far, with one more name
pub found-more : (rule : TypeRule) (names : List DeclaredName) (i : ℕ) (d : DeclaredName) (keys : List ℕ) (added broken : Bool) (found next later : Option Breach) → i < length names → d ≡ get_or names i d
    → ((c : ℕ) → list_any (nat_eq c) keys ≡ holds (take i names) c) → added ≡ not (list_any (nat_eq d.name.sym.0) keys) → broken ≡ (d.refused || not added)
    → next ≡ first_of (breaches_if broken rule d.name.place) → later ≡ earlier found next
    → earlier found (first_of (name_breaches rule (take i names) (drop i names))) ≡ earlier later (first_of (name_breaches rule (take (i + 1) names) (drop (i + 1) names)))
found-more rule names i d keys added broken found next later h e same a k here both =
    let known : broken ≡ (d.refused || is_among (take i names) d.name) = k ∙ ap (λ b. d.refused || b) (ap not a ∙ not-not (list_any (nat_eq d.name.sym.0) keys) ∙ same d.name.sym.0) in
    let first : next ≡ first_of (breaches_if (d.refused || is_among (take i names) d.name) rule d.name.place) = here ∙ ap (λ b. first_of (breaches_if b rule d.name.place)) known in
    let rest : Option Breach = first_of (name_breaches rule (take (i + 1) names) (drop (i + 1) names)) in
    ap (earlier found) (breaches-more rule names i d h e ∙ ap (λ o. earlier o rest) (sym first)) ∙ sym (earlier-assoc found next rest) ∙ ap (λ o. earlier o rest) (sym both)
