-- Names that are declared, and variables that stand as whole arguments, as they come one by one.
use Rattle.std.proofs.Common.{◌≡◌, ◌∙◌, ℕ, ◌+◌, ◌<◌, suc, Bool, true, false, ◌||◌, not, nat_eq, nat_lt, List, [], ◌∷◌, ◌++◌, length, get_or, take, drop, position, Option, Some, None, option_map, sym, ap, refl, arith}
use Rattle.std.specs.List.{list_any, position_or_len}
use Rattle.std.specs.Prelude.{if◌then◌else◌}
use Rattle.std.specs.Option.{option_map_or}
use Rattle.std.proofs.lemmas.List.{take_more, drop_more, map-append, length-take-le}
use Rattle.std.proofs.lemmas.List.Folds.{list_any-append}
use Rattle.std.proofs.lemmas.Bool.{eqb-true}
use Rattle.std.proofs.lemmas.Bool.Decides.{nat_tests}
use Rattle.indexmap.specs.IndexSet.{insert_key}
use Rattle.lp_parser.specs.declared.ast.Place.{Place}
use Rattle.ref_terms.specs.declared.tree.Tree.{Tree}
use Rattle.lp_resolve.specs.declared.program.PredLine.{PredLine}
use Rattle.lp_resolve.specs.declared.static_rule.StaticRule.TheVariants.{S1}
use Rattle.lp_resolve.specs.Heads.{variable_of}
use Rattle.lp_resolve.specs.StaticRules.{Breach, is_declared, redeclared, breaches_at, earlier, first_of, has_whole, head_with}
use Rattle.mode_check.specs.Sides.{unless_seen}
use Rattle.mode_check.proofs.Firsts.{earlier-assoc, first_of-append}

or-false : (b : Bool) → (b || false) ≡ b
or-false true = refl
or-false false = refl

or-true : (b : Bool) → (b || true) ≡ true
or-true true = refl
or-true false = refl

-- the names that a set has after one more
pub any-insert : (keys : List ℕ) (k c : ℕ) → list_any (nat_eq c) (insert_key nat_eq keys k) ≡ (list_any (nat_eq c) keys || nat_eq c k)
any-insert keys k c = of (list_any (nat_eq k) keys) (nat_eq c k) refl refl where
  of : (known same : Bool) → list_any (nat_eq k) keys ≡ known → nat_eq c k ≡ same
      → list_any (nat_eq c) (if known then keys else keys ++ k ∷ []) ≡ (list_any (nat_eq c) keys || same)
  of false same p q = list_any-append (nat_eq c) keys (k ∷ []) ∙ ap (λ b. list_any (nat_eq c) keys || b) (or-false (nat_eq c k) ∙ q)
  of true false p q = sym (or-false (list_any (nat_eq c) keys))
  of true true p q =
      ap (λ x. list_any (nat_eq x) keys) (eqb-true c k q) ∙ p ∙ sym (or-true (list_any (nat_eq c) keys))

-- the names that are declared, with one more declaration
pub declared-more : (lines : List PredLine) (i : ℕ) (d : PredLine) (c : ℕ) → i < length lines → d ≡ get_or lines i d
    → is_declared c (take (i + 1) lines) ≡ (is_declared c (take i lines) || nat_eq c d.name.0)
declared-more lines i d c h e =
    ap (is_declared c) (take_more lines i d h ∙ ap (λ x. take i lines ++ x ∷ []) (sym e))
    ∙ list_any-append (λ l. nat_eq c l.name.0) (take i lines) (d ∷ []) ∙ ap (λ b. is_declared c (take i lines) || b) (or-false (nat_eq c d.name.0))

-- the first breach of S1 from a declaration on
pub redeclared-more : (lines : List PredLine) (i : ℕ) (d : PredLine) → i < length lines → d ≡ get_or lines i d
    → first_of (breaches_at S1 (redeclared (take i lines) (drop i lines)))
    ≡ earlier (first_of (breaches_at S1 (if is_declared d.name.0 (take i lines) then d.place ∷ [] else [])))
    (first_of (breaches_at S1 (redeclared (take (i + 1) lines) (drop (i + 1) lines))))
redeclared-more lines i d h e =
    ap (λ rest. first_of (breaches_at S1 (redeclared (take i lines) rest))) (drop_more lines i d h ∙ ap (λ x. x ∷ drop (i + 1) lines) (sym e))
    ∙ ap first_of (map-append (λ p. record { rule = S1; place = p }) here (redeclared (take i lines ++ d ∷ []) (drop (i + 1) lines)))
    ∙ first_of-append (breaches_at S1 here) (breaches_at S1 (redeclared (take i lines ++ d ∷ []) (drop (i + 1) lines)))
    ∙ ap (λ seen. earlier (first_of (breaches_at S1 here)) (first_of (breaches_at S1 (redeclared seen (drop (i + 1) lines)))))
    (sym (take_more lines i d h ∙ ap (λ x. take i lines ++ x ∷ []) (sym e)))
  where
    here : List Place
    here = if is_declared d.name.0 (take i lines) then d.place ∷ [] else []

-- the names of a set, with one more declaration
pub names-more : (lines : List PredLine) (i : ℕ) (d : PredLine) (keys later : List ℕ) → i < length lines → d ≡ get_or lines i d
    → later ≡ insert_key nat_eq keys d.name.0 → ((c : ℕ) → list_any (nat_eq c) keys ≡ is_declared c (take i lines))
    → (c : ℕ) → list_any (nat_eq c) later ≡ is_declared c (take (i + 1) lines)
names-more lines i d keys later h e l same c =
    ap (list_any (nat_eq c)) l ∙ any-insert keys d.name.0 c ∙ ap (λ b. b || nat_eq c d.name.0) (same c) ∙ sym (declared-more lines i d c h e)

not-not : (b : Bool) → not (not b) ≡ b
not-not true = refl
not-not false = refl

-- the first breach of S1 so far, with one more declaration
pub found-more : (lines : List PredLine) (i : ℕ) (d : PredLine) (keys : List ℕ) (added : Bool) (found next later : Option Breach) → i < length lines → d ≡ get_or lines i d
    → ((c : ℕ) → list_any (nat_eq c) keys ≡ is_declared c (take i lines)) → added ≡ not (list_any (nat_eq d.name.0) keys)
    → next ≡ first_of (breaches_at S1 (if not added then d.place ∷ [] else [])) → later ≡ earlier found next
    → earlier found (first_of (breaches_at S1 (redeclared (take i lines) (drop i lines))))
    ≡ earlier later (first_of (breaches_at S1 (redeclared (take (i + 1) lines) (drop (i + 1) lines))))
found-more lines i d keys added found next later h e same a here both =
    let known : not added ≡ is_declared d.name.0 (take i lines) = ap not a ∙ not-not (list_any (nat_eq d.name.0) keys) ∙ same d.name.0 in
    let first : next ≡ first_of (breaches_at S1 (if is_declared d.name.0 (take i lines) then d.place ∷ [] else [])) =
    here ∙ ap (λ b. first_of (breaches_at S1 (if b then d.place ∷ [] else []))) known in
    let rest : Option Breach = first_of (breaches_at S1 (redeclared (take (i + 1) lines) (drop (i + 1) lines))) in
    ap (earlier found) (redeclared-more lines i d h e ∙ ap (λ o. earlier o rest) (sym first)) ∙ sym (earlier-assoc found next rest) ∙ ap (λ o. earlier o rest) (sym both)

-- one of these trees is this variable alone
abbrev pub holds : ℕ → List Tree → Bool
holds v trees = list_any (λ a. option_map_or (nat_eq v) (variable_of a) false) trees

-- with one more tree
pub holds-more : (v : ℕ) (trees : List Tree) (i : ℕ) (a : Tree) → i < length trees → a ≡ get_or trees i a
    → holds v (take (i + 1) trees) ≡ (holds v (take i trees) || option_map_or (nat_eq v) (variable_of a) false)
holds-more v trees i a h e =
    ap (holds v) (take_more trees i a h ∙ ap (λ x. take i trees ++ x ∷ []) (sym e))
    ∙ list_any-append (λ a. option_map_or (nat_eq v) (variable_of a) false) (take i trees) (a ∷ []) ∙ ap (λ b. holds v (take i trees) || b) (or-false (option_map_or (nat_eq v) (variable_of a) false))

-- the first place at which a test holds, one item on
position-cons : {A : Type 0} (p : A → Bool) (x : A) (xs : List A) → position p (x ∷ xs) ≡ (if p x then Some 0 else option_map suc (position p xs))
position-cons p x xs = of (p x) (position_or_len p xs) (length xs) where
  origin : Option ℕ
  origin = Some 0

  start : (m : ℕ) → (if nat_lt 0 (suc m) then origin else None) ≡ origin
  start m = grind (arith, nat_tests)

  down : (n m : ℕ) (b : Bool) → nat_lt n m ≡ b → (if nat_lt (1 + n) (suc m) then Some (1 + n) else None) ≡ option_map suc (if b then Some n else None)
  down n m true q = grind (arith, nat_tests)
  down n m false q = grind (arith, nat_tests)

  of : (b : Bool) (n m : ℕ) → (if nat_lt (if not b then 1 + n else 0) (suc m) then Some (if not b then 1 + n else 0) else None)
      ≡ (if b then Some 0 else option_map suc (if nat_lt n m then Some n else None))
  of true n m = start m
  of false n m = down n m (nat_lt n m) refl

-- and with one more item
position-push : {A : Type 0} (p : A → Bool) (xs : List A) (x : A) → position p (xs ++ x ∷ []) ≡ unless_seen (position p xs) (p x) (length xs)
position-push p [] x = position-cons p x []
position-push p (y ∷ xs) x =
    position-cons p y (xs ++ x ∷ []) ∙ ap (λ o. if p y then Some 0 else option_map suc o) (position-push p xs x)
    ∙ of (p y) (position p xs) (p x) (length xs) ∙ ap (λ o. unless_seen o (p x) (suc (length xs))) (sym (position-cons p y xs))
  where
    of : (b : Bool) (o : Option ℕ) (has : Bool) (n : ℕ) → (if b then Some 0 else option_map suc (unless_seen o has n))
        ≡ unless_seen (if b then Some 0 else option_map suc o) has (suc n)
    of true o has n = refl
    of false (Some k) has n = refl
    of false None true n = refl
    of false None false n = refl

-- the first head with a variable, with one more head
pub head_with-more : (v : ℕ) (goals : List Tree) (i : ℕ) (g : Tree) → i < length goals → g ≡ get_or goals i g
    → head_with v (take (i + 1) goals) ≡ unless_seen (head_with v (take i goals)) (has_whole v g) i
head_with-more v goals i g h e =
    ap (head_with v) (take_more goals i g h ∙ ap (λ x. take i goals ++ x ∷ []) (sym e))
    ∙ position-push (has_whole v) (take i goals) g ∙ ap (λ n. unless_seen (head_with v (take i goals)) (has_whole v g) n) (lengths goals i h)
  where
    lengths : (xs : List Tree) (i : ℕ) → i < length xs → length (take i xs) ≡ i
    lengths xs i h = length-take-le i xs (omega arith)
