-- Rules that are read are well formed.
use Rattle.std.proofs.Common.{◌≡◌, ◌∙◌, ◌+◌, ◌-◌, ◌≤◌, ◌<◌, ℕ, suc, Bool, true, false, cond, not, ◌||◌, List, [], ◌∷◌, ◌++◌, Option, Some, None, IfSome, All, length, map, drop, ap, sym, refl, subst, arith, length-append, length-drop}
use Rattle.std.specs.List.{list_any, position_or_len}
use Rattle.std.proofs.lemmas.List.{map-append, length-map}
use Rattle.std.proofs.lemmas.List.Elements.{All-nil, All-cons, All-append, All-map, All-head, All-tail}
use Rattle.lp_parser.specs.declared.ast.AstTerm.{AstTerm}
use Rattle.lp_parser.specs.declared.ast.Word.{Word}
use Rattle.lp_parser.specs.declared.ast.WordPair.{WordPair}
use Rattle.lp_parser.specs.declared.ast.RuleHead.{RuleHead}
use Rattle.lp_parser.specs.declared.ast.Rule.{Rule}
use Rattle.ref_terms.specs.declared.sym.Sym.{Sym}
use Rattle.ref_terms.specs.declared.tree.Tree.{Tree}
use Rattle.lp_resolve.specs.declared.variable.Variable.{Variable}
use Rattle.lp_resolve.specs.declared.program.PairTree.{PairTree}
use Rattle.lp_resolve.specs.declared.placed.PlacedHead.{PlacedHead}
use Rattle.lp_resolve.specs.Variables.{Met, nothing_met, number_in, with_word, is_of, variable}
use Rattle.lp_resolve.specs.Symbols.{number_of}
use Rattle.lp_resolve.specs.Trees.{IsFormed}
use Rattle.lp_resolve.specs.Occurrences.{occurrences}
use Rattle.lp_resolve.specs.ProgramReading.{Read, read_all, read_option, read_variable, read_tree, read_head, read_pair, read_parts, rule_with, rule_of}
use Rattle.lp_resolve.specs.WellFormed.{IsHeadFormed, IsPairFormed, IsFormedOver, IsRuleFormed}
use Rattle.lp_resolve.proofs.FormedLemmas.{formed-more}
use Rattle.lp_resolve.proofs.ReadingFacts.{reading-formed, reading-grows}
use Rattle.lp_resolve.proofs.PlacesFacts.{reading-places}

-- a way to read, whose values hold of the variables that were met, and of more
pub record IsSound {A B : Type 0} (read : Met → A → Read B) (P : ℕ → B → Type 0) : Type 0 where
  pub grows : (met : Met) (x : A) → length met.names ≤ length (read met x).met.names
  pub holds : (met : Met) (x : A) → P (length (read met x).met.names) (read met x).value
  pub more : (m n : ℕ) → m ≤ n → (b : B) → P m b → P n b

module _ {A B : Type 0} (read : Met → A → Read B) (P : ℕ → B → Type 0) (sound : IsSound read P) where
  -- no variable is lost
  pub read_all-grows : (met : Met) (xs : List A) → length met.names ≤ length (read_all read met xs).met.names
  read_all-grows met [] = omega arith
  read_all-grows met (x ∷ xs) = omega (arith, sound.grows met x, read_all-grows (read met x).met xs)

  -- each value holds at the end
  pub read_all-holds : (met : Met) (xs : List A) → All (P (length (read_all read met xs).met.names)) (read_all read met xs).value
  read_all-holds met [] = All-nil (P (length met.names))
  read_all-holds met (x ∷ xs) =
      let n = length (read_all read (read met x).met xs).met.names in
      All-cons (P n) (read met x).value (read_all read (read met x).met xs).value
      (sound.more (length (read met x).met.names) n (read_all-grows (read met x).met xs) (read met x).value (sound.holds met x))
      (read_all-holds (read met x).met xs)

  -- of more variables too
  pub all-more : (m n : ℕ) → m ≤ n → (bs : List B) → All (P m) bs → All (P n) bs
  all-more m n le bs all = λ k d within. sound.more m n le _ (all k d within)

  -- a missing value
  pub read_option-grows : (met : Met) (o : Option A) → length met.names ≤ length (read_option read met o).met.names
  read_option-grows met None = omega arith
  read_option-grows met (Some x) = sound.grows met x

  pub read_option-holds : (met : Met) (o : Option A) → IfSome (read_option read met o).value (P (length (read_option read met o).met.names))
  read_option-holds met None = tt
  read_option-holds met (Some x) = sound.holds met x

  pub option-more : (m n : ℕ) → m ≤ n → (o : Option B) → IfSome o (P m) → IfSome o (P n)
  option-more m n le None h = tt
  option-more m n le (Some b) h = sound.more m n le b h

-- as many values as items
pub length-read_all : {A B : Type 0} (read : Met → A → Read B) (met : Met) (xs : List A) → length (read_all read met xs).value ≡ length xs
length-read_all read met [] = refl
length-read_all read met (x ∷ xs) = ap suc (length-read_all read (read met x).met xs)

-- a place before the end, where one is there
place-step : (m n : ℕ) (b : Bool) (any : Bool) → (b || any) ≡ true → (any ≡ true → m < n) → cond (not b) (1 + m) 0 < suc n
place-step m n true any e rest = omega arith
place-step m n false any e rest = let lt = rest e in omega arith

place-below : {A : Type 0} (p : A → Bool) (xs : List A) → list_any p xs ≡ true → position_or_len p xs < length xs
place-below p [] any = absurd (cc)
place-below p (x ∷ xs) any = place-step (position_or_len p xs) (length xs) (p x) (list_any p xs) any (λ e. place-below p xs e)

place-within : {A : Type 0} (p : A → Bool) (xs : List A) → position_or_len p xs ≤ length xs
place-within p [] = omega arith
place-within p (x ∷ xs) = at (p x) (place-within p xs) where
  at : (b : Bool) → position_or_len p xs ≤ length xs → cond (not b) (1 + position_or_len p xs) 0 ≤ suc (length xs)
  at true le = omega arith
  at false le = omega arith

-- the variables with a word's: its number is below their count, and none is lost
number-below : (names : List Variable) (word : ℕ) → (number_in names word < length (with_word word names)) × (length names ≤ length (with_word word names))
number-below names word = at (list_any (is_of word) names) refl where
  at : (b : Bool) → list_any (is_of word) names ≡ b → (number_in names word < length (with_word word names)) × (length names ≤ length (with_word word names))
  at true e = rw e (place-below (is_of word) names e, omega arith)
  at false e =
      let le = place-within (is_of word) names in
      let more = length-append names (variable word false ∷ []) in
      rw e (omega arith, omega arith)

-- variables outside terms
variable-sound : (table : List (List ℕ)) → IsSound (read_variable table) (λ n v. v < n)
variable-sound table = record {
  grows = λ met w. (number-below met.names (number_of table w.text)).1;
  holds = λ met w. (number-below met.names (number_of table w.text)).0;
  more = λ m n le v lt. omega arith;
}

-- terms
tree-sound : (table : List (List ℕ)) → IsSound (read_tree table) (λ n t. IsFormed n 0 t)
tree-sound table = record {
  grows = λ met t. reading-grows table t met;
  holds = λ met t. reading-formed table t met;
  more = λ m n le t f. formed-more m n 0 le t f;
}

-- a pair
pair-sound : (table : List (List ℕ)) → IsSound (read_pair table) IsPairFormed
pair-sound table = record {
  grows = λ met p.
      omega (arith, (number-below met.names (number_of table p.left.text)).1, (number-below (with_word (number_of table p.left.text) met.names) (number_of table p.right.text)).1);
  holds = λ met p.
      let first = number-below met.names (number_of table p.left.text) in
      let second = number-below (with_word (number_of table p.left.text) met.names) (number_of table p.right.text) in
      record { left = omega (arith, first.0, second.1); right = second.0 };
  more = λ m n le p f. let l = f.left in let r = f.right in record { left = omega arith; right = omega arith };
}

-- a head with as many places as its goal has variables at their places
pub record IsPlacedFormed (n : ℕ) (h : PlacedHead) : Type 0 where
  pub formed : IsHeadFormed n h.head
  pub places : length h.vars ≡ length (occurrences h.head.goal)

-- a head
head-sound : (table : List (List ℕ)) → IsSound (read_head table) IsPlacedFormed
head-sound table = record {
  grows = λ met h.
      let context = read_option (read_variable table) met h.context in
      omega (arith, read_option-grows (read_variable table) (λ n v. v < n) (variable-sound table) met h.context, reading-grows table h.goal context.met);
  holds = λ met h.
      let context = read_option (read_variable table) met h.context in
      let n = length (read_tree table context.met h.goal).met.names in
      record {
        formed = record {
          context = option-more (read_variable table) (λ k v. v < k) (variable-sound table) (length context.met.names) n (reading-grows table h.goal context.met) context.value
              (read_option-holds (read_variable table) (λ k v. v < k) (variable-sound table) met h.context);
          goal = reading-formed table h.goal context.met;
        };
        places = simp length-drop (omega (arith, reading-places table h.goal context.met));
      };
  more = λ m n le h f. record {
    formed = record {
      context = option-more (read_variable table) (λ k v. v < k) (variable-sound table) m n le h.head.context f.formed.context;
      goal = formed-more m n 0 le h.head.goal f.formed.goal;
    };
    places = f.places;
  };
}

-- as many places as occurrences, head by head
var_places-of : (n : ℕ) (hs : List PlacedHead) → All (IsPlacedFormed n) hs
    → map (λ ps. length ps) (map (λ h. h.vars) hs) ≡ map (λ t. length (occurrences t)) (map (λ h. h.goal) (map (λ h. h.head) hs))
var_places-of n [] all = refl
var_places-of n (h ∷ hs) all =
    let here = (All-head (IsPlacedFormed n) h hs all).places in
    ap (λ k. k ∷ map (λ ps. length ps) (map (λ h. h.vars) hs)) here
    ∙ ap (λ ks. length (occurrences h.head.goal) ∷ ks) (var_places-of n hs (All-tail (IsPlacedFormed n) h hs all))

-- a rule that was read is well formed
pub rule_of-formed : (table : List (List ℕ)) (names : List Sym) (r : Rule) → IsRuleFormed (rule_of table names r)
rule_of-formed table names r =
    let kept = read_all (read_head table) nothing_met r.kept in
    let removed = read_all (read_head table) kept.met r.removed in
    let pairs = read_all (read_pair table) removed.met r.pairs in
    let tests = read_all (read_tree table) pairs.met r.tests in
    let body = read_option (read_tree table) tests.met r.body in
    let n = length body.met.names in
    let le1 : length kept.met.names ≤ length removed.met.names = read_all-grows (read_head table) IsPlacedFormed (head-sound table) kept.met r.removed in
    let le2 : length removed.met.names ≤ length pairs.met.names = read_all-grows (read_pair table) IsPairFormed (pair-sound table) removed.met r.pairs in
    let le3 : length pairs.met.names ≤ length tests.met.names = read_all-grows (read_tree table) (λ n t. IsFormed n 0 t) (tree-sound table) pairs.met r.tests in
    let le4 : length tests.met.names ≤ n = read_option-grows (read_tree table) (λ n t. IsFormed n 0 t) (tree-sound table) tests.met r.body in
    let from_kept : length kept.met.names ≤ n = omega arith in
    let from_removed : length removed.met.names ≤ n = omega arith in
    let from_pairs : length pairs.met.names ≤ n = omega arith in
    let kept_all = all-more (read_head table) IsPlacedFormed (head-sound table) (length kept.met.names) n from_kept kept.value
    (read_all-holds (read_head table) IsPlacedFormed (head-sound table) nothing_met r.kept) in
    let removed_all = all-more (read_head table) IsPlacedFormed (head-sound table) (length removed.met.names) n from_removed removed.value
    (read_all-holds (read_head table) IsPlacedFormed (head-sound table) kept.met r.removed) in
    record {
      heads = All-append (IsHeadFormed n) (map (λ h. h.head) kept.value) (map (λ h. h.head) removed.value)
          (All-map (IsHeadFormed n) (λ h. h.head) kept.value (λ k d w. (kept_all k d w).formed))
          (All-map (IsHeadFormed n) (λ h. h.head) removed.value (λ k d w. (removed_all k d w).formed));
      pairs = all-more (read_pair table) IsPairFormed (pair-sound table) (length pairs.met.names) n from_pairs pairs.value
          (read_all-holds (read_pair table) IsPairFormed (pair-sound table) removed.met r.pairs);
      tests = all-more (read_tree table) (λ n t. IsFormed n 0 t) (tree-sound table) (length tests.met.names) n le4 tests.value
          (read_all-holds (read_tree table) (λ n t. IsFormed n 0 t) (tree-sound table) pairs.met r.tests);
      body = read_option-holds (read_tree table) (λ n t. IsFormed n 0 t) (tree-sound table) tests.met r.body;
      head_places = simp (length-append, length-map) refl;
      var_places =
          map-append (λ ps. length ps) (map (λ h. h.vars) kept.value) (map (λ h. h.vars) removed.value)
          ∙ ap (λ ks. ks ++ map (λ ps. length ps) (map (λ h. h.vars) removed.value)) (var_places-of n kept.value kept_all)
          ∙ ap (λ ks. map (λ t. length (occurrences t)) (map (λ h. h.goal) (map (λ h. h.head) kept.value)) ++ ks) (var_places-of n removed.value removed_all)
          ∙ sym (map-append (λ t. length (occurrences t)) (map (λ h. h.goal) (map (λ h. h.head) kept.value)) (map (λ h. h.goal) (map (λ h. h.head) removed.value)))
          ∙ ap (map (λ t. length (occurrences t))) (sym (map-append (λ h. h.goal) (map (λ h. h.head) kept.value) (map (λ h. h.head) removed.value)));
      pair_places = simp length-map (sym (length-read_all (read_pair table) removed.met r.pairs));
      test_places = simp length-map (sym (length-read_all (read_tree table) pairs.met r.tests));
    }
