-- What a machine that reads exactly a language answers: the outcome is that of the language.
use Rattle.std.proofs.Common.{◌≡◌, ℕ, ◌+◌, ◌<◌, ◌≤◌, ◌⊎◌, inl, inr, List, [], ◌∷◌, ◌++◌, length, take, refl, sym, ap, subst, ◌∙◌, append_assoc, append-nil, arith, if◌then◌else◌, Option, Some, None, sum}
use Rattle.std.proofs.lemmas.Bool.Decides.{leb_tells}
use Rattle.std.proofs.lemmas.List.{length-append}
use Rattle.std.proofs.Math.Seq.{take-append_seam}
use Rattle.lp_parser.specs.declared.error.GrammarRule.{GrammarRule}
use Rattle.lp_parser.specs.declared.lexeme.Lexeme.{Lexeme}
use Rattle.lp_parser.specs.Nesting.{Nesting, flat, nested, nested_all, depth, IsShallow}
use Rattle.lp_parser.specs.Refusal.{Viable, rule_after, rule_behind, IsUnexpected, at_lexeme, at_end, IsDeep}
use Rattle.lp_parser.specs.Reading.{Outcome, Accepted, Unexpected, Deep, Reader, Going, Stopped, next, ended, read, first}

-- where a machine with these steps comes over the lexemes
abbrev pub run : {Z : Type 0} → (Z → Lexeme → Option Z) → Option Z → List Lexeme → Option Z
run f None u = None
run f (Some z) [] = Some z
run f (Some z) (c ∷ u) = run f (f z c) u

-- the tree where the machine is over
abbrev pub tree_of : {Z A : Type 0} → (Z → Option A) → Option Z → Option A
tree_of g None = None
tree_of g (Some z) = g z

pub run_append : {Z : Type 0} (f : Z → Lexeme → Option Z) (o : Option Z) (u v : List Lexeme) → run f o (u ++ v) ≡ run f (run f o u) v
run_append f None u v = refl
run_append f (Some z) [] v = refl
run_append f (Some z) (c ∷ u) v = run_append f (f z c) u v

run_one : {Z : Type 0} (f : Z → Lexeme → Option Z) (z : Z) (c : Lexeme) (o : Option Z) → f z c ≡ o → run f (Some z) (c ∷ []) ≡ o
run_one f z c None e = ap (λ y. run f y []) e
run_one f z c (Some y) e = ap (λ y. run f y []) e

nested_append : (n : Nesting) (u v : List Lexeme) → nested_all n (u ++ v) ≡ nested_all (nested_all n u) v
nested_append n [] v = refl
nested_append n (c ∷ u) v = nested_append (nested n c) u v

rule_append : (r : GrammarRule) (u v : List Lexeme) → rule_behind r (u ++ v) ≡ rule_behind (rule_behind r u) v
rule_append r [] v = refl
rule_append r (c ∷ u) v = rule_append (rule_after r c) u v

-- The machine f with the trees g reads exactly the language from the state z.
pub record Reads {Z A : Type 0} (f : Z → Lexeme → Option Z) (g : Z → Option A) (z : Z) (language : List Lexeme → A → Type 0) : Type 0 where
  pub sound : (u : List Lexeme) (t : A) → tree_of g (run f (Some z) u) ≡ Some t → language u t
  pub complete : (u : List Lexeme) (t : A) → language u t → tree_of g (run f (Some z) u) ≡ Some t
  pub goes_on : (u : List Lexeme) (y : Z) → run f (Some z) u ≡ Some y → (others : List Lexeme) × (t : A) × (tree_of g (run f (Some y) others) ≡ Some t)

-- the lists that have a tree
abbrev pub Has : {A : Type 0} → (List Lexeme → A → Type 0) → List Lexeme → Type 0
Has {A} language u = (t : A) × language u t

-- What is answered.
pub data IsAnswer {A : Type 0} (language : List Lexeme → A → Type 0) (r : GrammarRule) (u : List Lexeme) : Outcome A → Type 0 where
  is_accepted : {t : A} → language u t → IsShallow u (length u) → IsAnswer language r u (Accepted t)
  is_unexpected : {i : ℕ} {q : GrammarRule} → IsUnexpected (Has language) r u i q → IsAnswer language r u (Unexpected i q)
  is_deep : {i : ℕ} → IsDeep (Has language) u i → IsAnswer language r u (Deep i)

le_split : (j i : ℕ) → j ≤ i + 1 → (j ≤ i) ⊎ (j ≡ i + 1)
le_split j i h = grind arith

zero_only : (j : ℕ) → j ≤ 0 → j ≡ 0
zero_only j h = omega arith

length_snoc : (u : List Lexeme) (c : Lexeme) → length (u ++ c ∷ []) ≡ length u + 1
length_snoc u c = length-append u (c ∷ [])

front_is : (pre v u : List Lexeme) → pre ++ v ≡ u → take (length pre) u ≡ pre
front_is pre v u e = ap (take (length pre)) (sym e) ∙ take-append_seam pre v

next_split : (pre v u : List Lexeme) (c : Lexeme) → pre ++ c ∷ v ≡ u → (pre ++ c ∷ []) ++ v ≡ u
next_split pre v u c e = append_assoc pre (c ∷ []) v ∙ e

next_front : (pre v u : List Lexeme) (c : Lexeme) → pre ++ c ∷ v ≡ u → take (length pre + 1) u ≡ pre ++ c ∷ []
next_front pre v u c e = ap (λ n. take n u) (sym (length_snoc pre c)) ∙ front_is (pre ++ c ∷ []) v u (next_split pre v u c e)

within : (pre v u : List Lexeme) (c : Lexeme) → pre ++ c ∷ v ≡ u → length pre < length u
within pre v u c e = let l : length u ≡ length pre + length (c ∷ v) = ap length (sym e) ∙ length-append pre (c ∷ v) in omega arith

whole_front : (pre u : List Lexeme) → pre ++ [] ≡ u → pre ≡ u
whole_front pre u e = sym (append-nil pre) ∙ e

module _ {Z A : Type 0} (f : Z → Lexeme → Option Z) (g : Z → Option A) (start : Z) (language : List Lexeme → A → Type 0) (r : GrammarRule) (m : Reads f g start language) where
  -- What leads to a state is viable.
  viable : (u : List Lexeme) (z : Z) → run f (Some start) u ≡ Some z → Viable (Has language) u
  viable u z e =
      let on = m.goes_on u z e in
      (on.0, (on.1, m.sound (u ++ on.0) on.1 (ap (tree_of g) (run_append f (Some start) u on.0 ∙ ap (λ o. run f o on.0) e) ∙ on.2)))

  -- What leads to none isn't.
  not_viable : (u : List Lexeme) → run f (Some start) u ≡ None → Viable (Has language) u → ⊥
  not_viable u e (others, (t, l)) =
      let all : tree_of g (run f (run f (Some start) u) others) ≡ Some t = ap (tree_of g) (sym (run_append f (Some start) u others)) ∙ m.complete (u ++ others) t l in
      let none : tree_of g (run f None others) ≡ Some t = rw e at all in cc

  -- the reader behind the front pre of the lexemes u
  record Behind (u pre v : List Lexeme) (b : Reader Z) : Type 0 where
    split : pre ++ v ≡ u
    index : b.index ≡ length pre
    state : run f (Some start) pre ≡ Some b.state
    nesting : nested_all flat pre ≡ b.nesting
    rule : rule_behind r pre ≡ b.rule
    shallow : IsShallow u (length pre)

  shallow_more : (u : List Lexeme) (i : ℕ) → IsShallow u i → depth (take (i + 1) u) ≤ 2000 → IsShallow u (i + 1)
  shallow_more u i below here j h =
      elim (le_split j i h) [
        | inl lower ↦ below j lower
        | inr same ↦ subst (λ z. depth (take z u) ≤ 2000) (sym same) here
      ]

  -- the end, where the machine has no tree, and where it has one
  at_last : (u pre : List Lexeme) (b : Reader Z) → Behind u pre [] b → (o : Option A) → g b.state ≡ o → IsAnswer language r u (ended b o)
  at_last u pre b a None e =
      let same : pre ≡ u = whole_front pre u a.split in
      let all : run f (Some start) u ≡ Some b.state = ap (run f (Some start)) (sym same) ∙ a.state in
      let length_is : b.index ≡ length u = a.index ∙ ap length same in
      is_unexpected (at_end length_is (viable u b.state all)
      (λ h. let tree : tree_of g (Some b.state) ≡ Some h.0 = ap (tree_of g) (sym all) ∙ m.complete u h.0 h.1 in cc)
      (subst (IsShallow u) (sym a.index) a.shallow) (sym a.rule ∙ ap (rule_behind r) same))
  at_last u pre b a (Some t) e =
      let same : pre ≡ u = whole_front pre u a.split in
      let all : run f (Some start) u ≡ Some b.state = ap (run f (Some start)) (sym same) ∙ a.state in
      is_accepted (m.sound u t (ap (tree_of g) all ∙ e)) (subst (λ z. IsShallow u (length z)) same a.shallow)

  module _ (u pre v : List Lexeme) (c : Lexeme) (b : Reader Z) (a : Behind u pre (c ∷ v) b) where
    at_front : take b.index u ≡ pre
    at_front = ap (λ n. take n u) a.index ∙ front_is pre (c ∷ v) u a.split

    at_next : take (b.index + 1) u ≡ pre ++ c ∷ []
    at_next = ap (λ n. take (n + 1) u) a.index ∙ next_front pre v u c a.split

    run_next : (o : Option Z) → f b.state c ≡ o → run f (Some start) (pre ++ c ∷ []) ≡ o
    run_next o e = run_append f (Some start) pre (c ∷ []) ∙ ap (λ y. run f y (c ∷ [])) a.state ∙ run_one f b.state c o e

    nested_next : nested_all flat (pre ++ c ∷ []) ≡ nested b.nesting c
    nested_next = nested_append flat pre (c ∷ []) ∙ ap (λ n. nested n c) a.nesting

    depth_next : depth (take (b.index + 1) u) ≡ sum (nested b.nesting c).frames
    depth_next = ap depth at_next ∙ ap (λ n. sum n.frames) nested_next

    index_within : b.index < length u
    index_within = let h : length pre < length u = within pre v u c a.split in subst (λ n. n < length u) (sym a.index) h

    -- no step
    no_step : f b.state c ≡ None → IsUnexpected (Has language) r u b.index b.rule
    no_step e =
        at_lexeme index_within (subst (Viable (Has language)) (sym at_front) (viable pre b.state a.state))
        (λ h. not_viable (pre ++ c ∷ []) (run_next None e) (subst (Viable (Has language)) at_next h))
        (subst (IsShallow u) (sym a.index) a.shallow) (sym a.rule ∙ ap (rule_behind r) (sym at_front))

    -- a step to where it is too deep
    too_deep : (y : Z) → f b.state c ≡ Some y → 2000 < sum (nested b.nesting c).frames → IsDeep (Has language) u b.index
    too_deep y e h = record {
      within = index_within;
      viable = subst (Viable (Has language)) (sym at_next) (viable (pre ++ c ∷ []) y (run_next (Some y) e));
      before = subst (IsShallow u) (sym a.index) a.shallow;
      passes = subst (λ n. 2000 < n) (sym depth_next) h;
    }

    -- a step
    one_step : (y : Z) → f b.state c ≡ Some y → sum (nested b.nesting c).frames ≤ 2000
        → Behind u (pre ++ c ∷ []) v (record { index = b.index + 1; state = y; nesting = nested b.nesting c; rule = rule_after b.rule c })
    one_step y e h = record {
      split = next_split pre v u c a.split;
      index = ap (λ n. n + 1) a.index ∙ sym (length_snoc pre c);
      state = run_next (Some y) e;
      nesting = nested_next;
      rule = rule_append r pre (c ∷ []) ∙ ap (λ q. rule_after q c) a.rule;
      shallow = subst (IsShallow u) (ap (λ n. n + 1) a.index ∙ sym (length_snoc pre c))
          (shallow_more u b.index (subst (IsShallow u) (sym a.index) a.shallow) (subst (λ n. n ≤ 2000) (sym depth_next) h));
    }

    stepped : ((pre' : List Lexeme) (b' : Reader Z) → Behind u pre' v b' → IsAnswer language r u (read f g (Going b') v))
        → (o : Option Z) → f b.state c ≡ o → IsAnswer language r u (read f g (next b c o) v)
    stepped k None e = is_unexpected (no_step e)
    stepped k (Some y) e =
        let b' : Reader Z = record { index = b.index + 1; state = y; nesting = nested b.nesting c; rule = rule_after b.rule c } in
        elim (leb_tells (sum (nested b.nesting c).frames) 2000) [
          | inl holds ↦ subst (λ t. IsAnswer language r u (read f g (if t then Going b' else Stopped (Deep b.index)) v)) (sym holds.0) (k (pre ++ c ∷ []) b' (one_step y e holds.1))
          | inr fails ↦ subst (λ t. IsAnswer language r u (read f g (if t then Going b' else Stopped (Deep b.index)) v)) (sym fails.0) (is_deep (too_deep y e fails.1))
        ]

  answer_from : (u v pre : List Lexeme) (b : Reader Z) → Behind u pre v b → IsAnswer language r u (read f g (Going b) v)
  answer_from u [] pre b a = at_last u pre b a (g b.state) refl
  answer_from u (c ∷ v) pre b a = stepped u pre v c b a (answer_from u v) (f b.state c) refl

  -- The outcome over the lexemes is the answer.
  pub answer : (u : List Lexeme) → IsAnswer language r u (read f g (Going (first start r)) u)
  answer u = answer_from u u [] (first start r) (record {
    split = refl;
    index = refl;
    state = refl;
    nesting = refl;
    rule = refl;
    shallow = λ j h. subst (λ z. depth (take z u) ≤ 2000) (sym (zero_only j h)) (omega arith);
  })
