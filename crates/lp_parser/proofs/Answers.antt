-- A list of lexemes has one answer.
use Rattle.std.proofs.Common.{◌≡◌, ℕ, ◌+◌, ◌<◌, ◌≤◌, ◌⊎◌, inl, inr, List, [], ◌++◌, length, take, drop, refl, sym, ap, subst, ◌∙◌, append_assoc, append-nil, arith, Option}
use Rattle.std.proofs.lemmas.Option.{same_Some}
use Rattle.std.proofs.lemmas.List.{take-take, take-append-drop}
use Rattle.lp_parser.specs.declared.error.GrammarRule.{GrammarRule}
use Rattle.lp_parser.specs.declared.lexeme.Lexeme.{Lexeme}
use Rattle.lp_parser.specs.Nesting.{depth, IsShallow}
use Rattle.lp_parser.specs.Refusal.{Viable, rule_behind, IsUnexpected, at_lexeme, at_end, IsDeep}
use Rattle.lp_parser.specs.Reading.{Outcome, Accepted, Unexpected, Deep, Going, read, first}
use Rattle.lp_parser.proofs.Outcomes.{Has, Reads, IsAnswer, is_accepted, is_unexpected, is_deep, answer}

compared : (i j : ℕ) → (i ≡ j) ⊎ ((i + 1 ≤ j) ⊎ (j + 1 ≤ i))
compared i j = grind arith

-- the index and the rule of a refusal
record Same (i j : ℕ) (q s : GrammarRule) : Type 0 where
  indices : i ≡ j
  rules : q ≡ s

module _ (accepted : List Lexeme → Type 0) where
  viable_front : (u v : List Lexeme) → Viable accepted (u ++ v) → Viable accepted u
  viable_front u v (others, p) = (v ++ others, subst accepted (append_assoc u v others) p)

  viable_take : (j i : ℕ) (u : List Lexeme) → j ≤ i → Viable accepted (take i u) → Viable accepted (take j u)
  viable_take j i u h v =
      subst (Viable accepted) (take-take j i u h) (viable_front (take j (take i u)) (drop j (take i u)) (subst (Viable accepted) (sym (take-append-drop j (take i u))) v))

  viable_whole : (j : ℕ) (u : List Lexeme) → Viable accepted u → Viable accepted (take j u)
  viable_whole j u v = viable_front (take j u) (drop j u) (subst (Viable accepted) (sym (take-append-drop j u)) v)

  accepted_viable : (u : List Lexeme) → accepted u → Viable accepted u
  accepted_viable u p = ([], subst accepted (sym (append-nil u)) p)

  one_unexpected : {r q s : GrammarRule} (u : List Lexeme) (i j : ℕ) → IsUnexpected accepted r u i q → IsUnexpected accepted r u j s → Same i j q s
  one_unexpected {r} u i j (at_lexeme h v n l e) (at_lexeme h' v' n' l' e') =
      elim (compared i j) [
        | inl same ↦ record { indices = same; rules = e ∙ ap (λ k. rule_behind r (take k u)) same ∙ sym e' }
        | inr (inl below) ↦ absurd (n (viable_take (i + 1) j u below v'))
        | inr (inr above) ↦ absurd (n' (viable_take (j + 1) i u above v))
      ]
  one_unexpected u i j (at_lexeme h v n l e) (at_end k v' n' l' e') = absurd (n (viable_whole (i + 1) u v'))
  one_unexpected u i j (at_end k v n l e) (at_lexeme h' v' n' l' e') = absurd (n' (viable_whole (j + 1) u v))
  one_unexpected u i j (at_end k v n l e) (at_end k' v' n' l' e') = record { indices = k ∙ sym k'; rules = e ∙ sym e' }

  passed : (u : List Lexeme) (i j : ℕ) → IsShallow u i → IsDeep accepted u j → j + 1 ≤ i → ⊥
  passed u i j l d h = let low : depth (take (j + 1) u) ≤ 2000 = l (j + 1) h in let high : 2000 < depth (take (j + 1) u) = d.passes in omega arith

  not_accepted : {r q : GrammarRule} (u : List Lexeme) (i : ℕ) → accepted u → IsUnexpected accepted r u i q → ⊥
  not_accepted u i p (at_lexeme h v n l e) = n (viable_whole (i + 1) u (accepted_viable u p))
  not_accepted u i p (at_end k v n l e) = n p

  not_deep : {r q : GrammarRule} (u : List Lexeme) (i j : ℕ) → IsUnexpected accepted r u i q → IsDeep accepted u j → ⊥
  not_deep u i j (at_lexeme h v n l e) d =
      elim (compared i j) [
        | inl same ↦ n (subst (λ k. Viable accepted (take (k + 1) u)) (sym same) d.viable)
        | inr (inl below) ↦ n (viable_take (i + 1) (j + 1) u (omega arith) d.viable)
        | inr (inr above) ↦ passed u i j l d above
      ]
  not_deep u i j (at_end k v n l e) d = let h : j < length u = d.within in passed u i j l d (omega arith)

  one_deep : (u : List Lexeme) (i j : ℕ) → IsDeep accepted u i → IsDeep accepted u j → i ≡ j
  one_deep u i j d d' =
      elim (compared i j) [
        | inl same ↦ same
        | inr (inl below) ↦ absurd (passed u j i d'.before d below)
        | inr (inr above) ↦ absurd (passed u i j d.before d' above)
      ]

within_whole : (accepted : List Lexeme → Type 0) (u : List Lexeme) (j : ℕ) → IsShallow u (length u) → IsDeep accepted u j → ⊥
within_whole accepted u j l d = let h : j < length u = d.within in passed accepted u (length u) j l d (omega arith)

module _ {Z A : Type 0} (f : Z → Lexeme → Option Z) (g : Z → Option A) (start : Z) (language : List Lexeme → A → Type 0) (r : GrammarRule) (m : Reads f g start language) where
  -- A list has one tree.
  pub one_tree : (u : List Lexeme) (s t : A) → language u s → language u t → s ≡ t
  one_tree u s t p q = same_Some _ _ (sym (m.complete u s p) ∙ m.complete u t q)

  -- .. and one answer.
  one_answer : (u : List Lexeme) (o p : Outcome A) → IsAnswer language r u o → IsAnswer language r u p → o ≡ p
  one_answer u o p (is_accepted {t} l s) (is_accepted {t = t'} l' s') = ap Accepted (one_tree u t t' l l')
  one_answer u o p (is_accepted {t} l s) (is_unexpected {i} x) = absurd (not_accepted (Has language) u i (t, l) x)
  one_answer u o p (is_accepted l s) (is_deep {i} d) = absurd (within_whole (Has language) u i s d)
  one_answer u o p (is_unexpected {i} x) (is_accepted {t} l s) = absurd (not_accepted (Has language) u i (t, l) x)
  one_answer u o p (is_unexpected {i} {q} x) (is_unexpected {i = j} {q = s} y) = let same = one_unexpected (Has language) u i j x y in ap (λ k. Unexpected k q) same.indices ∙ ap (Unexpected j) same.rules
  one_answer u o p (is_unexpected {i} x) (is_deep {i = j} d) = absurd (not_deep (Has language) u i j x d)
  one_answer u o p (is_deep {i} d) (is_accepted l s) = absurd (within_whole (Has language) u i s d)
  one_answer u o p (is_deep {i} d) (is_unexpected {i = j} x) = absurd (not_deep (Has language) u j i x d)
  one_answer u o p (is_deep {i} d) (is_deep {i = j} d') = ap Deep (one_deep (Has language) u i j d d')

  answered : (u : List Lexeme) (o : Outcome A) → read f g (Going (first start r)) u ≡ o → IsAnswer language r u o
  answered u o e = subst (IsAnswer language r u) e (answer f g start language r m u)

  is_answer : (u : List Lexeme) (o : Outcome A) → IsAnswer language r u o → read f g (Going (first start r)) u ≡ o
  is_answer u o a = one_answer u (read f g (Going (first start r)) u) o (answer f g start language r m u) a

  accepted_at : (u : List Lexeme) (t : A) (o : Outcome A) → IsAnswer language r u o → o ≡ Accepted t → language u t × IsShallow u (length u)
  accepted_at u t o (is_accepted {t = s} l h) e = let same : s ≡ t = cc in (subst (language u) same l, h)
  accepted_at u t o (is_unexpected x) e = absurd cc
  accepted_at u t o (is_deep d) e = absurd cc

  unexpected_at : (u : List Lexeme) (i : ℕ) (q : GrammarRule) (o : Outcome A) → IsAnswer language r u o → o ≡ Unexpected i q → IsUnexpected (Has language) r u i q
  unexpected_at u i q o (is_accepted l h) e = absurd cc
  unexpected_at u i q o (is_unexpected {i = j} {q = s} x) e =
      let index : j ≡ i = cc in
      let rule : s ≡ q = cc in
      subst (IsUnexpected (Has language) r u i) rule (subst (λ k. IsUnexpected (Has language) r u k s) index x)
  unexpected_at u i q o (is_deep d) e = absurd cc

  deep_at : (u : List Lexeme) (i : ℕ) (o : Outcome A) → IsAnswer language r u o → o ≡ Deep i → IsDeep (Has language) u i
  deep_at u i o (is_accepted l h) e = absurd cc
  deep_at u i o (is_unexpected x) e = absurd cc
  deep_at u i o (is_deep {i = j} d) e = let index : j ≡ i = cc in subst (IsDeep (Has language) u) index d

  -- What the outcome says is so, and what is so the outcome says.
  pub says_accepted : (u : List Lexeme) (t : A) → read f g (Going (first start r)) u ≡ Accepted t → language u t × IsShallow u (length u)
  says_accepted u t e = accepted_at u t (Accepted t) (answered u (Accepted t) e) refl

  pub accepted_said : (u : List Lexeme) (t : A) → language u t → IsShallow u (length u) → read f g (Going (first start r)) u ≡ Accepted t
  accepted_said u t l h = is_answer u (Accepted t) (is_accepted l h)

  pub says_unexpected : (u : List Lexeme) (i : ℕ) (q : GrammarRule) → read f g (Going (first start r)) u ≡ Unexpected i q → IsUnexpected (Has language) r u i q
  says_unexpected u i q e = unexpected_at u i q (Unexpected i q) (answered u (Unexpected i q) e) refl

  pub unexpected_said : (u : List Lexeme) (i : ℕ) (q : GrammarRule) → IsUnexpected (Has language) r u i q → read f g (Going (first start r)) u ≡ Unexpected i q
  unexpected_said u i q x = is_answer u (Unexpected i q) (is_unexpected x)

  pub says_deep : (u : List Lexeme) (i : ℕ) → read f g (Going (first start r)) u ≡ Deep i → IsDeep (Has language) u i
  says_deep u i e = deep_at u i (Deep i) (answered u (Deep i) e) refl

  pub deep_said : (u : List Lexeme) (i : ℕ) → IsDeep (Has language) u i → read f g (Going (first start r)) u ≡ Deep i
  deep_said u i d = is_answer u (Deep i) (is_deep d)
