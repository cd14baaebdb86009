-- What the loops over the lexemes know.
use Rattle.std.proofs.Common.{◌≡◌, ℕ, zero, suc, ◌+◌, ◌<◌, ◌≤◌, inl, inr, List, [], ◌∷◌, map, length, drop, sum, slice_get, refl, sym, ap, ◌∙◌, arith, if◌then◌else◌, Option, Some, None, option_map}
use Rattle.std.proofs.lemmas.Bool.Decides.{leb_tells}
use Rattle.std.proofs.lemmas.Option.{same_Some}
use Rattle.lp_parser.specs.declared.error.GrammarRule.{GrammarRule}
use Rattle.lp_parser.specs.declared.error.GrammarRule.TheVariants.{Query}
use Rattle.lp_parser.specs.declared.lexeme.Lexeme.{Lexeme}
use Rattle.lp_parser.specs.declared.lexeme.Lexeme.TheVariants as lexeme
use Rattle.lp_parser.specs.Nesting.{Nesting, flat, nested}
use Rattle.lp_parser.specs.Refusal.{rule_after}
use Rattle.lp_parser.specs.Reading.{Unexpected, Deep, Reader, Going, Stopped, onward, next, ended, read, first}

-- The lexeme at an index begins what is left from there.
pub at_index : {A B : Type 0} (f : A → B) (ts : List A) (i : ℕ) (c : B) → option_map f (slice_get ts i) ≡ Some c → drop i (map f ts) ≡ c ∷ drop (i + 1) (map f ts)
at_index f [] i c e = absurd cc
at_index f (t ∷ ts) zero c e = ap (λ z. z ∷ map f ts) (same_Some _ _ e)
at_index f (t ∷ ts) (suc i) c e =
    let same : suc i + 1 ≡ suc (i + 1) = omega arith in
    at_index f ts i c e ∙ ap (λ n. c ∷ drop n (f t ∷ map f ts)) (sym same)

-- Nothing is left behind the last one.
pub nothing_left : {A B : Type 0} (f : A → B) (ts : List A) (i : ℕ) → length ts ≤ i → drop i (map f ts) ≡ []
nothing_left f [] zero h = refl
nothing_left f [] (suc i) h = refl
nothing_left f (t ∷ ts) zero h = absurd (omega (arith, h))
nothing_left f (t ∷ ts) (suc i) h = nothing_left f ts i (omega (arith, h))

-- a reader behind i lexemes
abbrev pub reader : {Z : Type 0} → ℕ → Z → Nesting → GrammarRule → Reader Z
reader i z n r = record { index = i; state = z; nesting = n; rule = r }

-- The outcome over u is that from the reader behind i lexemes over what is left.
pub record IsBehind {Z A : Type 0} (f : Z → Lexeme → Option Z) (g : Z → Option A) (z0 : Z) (r0 : GrammarRule) (u : List Lexeme) (i : ℕ) (z : Z) (n : Nesting) (r : GrammarRule) : Type 0 where
  pub rest : read f g (Going (first z0 r0)) u ≡ read f g (Going (reader i z n r)) (drop i u)
  pub shallow : sum n.frames ≤ 2000

pub begins : {Z A : Type 0} (f : Z → Lexeme → Option Z) (g : Z → Option A) (z : Z) (r : GrammarRule) (u : List Lexeme) → IsBehind f g z r u 0 z flat r
begins f g z r u = record { rest = refl; shallow = omega arith }

module _ {Z A : Type 0} (f : Z → Lexeme → Option Z) (g : Z → Option A) (z0 : Z) (r0 : GrammarRule) (u : List Lexeme) (i : ℕ) (z : Z) (n : Nesting) (r : GrammarRule) (b : IsBehind f g z0 r0 u i z n r) where
  -- the end
  pub at_end : drop i u ≡ [] → read f g (Going (first z0 r0)) u ≡ ended (reader i z n r) (g z)
  at_end e = b.rest ∙ ap (read f g (Going (reader i z n r))) e

  module _ (c : Lexeme) (e : drop i u ≡ c ∷ drop (i + 1) u) where
    -- no step
    pub no_step : f z c ≡ None → read f g (Going (first z0 r0)) u ≡ Unexpected i r
    no_step s = b.rest ∙ ap (read f g (Going (reader i z n r))) e ∙ ap (λ o. read f g (next (reader i z n r) c o) (drop (i + 1) u)) s

    stepped : (z' : Z) → f z c ≡ Some z' → read f g (Going (first z0 r0)) u ≡ read f g (onward (reader i z n r) (nested n c) (rule_after r c) z') (drop (i + 1) u)
    stepped z' s = b.rest ∙ ap (read f g (Going (reader i z n r))) e ∙ ap (λ o. read f g (next (reader i z n r) c o) (drop (i + 1) u)) s

    -- nested too deep
    pub too_deep : (z' : Z) → f z c ≡ Some z' → 2000 < sum (nested n c).frames → read f g (Going (first z0 r0)) u ≡ Deep i
    too_deep z' s h =
        elim (leb_tells (sum (nested n c).frames) 2000) [
          | inl holds ↦ absurd (omega (arith, h, holds.1))
          | inr fails ↦ stepped z' s ∙ ap (λ k. read f g (if k then Going (reader (i + 1) z' (nested n c) (rule_after r c)) else Stopped (Deep i)) (drop (i + 1) u)) fails.0
        ]

    -- one step
    pub one_step : (z' : Z) → f z c ≡ Some z' → sum (nested n c).frames ≤ 2000 → IsBehind f g z0 r0 u (i + 1) z' (nested n c) (rule_after r c)
    one_step z' s h =
        elim (leb_tells (sum (nested n c).frames) 2000) [
          | inl holds ↦ record {
            rest = stepped z' s ∙ ap (λ k. read f g (if k then Going (reader (i + 1) z' (nested n c) (rule_after r c)) else Stopped (Deep i)) (drop (i + 1) u)) holds.0;
            shallow = h;
          }
          | inr fails ↦ absurd (omega (arith, h, fails.1))
        ]

-- Everything in a query stands in a query.
pub in_a_query : (c : Lexeme) → rule_after Query c ≡ Query
in_a_query (lexeme.Word k x p) = refl
in_a_query (lexeme.Literal l p) = refl
in_a_query (lexeme.Quantifier q p) = refl
in_a_query (lexeme.Infix o p) = refl
in_a_query (lexeme.Lambda p) = refl
in_a_query (lexeme.OpenRound p) = refl
in_a_query (lexeme.OpenSquare p) = refl
in_a_query (lexeme.Closer c p) = refl
in_a_query (lexeme.Mark m p) = refl
