-- The levels of binders, and the places of their words.
use Rattle.std.proofs.Common.{◌≡◌, ◌∙◌, ℕ, suc, ◌-◌, ◌<◌, Bool, true, false, cond, nat_eq, List, [], ◌∷◌, length, map, Option, Some, None, refl, ap, sym, arith}
use Rattle.std.specs.Prelude.{position}
use Rattle.std.specs.Option.{option_map}
use Rattle.lp_resolve.specs.declared.scope.Binder.{Binder}
use Rattle.lp_resolve.specs.inside.Scopes.{words_of, level_of}
use Rattle.lp_resolve.proofs.Positions.{later, position-cons}

-- a level is below the number of binders
pub level-within : (binders : List Binder) (w l : ℕ) → Some l ≡ level_of binders w → l < length binders
level-within [] w l e = absurd (let bad : Some l ≡ None = e in cc)
level-within (b ∷ outer) w l e = at (nat_eq w b.word) (level_of outer w) e (level-within outer w l) where
  at : (t : Bool) (o : Option ℕ) → Some l ≡ cond t (Some (length outer)) o → (Some l ≡ o → l < length outer) → l < suc (length outer)
  at true o e rest = let same : l ≡ length outer = cc in omega (arith, same)
  at false o e rest = omega (arith, rest e)

-- the place of a word, by its level
pub level-position : (binders : List Binder) (w : ℕ) → option_map (λ l. length binders - 1 - l) (level_of binders w) ≡ position (nat_eq w) (words_of binders)
level-position [] w = refl
level-position (b ∷ outer) w =
    at (nat_eq w b.word) (level_of outer w) (position (nat_eq w) (words_of outer)) (level-position outer w) (λ l e. level-within outer w l e)
    ∙ sym (position-cons (nat_eq w) b.word (words_of outer)) where
      at : (t : Bool) (o p : Option ℕ) → option_map (λ l. length outer - 1 - l) o ≡ p → ((l : ℕ) → Some l ≡ o → l < length outer)
          → option_map (λ l. suc (length outer) - 1 - l) (cond t (Some (length outer)) o) ≡ cond t (Some 0) (later p)
      at true o p same within = ap Some (omega arith)
      at false None p same within = ap later same
      at false (Some l) p same within = ap Some (omega (arith, within l refl)) ∙ ap later same
