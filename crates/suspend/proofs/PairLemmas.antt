-- Pairs that are the same.
use Rattle.std.proofs.Common.{◌≡◌, ℕ, ◌<◌, Bool, true, false, ◌&&◌, nat_eq, List, [], ◌∷◌, ◌++◌, length, Option, Some, None, refl, ap}
use Rattle.std.specs.Prelude.{IsSome, ◌↔◌, option_to_list}
use Rattle.std.specs.Cmp.Lexicographic.{pointwise}
use Rattle.ref_terms.specs.search.RuleInstance.{numbers_eq}
use Rattle.suspend.specs.declared.constraint.Fired.{Fired}
use Rattle.suspend.specs.contracts.constraint.FiredPartialEq.TheImpl.{eq-value}

equal-numbers : (xs ys : List ℕ) → pointwise nat_eq xs ys ≡ numbers_eq xs ys
equal-numbers [] [] = refl
equal-numbers [] (y ∷ ys) = refl
equal-numbers (x ∷ xs) [] = refl
equal-numbers (x ∷ xs) (y ∷ ys) = ap (λ (b : Bool). nat_eq x y && b) (equal-numbers xs ys)

-- what is derived is what the definition says
pub pair-is : (f g : Fired) → eq-value.it f g ≡ (nat_eq f.rule g.rule && numbers_eq f.constraints.items g.constraints.items)
pair-is f g = ap (λ (b : Bool). nat_eq f.rule g.rule && b) (equal-numbers f.constraints.items g.constraints.items)

-- what was taken out stood last
pub last-out : (old new : List Fired) (o : Option Fired) → 0 < length old → (IsSome o ↔ (0 < length old)) → old ≡ new ++ option_to_list o → (last : Fired) × (old ≡ new ++ last ∷ [])
last-out old new None low found e = absurd (let z : false ≡ true = found.1 low in cc)
last-out old new (Some last) low found e = (last, e)
