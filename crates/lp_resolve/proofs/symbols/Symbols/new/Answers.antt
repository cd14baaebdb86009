use Rattle.std.proofs.Common.{◌≡◌, ◌∙◌, ℕ, List, [], ◌∷◌, length, map, subst, sym, ap, refl, arith, Vec, Global}
use Rattle.lp_resolve.specs.Symbols.{reserved_names, interned_all, Begins}
use Rattle.lp_resolve.proofs.ReadingForms.{begins-same}
use Rattle.lp_resolve.proofs.symbols.Symbols.new.Goals as goal

-- no key has no text
no-texts : {A B : Type 0} (f : A → B) (xs : List A) → length xs ≡ 0 → map f xs ≡ []
no-texts f [] none = refl
no-texts f (x ∷ xs) none = absurd (omega arith)

pub invariant_of-result : goal.invariant_of-result
invariant_of-result c =
    let f = λ (text : Vec ℕ Global). text.items in
    let none : map f c.new-texts.result.keys ≡ [] = no-texts f c.new-texts.result.keys c.new-texts.ensures.len in
    let is : map f c.put_all.new.texts.keys ≡ reserved_names = c.in_ok-put_all.ensures ∙ ap (λ (t : List (List ℕ)). interned_all t reserved_names) none in
    subst (λ (table : List (List ℕ)). Begins reserved_names table) (sym is) (begins-same reserved_names)
