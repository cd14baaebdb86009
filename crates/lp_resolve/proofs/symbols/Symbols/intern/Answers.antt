use Rattle.std.proofs.Common.{◌≡◌, ℕ, ◌<◌, ◌∙◌, List, length, map, subst, sym, ap, Vec, Global}
use Rattle.lp_resolve.specs.Symbols.{number_of, interned, reserved_names, Begins}
use Rattle.lp_resolve.proofs.SymbolPlaces.{interned-begins, interned-within}
use Rattle.lp_resolve.proofs.ReadingForms.{begins-twice}
use Rattle.lp_resolve.proofs.symbols.Symbols.intern.Goals as goal

pub returns-clause-within : goal.returns-clause-within
returns-clause-within c =
    let text = c.args.text.now in
    let old = map (λ (t : Vec ℕ Global). t.items) c.self.inside.texts.keys in
    let new = map (λ (t : Vec ℕ Global). t.items) c.put.new.texts.keys in
    let P : List (List ℕ) → Type 0 = λ table. number_of table text < length table in
    let Q : ℕ → Type 0 = λ n. n < length new in
    subst Q (sym c.in_ok-number.ensures.number) (subst P (sym c.in_ok-number.ensures.interned) (interned-within old text))

pub returns-clause-begins : goal.returns-clause-begins
returns-clause-begins c =
    let text = c.args.text.now in
    let new = map (λ (t : Vec ℕ Global). t.items) c.put.new.texts.keys in
    let is : new ≡ interned c.args.self.now text = c.in_ok-number.ensures.interned ∙ ap (λ (t : List (List ℕ)). interned t text) c.self.view_is in
    subst (λ (t : List (List ℕ)). Begins c.args.self.now t) (sym is) (interned-begins c.args.self.now text)

pub invariant_of-self-2 : goal.invariant_of-self-2
invariant_of-self-2 c =
    let old = map (λ (t : Vec ℕ Global). t.items) c.self.inside.texts.keys in
    let new = map (λ (t : Vec ℕ Global). t.items) c.put.new.texts.keys in
    let grown = subst (λ (t : List (List ℕ)). Begins old t) (sym c.in_ok-number.ensures.interned) (interned-begins old c.args.text.now) in
    begins-twice reserved_names old new c.self.invariant grown
