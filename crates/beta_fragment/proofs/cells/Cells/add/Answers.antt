use Rattle.std.proofs.Common.{[], ◌∷◌, List, length, reverse, sym, ap, ◌∙◌, subst, arith}
use Rattle.std.proofs.lemmas.List.{reverse-append, length-reverse}
use Rattle.beta_fragment.specs.declared.cells.Cell.{Cell}
use Rattle.beta_fragment.specs.inside.Cells.{terms_of, HasParts, AllHaveParts}
use Rattle.beta_fragment.proofs.KeptLemmas.{terms-length}
use Rattle.beta_fragment.proofs.cells.Cells.add.Goals as goal

pub invariant_of-self-2 : goal.invariant_of-self-2
invariant_of-self-2 c =
    let cells = ap reverse c.in_ok-push.ensures.items ∙ reverse-append c.self.inside.cells.items (c.args.cell ∷ []) in
    subst AllHaveParts (sym cells) (
      subst (λ n. HasParts n c.args.cell) (ap (λ (cs : List Cell). length (terms_of cs)) (sym c.self.view_is) ∙ terms-length (reverse c.self.inside.cells.items)) c.requires,
      c.self.invariant,
    )

pub returns-clause-number : goal.returns-clause-number
returns-clause-number c =
    let count = terms-length (reverse c.self.inside.cells.items) in
    let same = ap (λ (cs : List Cell). length (terms_of cs)) c.self.view_is in
    let long = length-reverse c.self.inside.cells.items in
    omega (arith, c.len-i.ensures, c.self.inside.cells.ok, count, same, long)
