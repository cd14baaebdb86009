use Rattle.std.proofs.Common.{◌≡◌, ◌<◌, List, length, reverse, sym, ap, ◌∙◌, subst, arith}
use Rattle.std.proofs.lemmas.List.{length-reverse}
use Rattle.beta_fragment.specs.declared.cells.Cell.{Cell}
use Rattle.beta_fragment.specs.inside.Cells.{terms_of, term_at, cell_term, HasParts}
use Rattle.beta_fragment.proofs.KeptLemmas.{terms-length, parts-at, cell-at}
use Rattle.beta_fragment.proofs.cells.Cells.get.Goals as goal

pub index-requires : goal.index-requires
index-requires c =
    let count = terms-length (reverse c.self.inside.cells.items) in
    let same = ap (λ (cs : List Cell). length (terms_of cs)) c.self.view_is in
    let long = length-reverse c.self.inside.cells.items in
    omega (arith, c.requires, count, same, long)

pub returns-clause-parts : goal.returns-clause-parts
returns-clause-parts c =
    let count = terms-length (reverse c.self.inside.cells.items) in
    let same = ap (λ (cs : List Cell). length (terms_of cs)) c.self.view_is in
    let long = length-reverse c.self.inside.cells.items in
    let within : c.args.i < length c.self.inside.cells.items = omega (arith, c.requires, count, same, long) in
    subst (HasParts c.args.i) (sym c.index.ensures) (parts-at c.self.inside.cells.items c.args.i c.index.result.now within c.self.invariant)

pub returns-clause-term : goal.returns-clause-term
returns-clause-term c =
    let count = terms-length (reverse c.self.inside.cells.items) in
    let same = ap (λ (cs : List Cell). length (terms_of cs)) c.self.view_is in
    let long = length-reverse c.self.inside.cells.items in
    let within : c.args.i < length c.self.inside.cells.items = omega (arith, c.requires, count, same, long) in
    subst (λ (cs : List Cell). term_at (terms_of cs) c.args.i ≡ cell_term (terms_of cs) c.index.result.now) c.self.view_is
    (cell-at c.self.inside.cells.items c.args.i c.index.result.now within c.self.invariant ∙ ap (cell_term (terms_of (reverse c.self.inside.cells.items))) (sym c.index.ensures))
