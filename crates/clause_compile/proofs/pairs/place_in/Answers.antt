use Rattle.std.proofs.Common.{◌≡◌, ◌∙◌, ℕ, ◌+◌, List, length, Option, Some, None, sym, ap}
use Rattle.lp_resolve.specs.declared.program.HeadTree.{HeadTree}
use Rattle.lp_resolve.specs.Plain.{whole_place}
use Rattle.clause_compile.proofs.PairLemmas.{goals, place-kept, place-removed}
use Rattle.clause_compile.proofs.pairs.place_in.Goals as goal

pub returns-in-Some : goal.returns-in-Some
returns-in-Some c =
    let r = c.args.rule.now in
    let found : whole_place c.args.variable 0 (goals r.kept) ≡ Some c.in-Some.place =
    ap (λ (hs : List HeadTree). whole_place c.args.variable 0 (goals hs)) (sym c.as_slice-kept.ensures) ∙ sym c.place_among.ensures.place ∙ c.in-Some.is in
    sym (place-kept c.args.variable r.kept r.removed c.in-Some.place found)

pub returns-in-Some-place_among : goal.returns-in-Some-place_among
returns-in-Some-place_among c =
    let r = c.args.rule.now in
    let none : whole_place c.args.variable 0 (goals r.kept) ≡ None =
    ap (λ (hs : List HeadTree). whole_place c.args.variable 0 (goals hs)) (sym c.as_slice-kept.ensures) ∙ sym c.place_among.ensures.place ∙ c.in-None.is in
    let place : Option (ℕ × ℕ) = Some (c.in-Some-place_among.head, c.in-Some-place_among.arg) in
    let found : whole_place c.args.variable 0 (goals r.removed) ≡ place =
    ap (λ (hs : List HeadTree). whole_place c.args.variable 0 (goals hs)) (sym c.as_slice-removed.ensures) ∙ sym c.place_among-in-None.ensures.place ∙ c.in-Some-place_among.is in
    let after : List HeadTree → Option (ℕ × ℕ) = λ hs. Some (length hs + c.in-Some-place_among.head, c.in-Some-place_among.arg) in
    ap after c.as_slice-kept.ensures ∙ sym (place-removed c.args.variable r.kept r.removed place none found)

pub returns-in-None-place_among : goal.returns-in-None-place_among
returns-in-None-place_among c =
    let r = c.args.rule.now in
    let none : whole_place c.args.variable 0 (goals r.kept) ≡ None =
    ap (λ (hs : List HeadTree). whole_place c.args.variable 0 (goals hs)) (sym c.as_slice-kept.ensures) ∙ sym c.place_among.ensures.place ∙ c.in-None.is in
    let neither : whole_place c.args.variable 0 (goals r.removed) ≡ None =
    ap (λ (hs : List HeadTree). whole_place c.args.variable 0 (goals hs)) (sym c.as_slice-removed.ensures) ∙ sym c.place_among-in-None.ensures.place ∙ c.in-None-place_among.is in
    sym (place-removed c.args.variable r.kept r.removed None none neither)
