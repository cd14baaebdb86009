use Rattle.std.proofs.Common.{◌∙◌, Bool, List, ap, sym, length, nat_eq}
use Rattle.std.specs.List.{flat_map}
use Rattle.indexmap.specs.IndexMap.{get}
use Rattle.decl_trees.specs.declared.rule.TypeRule.TheVariants.{Y3}
use Rattle.decl_trees.specs.declared.trees.TypeTree.{TypeTree}
use Rattle.decl_types.specs.TypeRules.{word_breaches, breaches_if, is_misused, first_of}
use Rattle.decl_types.proofs.Firsts.{first-two, next-first}
use Rattle.decl_types.proofs.Forms.{breaches-word, breaches-arrow}
use Rattle.decl_types.proofs.kinds.+words.Goals as goal

pub first_in_type-returns-in-Word : goal.first_in_type-returns-in-Word
first_in_type-returns-in-Word t c =
    let arrows = get nat_eq c.args.kinds.now in
    let w = c.in-Word.word in
    let args = c.in-Word.args in
    let place = c.in-Word.place in
    first-two (breaches_if (is_misused arrows w (length args)) Y3 place) (flat_map (word_breaches arrows) args) c.breach_if.result c.first_in_types.result c.earlier.result
    (c.breach_if.ensures ∙ ap (λ (b : Bool). first_of (breaches_if b Y3 place)) (c.is_misused-broken.ensures ∙ ap (is_misused arrows w) c.len.ensures))
    (c.first_in_types.ensures ∙ ap (λ (xs : List TypeTree). first_of (flat_map (word_breaches arrows) xs)) c.as_slice.ensures)
    c.earlier.ensures
    ∙ ap first_of (sym (ap (word_breaches arrows) c.in-Word.is ∙ breaches-word arrows w args place))

pub first_in_type-returns-in-Arrow : goal.first_in_type-returns-in-Arrow
first_in_type-returns-in-Arrow t c =
    let arrows = get nat_eq c.args.kinds.now in
    let a = c.in-Arrow.left in
    let b = c.in-Arrow.right in
    first-two (word_breaches arrows a) (word_breaches arrows b) c.first_in_type.result c.first_in_type-in-Arrow.result c.earlier-in-Arrow.result
    (c.first_in_type.ensures ∙ ap (λ (x : TypeTree). first_of (word_breaches arrows x)) c.get.ensures)
    (c.first_in_type-in-Arrow.ensures ∙ ap (λ (x : TypeTree). first_of (word_breaches arrows x)) c.get-in-Arrow.ensures)
    c.earlier-in-Arrow.ensures
    ∙ ap first_of (sym (ap (word_breaches arrows) c.in-Arrow.is ∙ breaches-arrow arrows a b))

pub first_in_types-loop-ty-preserved : goal.first_in_types-loop-ty-preserved
first_in_types-loop-ty-preserved t c =
    next-first (word_breaches (get nat_eq c.args.kinds.now)) c.args.types.now c.loop-ty.ty-index c.ty-item.result c.loop-ty.found c.first_in_type.result c.earlier-found.result
    c.loop-ty-test.true c.ty-item.is c.loop-ty.invariant c.first_in_type.ensures c.earlier-found.ensures
