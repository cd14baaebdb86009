use Rattle.std.proofs.Common.{ℕ, ◌++◌, List, length, reverse, map, ap, ◌∙◌, subst, arith, length-append}
use Rattle.level_terms.specs.declared.node.TermId.{TermId}
use Rattle.beta_fragment.specs.Moves.{AreLevelsOf}
use Rattle.level_terms.specs.Values.{value_of}
use Rattle.beta_fragment.proofs.MoveLemmas.{assigned-before}
use Rattle.beta_fragment.proofs.HeadLemmas.{flex-reads}
use Rattle.beta_fragment.proofs.head.flex.Goals as goal

pub returns-clause-form : goal.returns-clause-form
returns-clause-form c = λ u spine.
    let grows = c.in_ok-first.ensures.grows in
    let more = ap length grows.depths ∙ length-append c.args.heap.now.depths grows.new_depths in
    let known = c.requires.known in
    let list = c.in_ok-list.ensures ∙ ap (λ (ts : List TermId). ts ++ reverse c.args.args.now) c.as_slice.ensures.value in
    let levels = subst (λ (n : ℕ). AreLevelsOf c.args.levels.now n c.args.depth 0 (map (value_of c.moved_levels.new.heap) c.in_ok-first.first.items)) c.len.ensures c.in_ok-first.ensures.levels in
    let reads = flex-reads c.args.heap.now c.moved_levels.new.heap c.args.depth c.args.count u c.args.t.index c.args.v.index c.args.levels.now c.args.args.now c.in_ok-first.first.items c.in_ok-list.list c.is_sound.ensures grows c.requires.open_at c.requires.count c.requires.below levels c.in_ok-first.ensures.count list spine in
    (omega (arith, more, known), assigned-before c.args.heap.now c.moved_levels.new.heap grows c.args.v.index ∙ c.requires.free, reads.0, reads.1)
