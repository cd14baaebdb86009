use Rattle.std.proofs.Common.{◌≡◌, [], ◌∷◌, ◌++◌, List, length, sym, ap, subst}
use Rattle.level_terms.specs.declared.node.TermId.{TermId}
use Rattle.level_terms.specs.Sound.{AllOlder}
use Rattle.level_terms.proofs.MakeLemmas.{older-last}
use Rattle.pattern_unify.proofs.ReachedWork.{turn-there}
use Rattle.pattern_unify.proofs.renewing.is_small.Goals as goal

pub loop-seen-init : goal.loop-seen-init
loop-seen-init c =
    let one : c.new-work.result.items ++ c.args.node ∷ [] ≡ c.args.node ∷ [] = ap (λ (ts : List TermId). ts ++ c.args.node ∷ []) c.new-work.ensures.items in
    subst (AllOlder (length c.args.heap.now.nodes)) (sym one) (c.requires, tt)

pub push_parts-requires : goal.push_parts-requires
push_parts-requires c = older-last (length c.args.heap.now.nodes) c.loop-seen.work.items c.loop-seen.next c.loop-seen.invariant

pub loop-seen-preserved : goal.loop-seen-preserved
loop-seen-preserved c =
    subst (AllOlder (length c.args.heap.now.nodes)) c.in-Some.ensures.items
    (turn-there c.args.heap.now c.is_sound.ensures 0 c.loop-seen.work.items c.loop-seen.next c.push_parts.new.work.items c.in_ok-push_parts.ensures c.loop-seen.invariant)
