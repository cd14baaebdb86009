use Rattle.std.proofs.Common.{◌∙◌, ◌++◌, ap, ap₂, sym, reverse, Some, List}
use Rattle.level_terms.specs.declared.node.TermId.{TermId}
use Rattle.beta_fragment.specs.inside.Pairs.{pairs_of}
use Rattle.beta_fragment.proofs.PairLemmas.{left-there, right-there, head-there}
use Rattle.beta_fragment.proofs.SpineLemmas.{apps-divide}
use Rattle.beta_fragment.proofs.equality.push_parts.Goals as goal

pub view-requires : goal.view-requires
view-requires c = left-there c.args.heap.now c.args.pair c.requires

pub view-requires-in-App : goal.view-requires-in-App
view-requires-in-App c = right-there c.args.heap.now c.args.pair c.requires

pub is_plain-requires : goal.is_plain-requires
is_plain-requires c = head-there c.args.heap.now c.args.pair.left.index c.args.pair.depth c.in-App.left c.in-App.first c.is_sound.ensures (c.view.ensures ∙ ap Some c.in-App.is) c.requires.0

pub is_plain-requires-then-is_plain : goal.is_plain-requires-then-is_plain
is_plain-requires-then-is_plain c = head-there c.args.heap.now c.args.pair.right.index c.args.pair.depth c.in-App-view.right c.in-App-view.second c.is_sound.ensures (c.view-in-App.ensures ∙ ap Some c.in-App-view.is) c.requires.1

pub returns-then-is_plain-2 : goal.returns-then-is_plain-2
returns-then-is_plain-2 c =
    apps-divide c.args.heap.now c.args.pair c.in-App.left c.in-App-view.right c.in-App.first c.in-App-view.second c.args.work.now.items c.push_pairs.new.work.items c.push.new.self.items
    c.is_sound.ensures c.requires (c.view.ensures ∙ ap Some c.in-App.is) (c.view-in-App.ensures ∙ ap Some c.in-App-view.is)
    (sym c.len.ensures ∙ c.if-len.true ∙ c.len-in-App-view.ensures) (c.is_plain.ensures c.if-is_plain.true) (c.is_plain-then-is_plain.ensures c.if-is_plain-2.true)
    (c.in_ok-push_pairs.ensures ∙ ap₂ (λ (xs ys : List TermId). c.args.work.now.items ++ reverse (pairs_of c.args.pair.depth xs ys)) c.as_slice.ensures c.as_slice-then-is_plain-2.ensures)
    c.in_ok-push.ensures.items
