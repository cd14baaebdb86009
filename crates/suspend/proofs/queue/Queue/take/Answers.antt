use Rattle.std.proofs.Common.{◌≡◌, ◌<◌, ℕ, length, false, IfNone, sym, subst}
use Rattle.std.specs.BinaryHeap.{heap_items, IsHeap}
use Rattle.std.specs.List.{AllByRecursion}
use Rattle.std.specs.Ordering.{nat_cmp, is_lt}
use Rattle.suspend.specs.inside.Queue.{Gives}
use Rattle.suspend.proofs.QueueLemmas.{values, taken-out, bound-of, none-len}
use Rattle.suspend.proofs.queue.Queue.take.Goals as goal

pub returns : goal.returns
returns c =
    let low : 0 < length (values (heap_items c.self.inside.heap)) = subst (λ ns. 0 < length ns) (sym c.self.view_is) c.requires in
    let none : IfNone c.pop-least.result (length (heap_items c.self.inside.heap) ≡ 0) = none-len c.pop-least.result c.self.inside.heap.data.len (length (heap_items c.self.inside.heap)) c.self.inside.heap.data.ok.0 c.pop-least.ensures.none in
    subst (λ ns. (n : ℕ) × Gives ns n (values (heap_items c.pop-least.new.self))) c.self.view_is
    (taken-out c.pop-least.result (heap_items c.self.inside.heap) (heap_items c.pop-least.new.self) low none c.pop-least.ensures.permutation
    (bound-of c.pop-least.result (λ x. IsHeap (λ a b. nat_cmp b.0 a.0) (heap_items c.pop-least.new.self)) (λ x. AllByRecursion (λ y. is_lt (nat_cmp y.0 x.0) ≡ false) (heap_items c.self.inside.heap))
    (IsHeap (λ a b. nat_cmp b.0 a.0) (heap_items c.self.inside.heap)) c.pop-least.ensures.heap_order c.self.invariant))
