use Rattle.std.proofs.Common.{◌<◌, length, refl, subst, arith}
use Rattle.std.specs.BinaryHeap.{heap_items}
use Rattle.suspend.specs.inside.Queue.{IsLeast}
use Rattle.suspend.proofs.QueueLemmas.{least-first}
use Rattle.suspend.proofs.queue.Queue.first.Goals as goal

pub returns-in-Some-clause-some : goal.returns-in-Some-clause-some
returns-in-Some-clause-some c =
    let many = c.in-Some.ensures.variant.0 refl in
    let low : 0 < length (heap_items c.self.inside.heap) = omega (arith, many, c.self.inside.heap.data.ok) in
    subst (λ ns. IsLeast ns c.in-Some.top.now.0) c.self.view_is
    (least-first c.in-Some.top.now (heap_items c.self.inside.heap) low c.in-Some.ensures.lookup (c.in-Some.ensures.greatest c.self.invariant))
