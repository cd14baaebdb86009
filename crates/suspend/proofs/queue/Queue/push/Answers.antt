use Rattle.std.proofs.Common.{◌∙◌, ◌||◌, nat_eq, ap}
use Rattle.std.specs.BinaryHeap.{heap_items}
use Rattle.suspend.specs.Store.{has}
use Rattle.suspend.proofs.QueueLemmas.{put-in}
use Rattle.suspend.proofs.queue.Queue.push.Goals as goal

pub returns-clause-ok : goal.returns-clause-ok
returns-clause-ok c m =
    put-in (record { 0 = c.args.number }) (heap_items c.self.inside.heap) (heap_items c.push.new.self) c.in_ok-push.ensures.permutation m
    ∙ ap (λ ns. nat_eq m c.args.number || has ns m) c.self.view_is
