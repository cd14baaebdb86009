use Rattle.beta_fragment.proofs.PairLemmas.{left-there, right-there}
use Rattle.beta_fragment.proofs.equality.next_pair.Goals as goal

pub value_at-requires : goal.value_at-requires
value_at-requires c = left-there c.args.heap.now c.args.pair c.requires

pub value_at-requires-2 : goal.value_at-requires-2
value_at-requires-2 c = right-there c.args.heap.now c.args.pair c.requires
