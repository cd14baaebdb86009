use Rattle.term_rows.specs.declared.builder.Item.{Item}
use Rattle.term_rows.proofs.BuildLemmas.{items-kept, stays-unassigned, int-valid}
use Rattle.term_rows.proofs.builder.Builder.integer.Goals as goal

pub invariant_of-self : goal.invariant_of-self
invariant_of-self c = record {
  valid = items-kept {X = Item} (λ it. it.node.index) (λ it. it.least) c.args.self.now.heap c.int.new.self c.is_sound.ensures c.int.ensures.grows c.args.self.now.items.items c.args.self.now.valid;
  unassigned = stays-unassigned c.args.self.now.heap c.int.new.self c.int.ensures.grows c.args.self.now.unassigned;
}

pub push-requires : goal.push-requires
push-requires c = int-valid c.args.self.now.heap c.int.new.self c.in_ok-node.node.index _ 0 c.is_sound-2.ensures c.in_ok-node.ensures.ok.0 c.in_ok-node.ensures.ok.1
