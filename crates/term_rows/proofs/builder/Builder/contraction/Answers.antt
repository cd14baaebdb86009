use Rattle.term_rows.specs.declared.builder.Item.{Item}
use Rattle.term_rows.proofs.BuildLemmas.{items-kept, stays-unassigned}
use Rattle.term_rows.proofs.builder.Builder.contraction.Goals as goal

pub invariant_of-self : goal.invariant_of-self
invariant_of-self c = record {
  valid = items-kept {X = Item} (λ it. it.node.index) (λ it. it.least) c.pop-2.new.self.heap c.contracted.new.heap c.is_sound.ensures c.contracted.ensures.grows c.pop-2.new.self.items.items c.pop-2.new.self.valid;
  unassigned = stays-unassigned c.pop-2.new.self.heap c.contracted.new.heap c.contracted.ensures.grows c.pop-2.new.self.unassigned;
}
