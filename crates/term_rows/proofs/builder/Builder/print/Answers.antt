use Rattle.level_terms.proofs.ValidLemmas.{valid_deeper}
use Rattle.term_rows.specs.declared.builder.Item.{Item}
use Rattle.term_rows.proofs.BuildLemmas.{items-kept, stays-unassigned}
use Rattle.term_rows.proofs.builder.Builder.print.Goals as goal

pub invariant_of-self : goal.invariant_of-self
invariant_of-self c = record {
  valid = items-kept {X = Item} (λ it. it.node.index) (λ it. it.least) c.pop.new.self.heap c.print_term.new.heap c.is_sound.ensures c.print_term.ensures.grows c.pop.new.self.items.items c.pop.new.self.valid;
  unassigned = stays-unassigned c.pop.new.self.heap c.print_term.new.heap c.print_term.ensures.grows c.pop.new.self.unassigned;
}

pub print_term-requires : goal.print_term-requires
print_term-requires c = valid_deeper c.pop.new.self.heap c.in_ok-item.item.node.index c.in_ok-item.item.least c.args.depth c.in_ok-item.ensures.valid c.if-item-depth.false
