use Rattle.std.proofs.Common.{refl}
use Rattle.term_rows.specs.declared.builder.Item.{Item}
use Rattle.level_terms.specs.declared.node.Node.TheVariants.{Con}
use Rattle.term_rows.proofs.BuildLemmas.{items-kept, stays-unassigned, newest-valid}
use Rattle.term_rows.proofs.builder.Builder.constant.Goals as goal

pub invariant_of-self-2 : goal.invariant_of-self-2
invariant_of-self-2 c = record {
  valid = items-kept {X = Item} (λ it. it.node.index) (λ it. it.least) c.args.self.now.heap c.con.new.self c.is_sound.ensures c.con.ensures.grows c.args.self.now.items.items c.args.self.now.valid;
  unassigned = stays-unassigned c.args.self.now.heap c.con.new.self c.con.ensures.grows c.args.self.now.unassigned;
}

pub push-requires : goal.push-requires
push-requires c = newest-valid c.args.self.now.heap c.con.new.self c.in_ok-node.node.index (Con c.in_ok-symbol.symbol) 0 c.is_sound-2.ensures c.in_ok-node.ensures.ok.0 c.in_ok-node.ensures.ok.1 refl
