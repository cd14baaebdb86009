use Rattle.level_terms.proofs.ReadLemmas.{valid-below}
use Rattle.term_rows.specs.declared.builder.Item.{Item}
use Rattle.term_rows.proofs.BuildLemmas.{items-kept, stays-unassigned, abstracted-valid}
use Rattle.term_rows.proofs.builder.Builder.abstraction.Goals as goal

pub lam-requires : goal.lam-requires
lam-requires c = valid-below c.pop.new.self.heap c.in_ok-body.body.node.index c.in_ok-body.body.least c.in_ok-body.ensures.valid

pub invariant_of-self : goal.invariant_of-self
invariant_of-self c = record {
  valid = items-kept {X = Item} (λ it. it.node.index) (λ it. it.least) c.pop.new.self.heap c.lam.new.self c.is_sound.ensures c.lam.ensures.grows c.pop.new.self.items.items c.pop.new.self.valid;
  unassigned = stays-unassigned c.pop.new.self.heap c.lam.new.self c.lam.ensures.grows c.pop.new.self.unassigned;
}

pub push-requires : goal.push-requires
push-requires c = abstracted-valid c.pop.new.self.heap c.lam.new.self c.args.depth c.in_ok-body.body.least c.in_ok-body.body.node c.in_ok-node.node c.is_sound.ensures c.is_sound-2.ensures c.in_ok-node.ensures.ok.0 c.in_ok-node.ensures.ok.1 c.in_ok-body.ensures.valid c.if-body-depth.false
