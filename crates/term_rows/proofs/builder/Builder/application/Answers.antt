use Rattle.std.proofs.lemmas.List.Elements.{All-same, All-take}
use Rattle.level_terms.specs.Valid.{IsValid}
use Rattle.term_rows.specs.declared.builder.Item.{Item}
use Rattle.term_rows.proofs.BuildLemmas.{items-kept, stays-unassigned}
use Rattle.term_rows.proofs.builder.Builder.application.Goals as goal

pub invariant_of-self-in-Break-1 : goal.invariant_of-self-in-Break-1
invariant_of-self-in-Break-1 c = record {
  valid = items-kept {X = Item} (λ it. it.node.index) (λ it. it.least) c.args.self.now.heap c.applied.new.heap c.is_sound.ensures c.applied.ensures.grows c.args.self.now.items.items c.args.self.now.valid;
  unassigned = stays-unassigned c.args.self.now.heap c.applied.new.heap c.applied.ensures.grows c.args.self.now.unassigned;
}

pub invariant_of-self-2 : goal.invariant_of-self-2
invariant_of-self-2 c =
    let P : Item → Type 0 = λ it. IsValid c.applied.new.heap it.node.index it.least in
    record {
      valid = All-same P c.truncate.new.self.items _ c.truncate.ensures.items
          (All-take P _ c.args.self.now.items.items (items-kept {X = Item} (λ it. it.node.index) (λ it. it.least) c.args.self.now.heap c.applied.new.heap c.is_sound.ensures c.applied.ensures.grows c.args.self.now.items.items c.args.self.now.valid));
      unassigned = stays-unassigned c.args.self.now.heap c.applied.new.heap c.applied.ensures.grows c.args.self.now.unassigned;
    }
