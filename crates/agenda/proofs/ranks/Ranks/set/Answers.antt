use Rattle.std.specs.Vec.{with_item}
use Rattle.std.proofs.Common.{ℕ, ◌+◌, List, set, drop, ap, ◌∙◌}
use Rattle.std.proofs.lemmas.List.{with_items_is}
use Rattle.agenda.specs.inside.Ranks.{ranks_of}
use Rattle.agenda.specs.declared.ranks.Entry.{Entry}
use Rattle.agenda.proofs.TreeLemmas.{ranks-set}
use Rattle.agenda.proofs.ranks.Ranks.set.Goals as goal

pub returns : goal.returns
returns c =
    let entry : Entry = record { rank = c.args.rank; place = c.args.place } in
    ap (λ (xs : List Entry). ranks_of (drop c.self.inside.places xs))
    (with_items_is (with_item c.self.inside.nodes (c.self.inside.places + c.args.place) entry) c.mend_above.new.nodes (c.mend_above.auto.nodes ∙ c.deref_mut.ensures.len))
    ∙ (ranks-set c.self.inside.places c.args.place c.self.inside.nodes.items c.deref_mut.result.now c.mend_above.new.nodes entry c.deref_mut.ensures.value c.mend_above.ensures.leaves
    ∙ ap (λ (ranks : List ℕ). set ranks c.args.place c.args.rank) c.self.view_is)
