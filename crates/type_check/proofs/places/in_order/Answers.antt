use Rattle.std.proofs.Common.{rules}
use Rattle.std.proofs.lemmas.List.Sorted.{answers_always}
use Rattle.type_check.specs.Typings.{items_of}
use Rattle.type_check.proofs.Sorting.{key_of, sorted-entries}
use Rattle.type_check.proofs.places.in_order.Goals as goal

pub returns : goal.returns
returns c =
    let keys = answers_always _ _ _ (λ f a r next called. search rules) in
    sorted-entries (items_of c.args.program.now) c.in_ok-entries.entries.items c.sort_by_key.new.self.items c.in_ok-entries.ensures
    c.in_ok-sort_by_key.ensures.permutation (c.in_ok-sort_by_key.ensures.sorted key_of keys)
