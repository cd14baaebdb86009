use Rattle.std.proofs.Common.{◌≡◌, ◌∙◌, sym, ap, drop, Some, None, subst, []}
use Rattle.std.specs.Option.{option_map_or}
use Rattle.std.proofs.lemmas.List.{length-map}
use Rattle.clause_index.specs.inside.Lists.{list_of, list_at, all_lists}
use Rattle.clause_index.specs.inside.Runs.{not_below, IsInOrder}
use Rattle.clause_index.proofs.ListLemmas.{found-by}
use Rattle.clause_index.proofs.index.Index.run_from.Goals as goal

pub returns-in-Some : goal.returns-in-Some
returns-in-Some c = λ paired order.
    let ls = c.args.self.now.lists in
    let n = c.in-Some.number in
    let same : list_of ls c.args.group ≡ c.list.result.now = found-by c.args.group ls.groups.keys (all_lists ls) (Some n) (paired ∙ sym (length-map ls.lists.items (λ v. v.items))) (sym c.number-list.ensures ∙ c.in-Some.is) ∙ sym c.list.ensures in
    ap (drop c.count_below-at.result) (sym c.list.ensures) ∙ c.count_below-at.ensures (subst IsInOrder same order) ∙ ap (not_below c.args.from) (sym same)

pub returns-in-None : goal.returns-in-None
returns-in-None c = λ paired order.
    let ls = c.args.self.now.lists in
    let none : list_of ls c.args.group ≡ [] = found-by c.args.group ls.groups.keys (all_lists ls) None (paired ∙ sym (length-map ls.lists.items (λ v. v.items))) (sym c.number-list.ensures ∙ c.in-None.is) in
    ap (λ o. option_map_or (λ n. drop 0 (list_at ls n)) o []) c.in-None.is ∙ ap (not_below c.args.from) (sym none)
