use Rattle.std.proofs.Common.{◌∙◌, ◌+◌, sym, ap, drop, []}
use Rattle.std.specs.Option.{option_map_or}
use Rattle.clause_index.specs.inside.Lists.{list_at}
use Rattle.clause_index.proofs.NumberLemmas.{drop-one}
use Rattle.clause_index.proofs.cands.Run.advance.Goals as goal

pub returns-then-self-list : goal.returns-then-self-list
returns-then-self-list c =
    let ls = c.args.index.now.lists in
    let at = c.args.self.now.at in
    ap (λ o. option_map_or (λ n. drop (at + 1) (list_at ls n)) o []) c.in-Some.is
    ∙ drop-one at (list_at ls c.in-Some.number)
    ∙ sym (ap (λ o. drop 1 (option_map_or (λ n. drop at (list_at ls n)) o [])) c.in-Some.is)
