use Rattle.std.proofs.Common.{◌∙◌, [], ◌∷◌, ◌++◌, ap, sym}
use Rattle.lp_resolve.specs.ProgramReading.{item_clauses, item_rules}
use Rattle.lp_resolve.proofs.items.read_item.Goals as goal

pub returns-in_ok-push-in-Clause-clause-clauses : goal.returns-in_ok-push-in-Clause-clause-clauses
returns-in_ok-push-in-Clause-clause-clauses c later b =
    c.in_ok-push-in-Clause.ensures.last
    ∙ ap (λ it. c.args.lists.now.clauses ++ it ∷ []) (c.in_ok-it-in-Clause.ensures.clause later b)
    ∙ ap (λ i. c.args.lists.now.clauses ++ item_clauses later i) (sym c.in-Clause.is)

pub returns-in_ok-read_block-in-Block-clause-rules : goal.returns-in_ok-read_block-in-Block-clause-rules
returns-in_ok-read_block-in-Block-clause-rules c later b =
    c.in_ok-read_block-in-Block.ensures.rules later b ∙ ap (λ i. c.args.lists.now.rules ++ item_rules later i) (sym c.in-Block.is)
