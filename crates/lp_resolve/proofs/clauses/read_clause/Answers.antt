use Rattle.std.proofs.Common.{◌∙◌}
use Rattle.lp_resolve.proofs.ClauseLemmas.{clause_with-read}
use Rattle.lp_resolve.proofs.clauses.read_clause.Goals as goal

pub returns-clause-clause : goal.returns-clause-clause
returns-clause-clause c later b =
    c.in_ok-it.ensures
    ∙ clause_with-read later c.args.clause.now c.new-variables.result c.in_ok-tree.tree c.read_part.new.variables c.new-variables.ensures (c.in_ok-tree.ensures.read.is later b)
