use Rattle.std.proofs.Common.{◌∙◌}
use Rattle.clause_compile.proofs.CodesLemmas.{codes-long}
use Rattle.clause_compile.proofs.code.Code.clauses.Goals as goal

pub returns : goal.returns
returns c = λ n g p w. c.len.ensures ∙ codes-long w.nodes c.args.self.now.clauses p.clauses w.clauses
