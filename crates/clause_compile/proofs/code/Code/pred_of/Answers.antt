use Rattle.std.proofs.Common.{◌<◌, sym, subst}
use Rattle.clause_compile.proofs.CodesLemmas.{code-at, codes-long}
use Rattle.clause_compile.proofs.code.Code.pred_of.Goals as goal

pub clause-requires : goal.clause-requires
clause-requires c = let w = c.requires in subst (λ m. c.args.clause < m) (sym (codes-long w.3.nodes c.args.self.now.clauses w.2.clauses w.3.clauses)) w.4

pub returns : goal.returns
returns c = λ n g p k w e. (code-at w.nodes c.args.self.now.clauses p.clauses c.args.clause c.clause.result.now k w.clauses c.clause.ensures e).pred
