use Rattle.std.proofs.Common.{refl}
use Rattle.lp_resolve.specs.Plain.{plain_clause}
use Rattle.clause_compile.proofs.PredLemmas.{plain-body}
use Rattle.clause_compile.proofs.program.clause_code.Goals as goal

pub compile_clause-requires-clause-args : goal.compile_clause-requires-clause-args
compile_clause-requires-clause-args c = c.atom_of-atom.ensures.within c.args.clause.now.vars c.requires.fit.head

pub compile_clause-requires-clause-body : goal.compile_clause-requires-clause-body
compile_clause-requires-clause-body c = c.requires.fit.body

pub returns-clause-code : goal.returns-clause-code
returns-clause-code c = c.in_ok-code.ensures.code (plain_clause c.args.clause.now) refl c.atom_of-atom.ensures.constant c.atom_of-atom.ensures.args (plain-body c.args.clause.now)
