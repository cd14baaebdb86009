use Rattle.clause_compile.proofs.FitLemmas.{fit-clauses}
use Rattle.clause_compile.proofs.program.clauses_fit.Goals as goal

pub returns : goal.returns
returns c = fit-clauses c.args.checked.now c.law_first_breach.ensures.none c.program-program.ensures.well_formed c.program-program.ensures.unbroken
