use Rattle.clause_compile.proofs.RuleFitLemmas.{fit-rules}
use Rattle.clause_compile.proofs.rules.rules_fit.Goals as goal

pub returns : goal.returns
returns c = fit-rules c.args.checked.now c.law_first_breach.ensures.none c.program-program.ensures.well_formed c.program-program.ensures.unbroken
