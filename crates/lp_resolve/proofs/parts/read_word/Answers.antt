use Rattle.lp_resolve.proofs.PartLemmas.{variable-read}
use Rattle.lp_resolve.proofs.parts.read_word.Goals as goal

pub returns-clause-read : goal.returns-clause-read
returns-clause-read c =
    variable-read c.args.symbols.now c.read_variable.new.symbols c.args.variables.now c.read_variable.new.variables c.args.word.now c.in_ok-number.number
    c.in_ok-number.ensures.table c.in_ok-number.ensures.number c.in_ok-number.ensures.met
