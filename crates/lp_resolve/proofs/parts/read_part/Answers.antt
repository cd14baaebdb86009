use Rattle.lp_resolve.proofs.PartLemmas.{term-read}
use Rattle.lp_resolve.proofs.parts.read_part.Goals as goal

pub returns-clause-read : goal.returns-clause-read
returns-clause-read c =
    term-read c.read_term.new.symbols c.args.variables.now c.read_term.new.variables c.args.term.now c.in_ok-tree.tree c.in_ok-tree.ensures.read
