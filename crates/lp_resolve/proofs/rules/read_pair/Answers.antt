use Rattle.lp_resolve.proofs.RuleLemmas.{pair-read}
use Rattle.lp_resolve.proofs.rules.read_pair.Goals as goal

pub returns-clause-read : goal.returns-clause-read
returns-clause-read c =
    pair-read c.read_word.new.symbols c.read_word-2.new.symbols c.args.variables.now c.read_word.new.variables c.read_word-2.new.variables c.args.pair.now c.in_ok-left.left c.in_ok-right.right
    c.in_ok-left.ensures.read c.in_ok-right.ensures.begins c.in_ok-right.ensures.read
