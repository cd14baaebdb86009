use Rattle.lp_resolve.proofs.ReadsAsLemmas.{reads_as-same}
use Rattle.lp_resolve.proofs.RuleLemmas.{parts-read}
use Rattle.lp_resolve.proofs.rules.read_parts.Goals as goal

pub returns-clause-read : goal.returns-clause-read
returns-clause-read c =
    parts-read c.args.rule.now c.read_heads.new.symbols c.read_heads-2.new.symbols c.read_pairs.new.symbols c.read_tests.new.symbols c.read_body.new.symbols
    c.args.variables.now c.read_heads.new.variables c.read_heads-2.new.variables c.read_pairs.new.variables c.read_tests.new.variables c.read_body.new.variables
    c.in_ok-kept.kept c.in_ok-removed.removed c.in_ok-pairs.pairs c.in_ok-tests.tests c.in_ok-body.body
    (reads_as-same c.as_slice.ensures c.in_ok-kept.ensures.read)
    c.in_ok-removed.ensures.begins (reads_as-same c.as_slice-2.ensures c.in_ok-removed.ensures.read)
    c.in_ok-pairs.ensures.begins (reads_as-same c.as_slice-3.ensures c.in_ok-pairs.ensures.read)
    c.in_ok-tests.ensures.begins (reads_as-same c.as_slice-4.ensures c.in_ok-tests.ensures.read)
    c.in_ok-body.ensures.begins c.in_ok-body.ensures.read
