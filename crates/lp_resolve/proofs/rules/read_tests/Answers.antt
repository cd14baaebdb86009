use Rattle.std.proofs.Common.{◌≡◌, take, subst, sym, ◌+◌}
use Rattle.lp_resolve.specs.Texts.{texts_of}
use Rattle.lp_resolve.specs.ProgramReading.{read_tree}
use Rattle.lp_resolve.proofs.ReadsAsLemmas.{HaveRead, have_read-more}
use Rattle.lp_resolve.proofs.rules.read_tests.Goals as goal

pub loop-test-preserved : goal.loop-test-preserved
loop-test-preserved c =
    subst (λ ys. HaveRead texts_of read_tree c.args.symbols.now c.read_part.new.symbols c.args.variables.now (take (c.loop-test.test-index + 1) c.args.tests.now) ys c.read_part.new.variables)
    (sym c.in_ok-push.ensures.last)
    (have_read-more texts_of read_tree c.args.symbols.now c.loop-test.symbols c.read_part.new.symbols c.args.variables.now c.loop-test.variables c.read_part.new.variables
    c.args.tests.now c.loop-test.test-index c.loop-test.read c.test-item.result c.in_ok-it.it
    c.loop-test.invariant c.loop-test-test.true c.test-item.is c.in_ok-it.ensures.begins c.in_ok-it.ensures.table c.in_ok-it.ensures.read)
