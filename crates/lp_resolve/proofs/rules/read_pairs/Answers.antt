use Rattle.std.proofs.Common.{◌≡◌, take, subst, sym, ◌+◌}
use Rattle.lp_resolve.specs.ProgramTexts.{pair_texts}
use Rattle.lp_resolve.specs.ProgramReading.{read_pair}
use Rattle.lp_resolve.proofs.ReadsAsLemmas.{HaveRead, have_read-more}
use Rattle.lp_resolve.proofs.rules.read_pairs.Goals as goal

pub loop-pair-preserved : goal.loop-pair-preserved
loop-pair-preserved c =
    subst (λ ys. HaveRead pair_texts read_pair c.args.symbols.now c.read_pair.new.symbols c.args.variables.now (take (c.loop-pair.pair-index + 1) c.args.pairs.now) ys c.read_pair.new.variables)
    (sym c.in_ok-push.ensures.last)
    (have_read-more pair_texts read_pair c.args.symbols.now c.loop-pair.symbols c.read_pair.new.symbols c.args.variables.now c.loop-pair.variables c.read_pair.new.variables
    c.args.pairs.now c.loop-pair.pair-index c.loop-pair.read c.pair-item.result c.in_ok-it.it
    c.loop-pair.invariant c.loop-pair-test.true c.pair-item.is c.in_ok-it.ensures.begins c.in_ok-it.ensures.table c.in_ok-it.ensures.read)
