use Rattle.std.proofs.Common.{◌≡◌, take, subst, sym, ◌+◌}
use Rattle.lp_resolve.specs.ProgramTexts.{head_texts}
use Rattle.lp_resolve.specs.ProgramReading.{read_head}
use Rattle.lp_resolve.proofs.ReadsAsLemmas.{HaveRead, have_read-more}
use Rattle.lp_resolve.proofs.rules.read_heads.Goals as goal

pub loop-head-preserved : goal.loop-head-preserved
loop-head-preserved c =
    subst (λ ys. HaveRead head_texts read_head c.args.symbols.now c.read_head.new.symbols c.args.variables.now (take (c.loop-head.head-index + 1) c.args.heads.now) ys c.read_head.new.variables)
    (sym c.in_ok-push.ensures.last)
    (have_read-more head_texts read_head c.args.symbols.now c.loop-head.symbols c.read_head.new.symbols c.args.variables.now c.loop-head.variables c.read_head.new.variables
    c.args.heads.now c.loop-head.head-index c.loop-head.read c.head-item.result c.in_ok-it.it
    c.loop-head.invariant c.loop-head-test.true c.head-item.is c.in_ok-it.ensures.begins c.in_ok-it.ensures.table c.in_ok-it.ensures.read)
