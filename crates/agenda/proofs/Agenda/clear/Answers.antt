use Rattle.std.proofs.Common.{◌∙◌, sym}
use Rattle.agenda.specs.Log.{pairs_of}
use Rattle.agenda.proofs.KeptLemmas.{cleared-step}
use Rattle.agenda.proofs.Agenda.clear.Goals as goal

pub loop-preserved : goal.loop-preserved
loop-preserved c =
    let step = cleared-step c.next_pair.result (pairs_of c.loop.self) (pairs_of c.next_pair.new.self) c.args.self.now.log c.loop.self.log c.next_pair.new.self.log
    (sym c.is_some.ensures ∙ c.loop-test.true) c.next_pair.ensures.first c.next_pair.ensures.log c.loop.invariant.1 in
    (step.0 ∙ c.loop.invariant.0, step.1, c.next_pair.ensures.rules ∙ c.loop.invariant.2)
