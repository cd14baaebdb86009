use Rattle.term_print.proofs.StepLemmas.{flex-printed}
use Rattle.term_print.proofs.WrittenLemmas.{on-ok_two}
use Rattle.term_print.proofs.step.write_flex.Goals as goal

pub returns-clause-prints : goal.returns-clause-prints
returns-clause-prints c = on-ok_two c.write_variable.result
    (λ e s table base g deep valid there. flex-printed table base g c.args.depth c.args.work.now.items c.push_arguments.new.work.items deep there c.args.v.index c.args.args.now valid
    c.in_ok-push_arguments.ensures c.args.out.now c.write_variable.new.out c.args.namer.now c.write_variable.new.namer e s)
    c.write_variable.ensures.ok c.write_variable.ensures.seen
