use Rattle.term_print.proofs.StepLemmas.{rigid-printed, rigid-stops}
use Rattle.term_print.proofs.WrittenLemmas.{on-ok, on-err_from}
use Rattle.term_print.proofs.step.write_rigid.Goals as goal

pub returns-in_ok-push_arguments-in-None-clause-prints : goal.returns-in_ok-push_arguments-in-None-clause-prints
returns-in_ok-push_arguments-in-None-clause-prints c = on-ok c.write_head.result
    (λ e g seen valid there. rigid-printed c.args.symbols.now c.args.base g c.args.depth c.args.work.now.items c.push_arguments.new.work.items c.requires.deep there c.args.head c.args.args.now c.in-None.ensures valid
    c.in_ok-push_arguments-in-None.ensures c.args.out.now c.write_head.new.out seen e)
    c.write_head.ensures.ok

pub returns-in_ok-push_arguments-in-None-clause-stops : goal.returns-in_ok-push_arguments-in-None-clause-stops
returns-in_ok-push_arguments-in-None-clause-stops c = on-err_from c.write_head.result
    (λ e g seen. rigid-stops c.args.symbols.now c.args.base g c.args.depth _ c.args.head c.args.args.now c.in-None.ensures c.args.out.now c.write_head.new.out seen e)
    c.write_head.ensures.err
