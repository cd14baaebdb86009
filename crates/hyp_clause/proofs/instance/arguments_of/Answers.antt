use Rattle.hyp_clause.proofs.InstanceLemmas.{args-found, args-found_valid}
use Rattle.hyp_clause.proofs.instance.arguments_of.Goals as goal

pub returns-clause-args : goal.returns-clause-args
returns-clause-args c = args-found c.args.heap.now c.whnf.new.heap c.args.t.index c.args.depth c.in_ok-form.form c.arguments_in-args.result c.arguments_in-args.ensures c.in_ok-form.ensures.form

pub returns-clause-valid : goal.returns-clause-valid
returns-clause-valid c = args-found_valid c.args.heap.now c.whnf.new.heap c.args.t.index c.args.depth c.in_ok-form.form c.arguments_in-args.result c.arguments_in-args.ensures c.in_ok-form.ensures.form
