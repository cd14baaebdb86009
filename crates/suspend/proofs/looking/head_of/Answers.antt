use Rattle.level_terms.specs.Reading.{read}
use Rattle.beta_fragment.specs.Names.{names}
use Rattle.suspend.proofs.LookLemmas.{looks}
use Rattle.suspend.proofs.looking.head_of.Goals as goal

pub returns-clause-head : goal.returns-clause-head
returns-clause-head c =
    c.head_of_form.ensures (read c.args.heap.now c.args.t.index names) (looks c.whnf.new.heap c.args.depth (read c.args.heap.now c.args.t.index names) c.in_ok-form.form c.in_ok-form.ensures.form)
