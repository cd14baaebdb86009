use Rattle.level_terms.specs.Reading.{read}
use Rattle.beta_fragment.specs.Names.{names}
use Rattle.builtins.proofs.evaluating.look.Goals as goal

pub returns-clause-seen : goal.returns-clause-seen
returns-clause-seen c = c.expression_of.ensures c.whnf.new.heap c.args.depth (read c.args.heap.now c.args.e.index names) c.in_ok-form.ensures.form
