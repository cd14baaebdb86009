use Rattle.level_terms.specs.Reading.{read}
use Rattle.beta_fragment.specs.Names.{names}
use Rattle.sequent_rules.proofs.heads.fit_one.Goals as goal

pub returns-clause-fit : goal.returns-clause-fit
returns-clause-fit c = c.fitting.ensures c.whnf.new.heap c.args.depth (read c.args.heap.now c.args.goal.index names) c.in_ok-form.ensures.form
