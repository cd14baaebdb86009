use Rattle.level_terms.specs.Reading.{read}
use Rattle.beta_fragment.specs.Names.{names}
use Rattle.search_moves.proofs.machine.Machine.list_form.Goals as goal

pub returns-clause-form : goal.returns-clause-form
returns-clause-form c = c.list_form_of.ensures c.whnf.new.self.world.heap c.args.goal.now.depth (read c.args.self.now.world.heap c.args.t.index names) c.in_ok-form.ensures.form

pub returns-clause-stays : goal.returns-clause-stays
returns-clause-stays c = record {
  first = c.whnf.ensures.first c.args.goal.now c.requires.first;
  readings = c.whnf.ensures.readings;
  valid = c.whnf.ensures.valid;
  branch = c.whnf.ensures.branch;
  saved = c.whnf.ensures.saved;
  phase = c.whnf.ensures.phase;
  code = c.whnf.ensures.code;
  alternatives = c.whnf.ensures.alternatives;
}

pub returns-in_err-form-clause-stays : goal.returns-in_err-form-clause-stays
returns-in_err-form-clause-stays c = record {
  first = c.whnf.ensures.first c.args.goal.now c.requires.first;
  readings = c.whnf.ensures.readings;
  valid = c.whnf.ensures.valid;
  branch = c.whnf.ensures.branch;
  saved = c.whnf.ensures.saved;
  phase = c.whnf.ensures.phase;
  code = c.whnf.ensures.code;
  alternatives = c.whnf.ensures.alternatives;
}
