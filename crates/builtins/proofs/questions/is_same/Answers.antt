use Rattle.level_terms.specs.Reading.{read}
use Rattle.beta_fragment.specs.Names.{names}
use Rattle.builtins.proofs.QuestionLemmas.{same-truth}
use Rattle.builtins.proofs.questions.is_same.Goals as goal

pub returns-clause-same : goal.returns-clause-same
returns-clause-same c = same-truth (read c.args.heap.now c.args.s.index names) (read c.args.heap.now c.args.t.index names) c.in_ok-answer.answer c.in_ok-answer.ensures.same
