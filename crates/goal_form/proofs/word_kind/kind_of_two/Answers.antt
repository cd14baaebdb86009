use Rattle.std.proofs.Common.{ap, ◌∙◌}
use Rattle.level_terms.specs.Reading.{read}
use Rattle.ref_terms.specs.search.Formula.{Wrong}
use Rattle.beta_fragment.specs.Names.{names}
use Rattle.goal_form.proofs.WordLemmas.{misfit-of_two}
use Rattle.goal_form.proofs.word_kind.kind_of_two.Goals as goal

pub returns-in_default : goal.returns-in_default
returns-in_default c = λ g depth v w. (ap Wrong c.misfit.ensures ∙ misfit-of_two c.args.word (read g c.args.a.index names) (read g c.args.b.index names) c.requires c.in_default.not-And c.in_default.not-Or c.in_default.not-Implies c.in_default.not-If c.in_default.not-Suspend, tt)
