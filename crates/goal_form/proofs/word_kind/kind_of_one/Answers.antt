use Rattle.std.proofs.Common.{ap, ◌∙◌}
use Rattle.level_terms.specs.Reading.{read}
use Rattle.ref_terms.specs.search.Formula.{Wrong}
use Rattle.beta_fragment.specs.Names.{names}
use Rattle.goal_form.proofs.WordLemmas.{misfit-of_one}
use Rattle.goal_form.proofs.word_kind.kind_of_one.Goals as goal

pub returns-in_default : goal.returns-in_default
returns-in_default c = λ g depth v. (ap Wrong c.misfit.ensures ∙ misfit-of_one c.args.word (read g c.args.a.index names) c.requires c.in_default.not-Pi c.in_default.not-Sigma, tt)
