use Rattle.std.proofs.Common.{◌≡◌, ◌++◌, reverse}
use Rattle.hyp_clause.specs.inside.Forms.{forms_of, goals_of}
use Rattle.hyp_clause.proofs.around.conditions_of.Given as goal

abbrev pub invariant-loop-at : goal.invariant-loop-at
invariant-loop-at l = goals_of (forms_of l.at) ++ reverse l.goals.items ≡ goals_of (forms_of l.fn.forms)
