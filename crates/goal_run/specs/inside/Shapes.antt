-- Rules as the search for their instances sees them, made of their code.
use Rattle.std.specs.Prelude.{List}
use Rattle.ref_terms.specs.search.Program.{Rule}
use Rattle.clause_compile.specs.inside.RuleCodes.{Each}
use Rattle.clause_compile.specs.declared.rules.HeadShape as code
use Rattle.clause_compile.specs.declared.rule_instance.HeadInstance as made
use Rattle.sequent_rules.specs.declared.rules.HeadShape.{HeadShape}
use Rattle.sequent_rules.specs.declared.rules.HeadInstance.{HeadInstance}
use Rattle.sequent_rules.specs.declared.rules.RuleShape.{RuleShape}
use Rattle.sequent_rules.specs.Rules.{IsRuleShape}

-- what of a head needs no heap
abbrev pub head_shape : code.HeadShape → HeadShape
head_shape h = record { context = h.context; pred = h.pred; arity = h.arity }

-- the arguments of a head
abbrev pub head_made : made.HeadInstance → HeadInstance
head_made h = record { args = h.args }

-- one shape for each rule, in order
abbrev pub AreShapes : List RuleShape → List Rule → Type 0
AreShapes shapes rs = Each IsRuleShape shapes rs
