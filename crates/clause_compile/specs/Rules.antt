-- The code of a program's rules in a heap, and what calls make of rules.
use Rattle.std.specs.Prelude.{◌≡◌, ℕ, ◌+◌, ◌<◌, ◌++◌, List, map, length, replicate, Option, option_to_list, None, Some, IfSome}
use Rattle.ref_terms.specs.terms.Term.{Con}
use Rattle.ref_terms.specs.unification.Spine.{args_of, head_of}
use Rattle.ref_terms.specs.search.Program.{Program, Rule, RuleHead}
use Rattle.ref_terms.specs.search.Instance.{instance, variable_under}
use Rattle.ref_terms.specs.search.Used.{Every}
use Rattle.level_terms.specs.declared.node.Node.{Node}
use Rattle.level_terms.specs.Graph.{Graph}
use Rattle.level_terms.specs.Reading.{read}
use Rattle.level_terms.specs.Valid.{IsValid}
use Rattle.level_terms.specs.declared.node.TermId.{TermId}
use Rattle.clause_compile.specs.inside.Meaning.{AreShared}
use Rattle.clause_compile.specs.inside.RuleCodes.{Each, AreRuleCodes}
use Rattle.clause_compile.specs.Instances.{names, all_read, AllValidAt, AreFresh}
use Rattle.clause_compile.specs.declared.rules.HeadShape.{HeadShape}
use Rattle.clause_compile.specs.declared.rules.RuleShape.{RuleShape}
use Rattle.clause_compile.specs.declared.rules.Rules.{Rules}
use Rattle.clause_compile.specs.declared.rule_instance.HeadInstance.{HeadInstance}
use Rattle.clause_compile.specs.declared.rule_instance.RuleInstance.{RuleInstance}

-- The code of a program's rules: what it names is among the oldest nodes of the heap, so many, which have no variables. Over these it means the program's rules, in order.
pub record IsRulesCode (n : ℕ) (g : Graph) (code : Rules) (p : Program) : Type 0 where
  pub nodes : List Node
  pub shared : AreShared n g nodes
  pub rules : AreRuleCodes nodes code.rules p.rules

-- what needs no heap of a head of a rule with so many variables: its context, its constant and how many arguments it has
pub record IsHeadShapeOf (variables : ℕ) (s : HeadShape) (h : RuleHead) : Type 0 where
  pub context : s.context ≡ h.context
  pub low : IfSome s.context (λ v. v < variables)
  pub pred : head_of h.goal ≡ Some (Con s.pred.0)
  pub arity : s.arity ≡ length (args_of h.goal)

-- what needs no heap of a rule; contexts are among its variables, and each pair is of an earlier head and a later one
pub record IsShapeOf (s : RuleShape) (r : Rule) : Type 0 where
  pub names : map (λ c. c.0) s.names ≡ r.names
  pub variables : s.variables ≡ r.variables
  pub kept : Each (IsHeadShapeOf s.variables) s.kept r.kept
  pub removed : Each (IsHeadShapeOf s.variables) s.removed r.removed
  pub pairs : s.pairs ≡ r.pairs
  pub earlier : Every (λ p. p.left_head < p.right_head) r.pairs
  pub body_context : s.body_context ≡ r.body_context
  pub low : IfSome s.body_context (λ v. v < s.variables)

-- the node of a context, where there is one: its variable, among those that are numbered from `next` on, made under so many names
abbrev pub IsContextMade : Graph → (d next : ℕ) → Option TermId → Option ℕ → Type 0
IsContextMade g d next None None = Unit {0}
IsContextMade g d next (Some t) (Some v) = (read g t.index names ≡ variable_under d (next + v)) × IsValid g t.index d
IsContextMade g d next _ _ = ⊥

-- a head's context is its variable and its arguments read as those of its instance at so many names, over variables that are numbered from `next` on
pub record IsHeadMade (g : Graph) (d next : ℕ) (made : HeadInstance) (h : RuleHead) : Type 0 where
  pub context : IsContextMade g d next made.context h.context
  pub args : all_read g made.args.items ≡ args_of (instance d next h.goal)
  pub valid : AllValidAt g made.args.items d

-- A rule was made at a depth: the arguments of its heads, its tests and its body read as those of its instance at so many names, over variables that are new and its own, and contexts are among these.
pub record IsRuleOf (r : Rule) (d : ℕ) (old new : Graph) (made : RuleInstance) : Type 0 where
  pub kept : Each (IsHeadMade new d (length old.depths)) made.kept r.kept
  pub removed : Each (IsHeadMade new d (length old.depths)) made.removed r.removed
  pub tests : all_read new made.tests.items ≡ map (instance d (length old.depths)) r.tests
  pub tests_valid : AllValidAt new made.tests.items d
  pub body_context : IsContextMade new d (length old.depths) made.body_context r.body_context
  pub body : all_read new (option_to_list made.body) ≡ map (instance d (length old.depths)) (option_to_list r.body)
  pub body_valid : AllValidAt new (option_to_list made.body) d
  pub fresh : AreFresh new d (length old.depths) r.variables made.variables.items
  pub depths : new.depths ≡ old.depths ++ replicate r.variables d
  pub depth : made.depth ≡ d
  pub first : made.first_fresh.index ≡ length old.depths
