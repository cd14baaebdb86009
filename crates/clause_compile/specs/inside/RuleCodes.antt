-- The code of rules.
use Rattle.std.specs.Prelude.{◌≡◌, ℕ, ◌<◌, false, List, [], ◌∷◌, length, map, All, IfSome, option_to_list, Some}
use Rattle.std.specs.List.{filter_map}
use Rattle.ref_terms.specs.terms.Term.{Con}
use Rattle.ref_terms.specs.unification.Spine.{args_of, head_of}
use Rattle.ref_terms.specs.search.Program.{Rule, RuleHead}
use Rattle.ref_terms.specs.search.Used.{Every}
use Rattle.level_terms.specs.declared.node.Node.{Node}
use Rattle.lp_resolve.specs.declared.program.HeadTree.{HeadTree}
use Rattle.lp_resolve.specs.declared.program.RuleTree.{RuleTree}
use Rattle.lp_resolve.specs.Plain.{plain_pair}
use Rattle.lp_resolve.specs.StaticRules.{goals_of, lacks_constant}
use Rattle.lp_resolve.specs.Trees.{IsWithin, as_term}
use Rattle.clause_compile.specs.inside.Meaning.{IsCompiled}
use Rattle.clause_compile.specs.inside.Compiled.{AllWithin}
use Rattle.clause_compile.specs.declared.rules.HeadShape.{HeadShape}
use Rattle.clause_compile.specs.declared.rules.RuleShape.{RuleShape}

-- the relation holds between the items of two lists, place by place
abbrev pub Each : {A B : Type 0} → (A → B → Type 0) → List A → List B → Type 0
Each r [] [] = Unit {0}
Each r (x ∷ xs) (y ∷ ys) = r x y × Each r xs ys
Each r _ _ = ⊥

-- over shared nodes and so many variables, the code means the head
pub record IsHeadCode (variables : ℕ) (nodes : List Node) (code : HeadShape) (h : RuleHead) : Type 0 where
  pub context : code.context ≡ h.context
  pub context_there : IfSome h.context (λ v. v < variables)
  pub pred : head_of h.goal ≡ Some (Con code.pred.0)
  pub arity : code.arity ≡ length (args_of h.goal)
  pub args : IsCompiled variables nodes code.args (args_of h.goal)

-- so of each head
abbrev pub AreHeadCodes : (variables : ℕ) → List Node → List HeadShape → List RuleHead → Type 0
AreHeadCodes variables nodes codes hs = Each (IsHeadCode variables nodes) codes hs

-- over shared nodes, the code means the rule
pub record IsRuleCode (nodes : List Node) (code : RuleShape) (r : Rule) : Type 0 where
  pub names : map (λ s. s.0) code.names ≡ r.names
  pub variables : code.variables ≡ r.variables
  pub kept : AreHeadCodes code.variables nodes code.kept r.kept
  pub removed : AreHeadCodes code.variables nodes code.removed r.removed
  pub pairs : code.pairs ≡ r.pairs
  pub earlier : Every (λ p. p.left_head < p.right_head) r.pairs
  pub body_context : code.body_context ≡ r.body_context
  pub body_context_there : IfSome r.body_context (λ v. v < code.variables)
  pub tests : IsCompiled code.variables nodes code.tests r.tests
  pub body : IsCompiled code.variables nodes code.body (option_to_list r.body)

-- so of each rule
abbrev pub AreRuleCodes : List Node → List RuleShape → List Rule → Type 0
AreRuleCodes nodes codes rs = Each (IsRuleCode nodes) codes rs

-- a head over so many variables, which has a constant
pub record IsHeadFit (variables : ℕ) (h : HeadTree) : Type 0 where
  pub context : IfSome h.context (λ v. v < variables)
  pub headed : lacks_constant h.goal ≡ false
  pub goal : IsWithin variables 0 (as_term h.goal)

-- a rule over its own variables, whose heads have constants, and each of whose pairs is of an earlier head and a later one
pub record IsRuleFit (r : RuleTree) : Type 0 where
  pub kept : All (IsHeadFit r.vars) r.kept
  pub removed : All (IsHeadFit r.vars) r.removed
  pub earlier : Every (λ p. p.left_head < p.right_head) (filter_map (plain_pair (goals_of r)) r.pairs)
  pub tests : AllWithin r.vars 0 r.tests
  pub body : IfSome r.body (λ t. IsWithin r.vars 0 (as_term t))
