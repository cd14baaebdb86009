-- Well-formed programs.
use Rattle.std.specs.Prelude.{◌≡◌, ℕ, ◌<◌, List, length, map, All, Option, IfSome}
use Rattle.ref_terms.specs.declared.tree.Tree.{Tree}
use Rattle.lp_resolve.specs.declared.program.Program.{Program}
use Rattle.lp_resolve.specs.declared.program.ClauseTree.{ClauseTree}
use Rattle.lp_resolve.specs.declared.program.HeadTree.{HeadTree}
use Rattle.lp_resolve.specs.declared.program.PairTree.{PairTree}
use Rattle.lp_resolve.specs.declared.program.RuleTree.{RuleTree}
use Rattle.lp_resolve.specs.Gathered.{gathered}
use Rattle.lp_resolve.specs.Occurrences.{occurrences}
use Rattle.lp_resolve.specs.StaticRules.{heads_of, goals_of}
use Rattle.lp_resolve.specs.Trees.{IsFormed}

-- a tree over so many variables, with no name bound around it
abbrev pub IsFormedOver : (vars : ℕ) → Tree → Type 0
IsFormedOver vars t = IsFormed vars 0 t

-- a clause
pub record IsClauseFormed (c : ClauseTree) : Type 0 where
  pub head : IsFormedOver c.vars c.head
  pub body : IfSome c.body (IsFormedOver c.vars)
  pub var_places : length c.places.vars ≡ length (occurrences c.head)

-- a head of a rule with so many variables
pub record IsHeadFormed (vars : ℕ) (h : HeadTree) : Type 0 where
  pub context : IfSome h.context (λ v. v < vars)
  pub goal : IsFormedOver vars h.goal

-- a pair of a rule with so many variables
pub record IsPairFormed (vars : ℕ) (p : PairTree) : Type 0 where
  pub left : p.left < vars
  pub right : p.right < vars

-- a rule
pub record IsRuleFormed (r : RuleTree) : Type 0 where
  pub heads : All (IsHeadFormed r.vars) (heads_of r)
  pub pairs : All (IsPairFormed r.vars) r.pairs
  pub tests : All (IsFormedOver r.vars) r.tests
  pub body : IfSome r.body (IsFormedOver r.vars)
  pub head_places : length r.places.heads ≡ length (heads_of r)
  pub var_places : map (λ ps. length ps) r.places.vars ≡ map (λ t. length (occurrences t)) (goals_of r)
  pub pair_places : length r.places.pairs ≡ length r.pairs
  pub test_places : length r.places.tests ≡ length r.tests

-- a program: its predicates are those of its declarations and clauses
pub record IsWellFormed (p : Program) : Type 0 where
  pub clauses : All IsClauseFormed p.clauses
  pub rules : All IsRuleFormed p.rules
  pub preds : p.preds ≡ gathered p.decls p.clauses
