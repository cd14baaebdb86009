-- The symbols of a program are those of a table.
use Rattle.std.specs.Prelude.{ℕ, ◌<◌, List, All, Option, IfSome}
use Rattle.ref_terms.specs.declared.tree.Tree.{Tree}
use Rattle.lp_resolve.specs.declared.program.Program.{Program}
use Rattle.lp_resolve.specs.declared.program.ClauseTree.{ClauseTree}
use Rattle.lp_resolve.specs.declared.program.RuleTree.{RuleTree}
use Rattle.lp_resolve.specs.inside.Named.{IsNamed}
use Rattle.lp_resolve.specs.StaticRules.{goals_of}
use Rattle.lp_resolve.specs.Trees.{as_term}

-- a tree whose symbols are among so many
abbrev pub IsTreeNamed : (count : ℕ) → Tree → Type 0
IsTreeNamed count t = IsNamed count (as_term t)

-- a clause
pub record IsClauseNamed (count : ℕ) (c : ClauseTree) : Type 0 where
  pub head : IsTreeNamed count c.head
  pub body : IfSome c.body (IsTreeNamed count)

-- a rule
pub record IsRuleNamed (count : ℕ) (r : RuleTree) : Type 0 where
  pub names : All (λ s. s.0 < count) r.names
  pub heads : All (IsTreeNamed count) (goals_of r)
  pub tests : All (IsTreeNamed count) r.tests
  pub body : IfSome r.body (IsTreeNamed count)

-- A program whose symbols are among so many.
pub record IsProgramNamed (count : ℕ) (p : Program) : Type 0 where
  pub clauses : All (IsClauseNamed count) p.clauses
  pub rules : All (IsRuleNamed count) p.rules
  pub decls : All (λ d. d.name.0 < count) p.decls
