-- States in which all variables are below the next one, and the programs and queries that keep them so.
use Rattle.std.specs.Prelude.{ℕ, ◌<◌, List, length, Option, Some, None, option_to_list}
use Rattle.ref_terms.specs.search.Program.{Clause, RuleHead, Rule, Program, Query}
use Rattle.ref_terms.specs.search.Branch.{Branch}
use Rattle.ref_terms.specs.search.State.{Candidate, of_program, of_assumption, Alternative, later_clauses, other_side, State, Running, Ended, Over}
use Rattle.ref_terms.specs.search.RuleMatch.{heads_of}
use Rattle.ref_terms.specs.search.Used.{Every, UsesBelow, AssumptionBelow, BranchBelow}

-- the variables of a clause are below their number
abbrev pub ClauseBelow : Clause → Type 0
ClauseBelow k = UsesBelow k.variables k.head × Every (UsesBelow k.variables) (option_to_list k.body)

-- a context, where there is one, is a variable below this number
abbrev pub ContextBelow : (variables : ℕ) → Option ℕ → Type 0
ContextBelow n None = Unit {0}
ContextBelow n (Some v) = v < n

-- the variables of a rule's head are below this number
abbrev pub RuleHeadBelow : (variables : ℕ) → RuleHead → Type 0
RuleHeadBelow n h = ContextBelow n h.context × UsesBelow n h.goal

-- the variables of a rule are below their number; its tests make no difference
abbrev pub RuleBelow : Rule → Type 0
RuleBelow r = Every (RuleHeadBelow r.variables) (heads_of r) × ContextBelow r.variables r.body_context × Every (UsesBelow r.variables) (option_to_list r.body)

-- so it is of each clause and each rule
abbrev pub ProgramBelow : Program → Type 0
ProgramBelow p = Every ClauseBelow p.clauses × Every RuleBelow p.rules

-- the variables of a query are below their number
abbrev pub QueryBelow : Query → Type 0
QueryBelow q = UsesBelow (length q.variables) q.goal

-- a clause to be tried: the variables of a program clause are its own, those of an assumption are the branch's
abbrev pub CandidateBelow : (next_var : ℕ) → Candidate → Type 0
CandidateBelow q (of_program i k) = ClauseBelow k
CandidateBelow q (of_assumption i h) = AssumptionBelow q h

-- the branch of an alternative, and the clauses that are left to it
abbrev pub AlternativeBelow : Alternative → Type 0
AlternativeBelow (later_clauses b cs) = BranchBelow b × Every (CandidateBelow b.next_var) cs
AlternativeBelow (other_side b) = BranchBelow b

-- in the present branch, if there is one, and in each alternative all variables are below the next one
abbrev pub StateBelow : State → Type 0
StateBelow (Running b xs) = BranchBelow b × Every AlternativeBelow xs
StateBelow (Ended None xs) = Every AlternativeBelow xs
StateBelow (Ended (Some b) xs) = BranchBelow b × Every AlternativeBelow xs
StateBelow (Over e) = Unit {0}
