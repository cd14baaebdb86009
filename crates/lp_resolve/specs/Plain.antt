-- The program and the query that the search runs: trees as terms, and no places.
use Rattle.std.specs.Prelude.{ℕ, suc, false, List, [], ◌∷◌, map, Option, Some, None, option_map, option_and_then, nat_eq}
use Rattle.std.specs.List.{filter_map, position}
use Rattle.std.specs.Option.{option_map_or}
use Rattle.ref_terms.specs.declared.tree.Tree.{Tree}
use Rattle.ref_terms.specs.declared.pair.Pair.{Pair}
use Rattle.ref_terms.specs.search.Front.{term_of}
use Rattle.ref_terms.specs.terms.Term.{Term}
use Rattle.ref_terms.specs.search.Program as plain
use Rattle.lp_resolve.specs.declared.program.Program.{Program}
use Rattle.lp_resolve.specs.declared.program.PredLine.{PredLine}
use Rattle.lp_resolve.specs.declared.program.ClauseTree.{ClauseTree}
use Rattle.lp_resolve.specs.declared.program.HeadTree.{HeadTree}
use Rattle.lp_resolve.specs.declared.program.PairTree.{PairTree}
use Rattle.lp_resolve.specs.declared.program.RuleTree.{RuleTree}
use Rattle.lp_resolve.specs.declared.query.Query.{Query}
use Rattle.lp_resolve.specs.declared.query.QueryVar.{QueryVar}
use Rattle.lp_resolve.specs.Heads.{args_of, variable_of}
use Rattle.lp_resolve.specs.StaticRules.{goals_of}

-- the term of a tree, where the variable i of the tree is the variable i
abbrev pub plain_term : Tree → Term
plain_term t = term_of 0 t

-- the declaration of a predicate
abbrev pub plain_pred : PredLine → plain.Pred
plain_pred d = record { name = d.name.0; inputs = d.inputs }

-- the clause
abbrev pub plain_clause : ClauseTree → plain.Clause
plain_clause c = record { variables = c.vars; head = plain_term c.head; body = option_map plain_term c.body }

-- the head of a rule
abbrev pub plain_head : HeadTree → plain.RuleHead
plain_head h = record { context = h.context; goal = plain_term h.goal }

-- the first argument of a tree that is this variable alone, counted from 0
abbrev pub whole_argument : ℕ → Tree → Option ℕ
whole_argument v t = position (λ a. option_map_or (nat_eq v) (variable_of a) false) (args_of t)

-- the first head with this variable as a whole argument, and the first such argument, both counted from `head` on
abbrev pub whole_place : ℕ → (head : ℕ) → List Tree → Option (ℕ × ℕ)
whole_place v head [] = None
whole_place v head (t ∷ ts) = option_map_or (λ arg. Some (head, arg)) (whole_argument v t) (whole_place v (suc head) ts)

-- the arguments at these places, where both are there
abbrev pub aligned : Option (ℕ × ℕ) → Option (ℕ × ℕ) → Option Pair
aligned (Some l) (Some r) = Some (record { left_head = l.0; left_arg = l.1; right_head = r.0; right_arg = r.1 })
aligned _ _ = None

-- the arguments that a pair aligns, where the rule has these goals as heads
abbrev pub plain_pair : List Tree → PairTree → Option Pair
plain_pair goals pair = aligned (whole_place pair.left 0 goals) (whole_place pair.right 0 goals)

-- the rule; each of its pairs aligns two arguments, where no static rule is broken, and no text gives its body a context
abbrev pub plain_rule : RuleTree → plain.Rule
plain_rule r = record {
  names = map (λ c. c.0) r.names;
  variables = r.vars;
  kept = map plain_head r.kept;
  removed = map plain_head r.removed;
  pairs = filter_map (plain_pair (goals_of r)) r.pairs;
  tests = map plain_term r.tests;
  body_context = None;
  body = option_map plain_term r.body;
}

-- the program over the table of the symbols' texts
abbrev pub plain_program : (table : List (List ℕ)) → Program → plain.Program
plain_program table p = record {
  symbols = table;
  preds = map plain_pred p.decls;
  clauses = map plain_clause p.clauses;
  rules = map plain_rule p.rules;
}

-- a variable of a query
abbrev pub plain_variable : QueryVar → plain.QueryVar
plain_variable v = record { name = v.name.0; shown = v.shown }

-- the query
abbrev pub plain_query : Query → plain.Query
plain_query q = record { variables = map plain_variable q.vars; goal = plain_term q.goal }
