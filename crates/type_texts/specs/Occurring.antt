-- Which constants occur in a program.
use Rattle.std.specs.Prelude.{ℕ, ◌&&◌, nat_lt, List, [], ◌∷◌, ◌++◌, flat_map, filter, Option, is_none}
use Rattle.std.specs.Option.{option_map_or}
use Rattle.ref_terms.specs.terms.Term as term
use Rattle.ref_terms.specs.terms.Term.{Term, Head}
use Rattle.ref_terms.specs.declared.tree.Tree.{Tree}
use Rattle.lp_resolve.specs.declared.program.Program.{Program}
use Rattle.lp_resolve.specs.declared.program.ClauseTree.{ClauseTree}
use Rattle.lp_resolve.specs.declared.program.RuleTree.{RuleTree}
use Rattle.lp_resolve.specs.declared.program.HeadTree.{HeadTree}
use Rattle.lp_resolve.specs.Heads.{args_of}
use Rattle.lp_resolve.specs.Trees.{as_term}
use Rattle.type_terms.specs.declared.scheme.Polytype.{Polytype}
use Rattle.type_texts.specs.TypeText.{noted_all}

-- the constant that a head is
abbrev pub head_constants : Head → List ℕ
head_constants (term.Con c) = c ∷ []
head_constants (term.Int z) = []
head_constants (term.Str s) = []
head_constants (term.Bound i) = []
head_constants (term.Var i) = []
head_constants (term.Name i) = []

-- the constants of a term, from the left, each as often as it stands there
abbrev pub constants_in : Term → List ℕ
constants_in (term.Lam b) = constants_in b
constants_in (term.At h) = head_constants h
constants_in (term.App f a) = constants_in f ++ constants_in a

-- of a tree, of trees, of a body
abbrev pub tree_constants : Tree → List ℕ
tree_constants t = constants_in (as_term t)

abbrev pub body_constants : Option Tree → List ℕ
body_constants body = option_map_or tree_constants body []

-- of a clause
abbrev pub clause_constants : ClauseTree → List ℕ
clause_constants c = tree_constants c.head ++ body_constants c.body

-- of a rule: the word that heads a test is none, nor are the names of a block
abbrev pub goal_constants : HeadTree → List ℕ
goal_constants h = tree_constants h.goal

abbrev pub test_constants : Tree → List ℕ
test_constants t = flat_map tree_constants (args_of t)

abbrev pub rule_constants : RuleTree → List ℕ
rule_constants r = flat_map goal_constants r.kept ++ (flat_map goal_constants r.removed ++ (flat_map test_constants r.tests ++ body_constants r.body))

-- of a program
abbrev pub occurring : Program → List ℕ
occurring p = flat_map clause_constants p.clauses ++ flat_map rule_constants p.rules

-- the constants of a table of so many names that occur in a program and have no declared type, each once
abbrev pub undeclared : (count : ℕ) (declared : ℕ → Option Polytype) → Program → List ℕ
undeclared count declared p = filter (λ c. nat_lt c count && is_none (declared c)) (noted_all [] (occurring p))
