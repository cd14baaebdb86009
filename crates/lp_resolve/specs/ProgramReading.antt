-- What the items of a program are read as, over the table of the symbols' texts.
use Rattle.std.specs.Prelude.{ℕ, Bool, true, false, ◌&&◌, nat_eq, List, [], ◌∷◌, ◌++◌, length, map, flat_map, take, drop, Option, Some, None, option_map}
use Rattle.std.specs.Option.{option_map_or}
use Rattle.lp_parser.specs.declared.ast.Place.{Place}
use Rattle.lp_parser.specs.declared.ast.AstTerm.{AstTerm}
use Rattle.lp_parser.specs.declared.ast.Word.{Word}
use Rattle.lp_parser.specs.declared.ast.WordPair.{WordPair}
use Rattle.lp_parser.specs.declared.ast.AstArg.{AstArg}
use Rattle.lp_parser.specs.declared.ast.Decl.{Decl}
use Rattle.lp_parser.specs.declared.ast.Decl.TheVariants.{KindDecl, TypeDecl, PredDecl}
use Rattle.lp_parser.specs.declared.ast.Clause.{Clause}
use Rattle.lp_parser.specs.declared.ast.RuleHead.{RuleHead}
use Rattle.lp_parser.specs.declared.ast.Rule.{Rule}
use Rattle.lp_parser.specs.declared.ast.Block.{Block}
use Rattle.lp_parser.specs.declared.ast.Item.{Item}
use Rattle.lp_parser.specs.declared.ast.Item.TheVariants as item
use Rattle.ref_terms.specs.declared.sym.Sym.{Sym}
use Rattle.ref_terms.specs.declared.tree.Tree.{Tree}
use Rattle.lp_resolve.specs.declared.program.Program.{Program}
use Rattle.lp_resolve.specs.declared.program.PredLine.{PredLine}
use Rattle.lp_resolve.specs.declared.program.ClauseTree.{ClauseTree}
use Rattle.lp_resolve.specs.declared.program.HeadTree.{HeadTree}
use Rattle.lp_resolve.specs.declared.program.PairTree.{PairTree}
use Rattle.lp_resolve.specs.declared.program.RuleTree.{RuleTree}
use Rattle.lp_resolve.specs.declared.placed.PlacedHead.{PlacedHead}
use Rattle.lp_resolve.specs.declared.placed.RuleParts.{RuleParts}
use Rattle.lp_resolve.specs.Symbols.{number_of}
use Rattle.lp_resolve.specs.Variables.{Met, nothing_met, number_in, met_word}
use Rattle.lp_resolve.specs.Reading.{reading}
use Rattle.lp_resolve.specs.Treed.{tree_of}
use Rattle.lp_resolve.specs.Heads.{constant_of, args_of}
use Rattle.lp_resolve.specs.Occurrences.{occurrences}
use Rattle.lp_resolve.specs.Places.{first_token}
use Rattle.lp_resolve.specs.Gathered.{gathered}

-- whether a symbol is `:-`
abbrev pub is_implied : Option ℕ → Bool
is_implied c = option_map_or (nat_eq 6) c false

-- a tree headed by `:-` with two arguments
abbrev pub is_implication : Tree → Bool
is_implication t = is_implied (constant_of t) && nat_eq 2 (length (args_of t))

-- such a tree with these arguments as head and body; any other is a head alone
abbrev pub parted : (implication : Bool) → Tree → List Tree → Tree × Option Tree
parted true t (head ∷ body ∷ []) = (head, Some body)
parted _ t args = (t, None)

-- the head and the body of a clause
abbrev pub head_and_body : Tree → Tree × Option Tree
head_and_body t = parted (is_implication t) t (args_of t)

-- an item that was read, and the variables that were met up to its end
pub record Read (A : Type 0) : Type 0 where
  pub value : A
  pub met : Met

-- items from the left, each after the variables that were met before it
abbrev pub read_all : {A B : Type 0} → (Met → A → Read B) → Met → List A → Read (List B)
read_all read met [] = record { value = []; met = met }
read_all read met (x ∷ xs) =
    let first = read met x in
    let rest = read_all read first.met xs in
    record { value = first.value ∷ rest.value; met = rest.met }

-- an item that may be missing
abbrev pub read_option : {A B : Type 0} → (Met → A → Read B) → Met → Option A → Read (Option B)
read_option read met None = record { value = None; met = met }
read_option read met (Some x) = let it = read met x in record { value = Some it.value; met = it.met }

-- a clause whose tree has this head and body; the head has the first of the variables
abbrev pub clause_with : Clause → (met : Met) → Tree × Option Tree → ClauseTree
clause_with c met parts = record {
  vars = length met.names;
  head = parts.0;
  body = parts.1;
  places = record { first = c.place; head = first_token c.term; vars = take (length (occurrences parts.0)) met.places };
}

-- a rule of these parts, with so many variables
abbrev pub rule_with : List Sym → Rule → RuleParts → (vars : ℕ) → RuleTree
rule_with names r parts vars = record {
  names = names;
  vars = vars;
  kept = map (λ h. h.head) parts.kept;
  removed = map (λ h. h.head) parts.removed;
  pairs = parts.pairs;
  tests = parts.tests;
  body = parts.body;
  places = record {
    rule = r.place;
    heads = map (λ h. h.place) parts.kept ++ map (λ h. h.place) parts.removed;
    vars = map (λ h. h.vars) parts.kept ++ map (λ h. h.vars) parts.removed;
    pairs = map (λ p. p.left.place) r.pairs;
    tests = map first_token r.tests;
  };
}

module _ (table : List (List ℕ)) where
  -- the symbol of a word
  abbrev pub symbol_of : Word → Sym
  symbol_of w = record { 0 = number_of table w.text }

  -- a term
  abbrev pub read_tree : Met → AstTerm → Read Tree
  read_tree met t = let it = reading table t [] met in record { value = tree_of it.term; met = it.met }

  -- a variable that stands outside a term
  abbrev pub read_variable : Met → Word → Read ℕ
  read_variable met w =
      let word = number_of table w.text in record { value = number_in met.names word; met = met_word word w.place met }

  -- a declaration of a predicate
  abbrev pub line_of : Word → List AstArg → PredLine
  line_of name args = record { name = symbol_of name; place = name.place; inputs = map (λ a. a.input) args }

  -- the declarations of predicates that a declaration is: one, or none
  abbrev pub lines_of : Decl → List PredLine
  lines_of (KindDecl names arrows) = []
  lines_of (TypeDecl names ty) = []
  lines_of (PredDecl name args) = line_of name args ∷ []

  -- a clause
  abbrev pub clause_of : Clause → ClauseTree
  clause_of c = let it = read_tree nothing_met c.term in clause_with c it.met (head_and_body it.value)

  -- a head of a rule; its context stands before its goal
  abbrev pub read_head : Met → RuleHead → Read PlacedHead
  read_head met h =
      let context = read_option read_variable met h.context in
      let goal = read_tree context.met h.goal in
      record {
        value = record {
          head = record { context = context.value; goal = goal.value };
          place = first_token h.goal;
          vars = drop (length context.met.places) goal.met.places;
        };
        met = goal.met;
      }

  -- a pair
  abbrev pub read_pair : Met → WordPair → Read PairTree
  read_pair met p =
      let left = read_variable met p.left in
      let right = read_variable left.met p.right in
      record { value = record { left = left.value; right = right.value }; met = right.met }

  -- the parts of a rule, from the left
  abbrev pub read_parts : Met → Rule → Read RuleParts
  read_parts met r =
      let kept = read_all read_head met r.kept in
      let removed = read_all read_head kept.met r.removed in
      let pairs = read_all read_pair removed.met r.pairs in
      let tests = read_all read_tree pairs.met r.tests in
      let body = read_option read_tree tests.met r.body in
      record {
        value = record { kept = kept.value; removed = removed.value; pairs = pairs.value; tests = tests.value; body = body.value };
        met = body.met;
      }

  -- a rule of a block with these names
  abbrev pub rule_of : List Sym → Rule → RuleTree
  rule_of names r = let it = read_parts nothing_met r in rule_with names r it.value (length it.met.names)

  -- the declarations of predicates in an item
  abbrev pub item_lines : Item → List PredLine
  item_lines (item.Decl d) = lines_of d
  item_lines (item.Clause c) = []
  item_lines (item.Block b) = []

  -- the clauses of an item
  abbrev pub item_clauses : Item → List ClauseTree
  item_clauses (item.Decl d) = []
  item_clauses (item.Clause c) = clause_of c ∷ []
  item_clauses (item.Block b) = []

  -- the rules of a block
  abbrev pub block_rules : Block → List RuleTree
  block_rules b = map (rule_of (map symbol_of b.names)) b.rules

  -- the rules of an item
  abbrev pub item_rules : Item → List RuleTree
  item_rules (item.Decl d) = []
  item_rules (item.Clause c) = []
  item_rules (item.Block b) = block_rules b

  -- the program that the items are read as
  abbrev pub program_of : List Item → Program
  program_of items =
      let lines = flat_map item_lines items in
      let clauses = flat_map item_clauses items in
      record { preds = gathered lines clauses; clauses = clauses; rules = flat_map item_rules items; decls = lines }
