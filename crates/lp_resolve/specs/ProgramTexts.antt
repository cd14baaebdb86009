-- The texts of a program's symbols, in the order of the texts; `kind` and `type` have none.
use Rattle.std.specs.Prelude.{ℕ, List, [], ◌∷◌, ◌++◌, map, flat_map, Option, Some, None}
use Rattle.lp_parser.specs.declared.ast.AstTerm.{AstTerm}
use Rattle.lp_parser.specs.declared.ast.Word.{Word}
use Rattle.lp_parser.specs.declared.ast.WordPair.{WordPair}
use Rattle.lp_parser.specs.declared.ast.Decl.{Decl}
use Rattle.lp_parser.specs.declared.ast.Decl.TheVariants.{KindDecl, TypeDecl, PredDecl}
use Rattle.lp_parser.specs.declared.ast.RuleHead.{RuleHead}
use Rattle.lp_parser.specs.declared.ast.Rule.{Rule}
use Rattle.lp_parser.specs.declared.ast.Block.{Block}
use Rattle.lp_parser.specs.declared.ast.Item.{Item}
use Rattle.lp_parser.specs.declared.ast.Item.TheVariants as item
use Rattle.lp_resolve.specs.Texts.{texts_of}

-- the texts of a word that may be missing
abbrev pub word_texts : Option Word → List (List ℕ)
word_texts None = []
word_texts (Some w) = w.text ∷ []

-- the texts of a term that may be missing
abbrev pub term_texts : Option AstTerm → List (List ℕ)
term_texts None = []
term_texts (Some t) = texts_of t

-- the texts of a head of a rule
abbrev pub head_texts : RuleHead → List (List ℕ)
head_texts h = word_texts h.context ++ texts_of h.goal

-- the texts of a pair
abbrev pub pair_texts : WordPair → List (List ℕ)
pair_texts p = p.left.text ∷ p.right.text ∷ []

-- the texts of a rule
abbrev pub rule_texts : Rule → List (List ℕ)
rule_texts r = flat_map head_texts r.kept ++ flat_map head_texts r.removed ++ flat_map pair_texts r.pairs ++ flat_map texts_of r.tests ++ term_texts r.body

-- the texts of a declaration
abbrev pub decl_texts : Decl → List (List ℕ)
decl_texts (KindDecl names arrows) = []
decl_texts (TypeDecl names ty) = []
decl_texts (PredDecl name args) = name.text ∷ []

-- the texts of a block
abbrev pub block_texts : Block → List (List ℕ)
block_texts b = map (λ w. w.text) b.names ++ flat_map rule_texts b.rules

-- the texts of an item
abbrev pub item_texts : Item → List (List ℕ)
item_texts (item.Decl d) = decl_texts d
item_texts (item.Clause c) = texts_of c.term
item_texts (item.Block b) = block_texts b

-- the texts of a program
abbrev pub program_texts : List Item → List (List ℕ)
program_texts items = flat_map item_texts items
