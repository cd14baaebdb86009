-- The machines that read items and queries: where each lexeme leads.
use Rattle.std.specs.Prelude.{List, [], ◌∷◌, ◌++◌, Option, Some, None}
use Rattle.lp_parser.specs.declared.ast.Place.{Place}
use Rattle.lp_parser.specs.declared.ast.WordKind.TheVariants.{Name}
use Rattle.lp_parser.specs.declared.ast.Word.{Word}
use Rattle.lp_parser.specs.declared.ast.AstTerm.{AstTerm}
use Rattle.lp_parser.specs.declared.ast.Decl.{Decl}
use Rattle.lp_parser.specs.declared.ast.Rule.{Rule}
use Rattle.lp_parser.specs.declared.ast.Block.{Block}
use Rattle.lp_parser.specs.declared.ast.Item.{Item}
use Rattle.lp_parser.specs.declared.ast.Item.TheVariants as item
use Rattle.lp_parser.specs.declared.lexeme.Mark.{Mark}
use Rattle.lp_parser.specs.declared.lexeme.Mark.TheVariants as mark
use Rattle.lp_parser.specs.declared.lexeme.Lexeme.{Lexeme}
use Rattle.lp_parser.specs.declared.lexeme.Lexeme.TheVariants as lexeme
use Rattle.lp_parser.specs.declared.state.State.{State}
use Rattle.lp_parser.specs.declared.state.State.TheVariants.{Want}
use Rattle.lp_parser.specs.declared.item_state.Given.TheVariants as given
use Rattle.lp_parser.specs.declared.item_state.DeclState.{DeclState}
use Rattle.lp_parser.specs.declared.item_state.DeclState.TheVariants as decl
use Rattle.lp_parser.specs.declared.item_state.RulePlace.TheVariants as at
use Rattle.lp_parser.specs.declared.item_state.RuleState.{RuleState}
use Rattle.lp_parser.specs.declared.item_state.BlockState.{BlockState}
use Rattle.lp_parser.specs.declared.item_state.BlockState.TheVariants as block
use Rattle.lp_parser.specs.declared.item_state.ItemState.{ItemState}
use Rattle.lp_parser.specs.declared.item_state.ItemState.TheVariants as place
use Rattle.lp_parser.specs.declared.item_state.QueryState.{QueryState}
use Rattle.lp_parser.specs.declared.item_state.QueryState.TheVariants as query
use Rattle.lp_parser.specs.declared.item_state.Moved.{Moved}
use Rattle.lp_parser.specs.declared.item_state.Moved.TheVariants.{To, Done}
use Rattle.lp_parser.specs.Program.{place_of}
use Rattle.lp_parser.specs.inside.TermMachine.{step, settled_at}
use Rattle.lp_parser.specs.inside.DeclMachine.{decl_move}
use Rattle.lp_parser.specs.inside.RuleMachine.{empty_rule, whole, rule_move}

-- where a lexeme leads from a state of a block
abbrev pub BlockMoved : Type 0
BlockMoved = Option (Moved BlockState Block)

-- where a lexeme leads from a state of an item
abbrev pub ItemMoved : Type 0
ItemMoved = Option (Moved ItemState Item)

-- a name of a block, behind these, or the bracket before its rules
abbrev pub block_name : List Word → Lexeme → BlockMoved
block_name ws (lexeme.Word Name x p) = Some (To (block.Names (ws ++ record { text = x; place = p } ∷ [])))
block_name ws (lexeme.Mark mark.OpenCurly p) = Some (To (block.Rules ws []))
block_name ws _ = None

-- between the rules of a block
abbrev pub between_rules : List Word → List Rule → Lexeme → BlockMoved
between_rules ws rs (lexeme.Mark mark.RuleWord p) = Some (To (block.Rule ws rs (record { rule = empty_rule p; at = at.Start })))
between_rules ws rs (lexeme.Mark mark.CloseCurly p) = Some (Done (record { names = ws; rules = rs }))
between_rules ws rs _ = None

-- in a rule, from where it leads
abbrev pub in_rule : List Word → List Rule → Option (Moved RuleState Rule) → BlockMoved
in_rule ws rs None = None
in_rule ws rs (Some (To z)) = Some (To (block.Rule ws rs z))
in_rule ws rs (Some (Done r)) = Some (To (block.Rules ws (rs ++ r ∷ [])))

-- where a lexeme leads in a block
abbrev pub block_move : BlockState → Lexeme → BlockMoved
block_move (block.Names ws) c = block_name ws c
block_move (block.Rules ws rs) c = between_rules ws rs c
block_move (block.Rule ws rs z) c = in_rule ws rs (rule_move z c)

-- in a declaration, from where it leads
abbrev pub in_decl : Option (Moved DeclState Decl) → ItemMoved
in_decl None = None
in_decl (Some (To z)) = Some (To (place.Decl z))
in_decl (Some (Done d)) = Some (Done (item.Decl d))

-- in a block, from where it leads
abbrev pub in_block : BlockMoved → ItemMoved
in_block None = None
in_block (Some (To z)) = Some (To (place.Block z))
in_block (Some (Done b)) = Some (Done (item.Block b))

-- the clause that began at the place p, where it is over
abbrev pub ends_clause : Place → Option AstTerm → Lexeme → ItemMoved
ends_clause p (Some t) (lexeme.Mark mark.Dot d) = Some (Done (item.Clause (record { term = t; place = p })))
ends_clause p _ _ = None

-- in the clause that began at the place p, where a lexeme leads the term to that state, or to none
abbrev pub in_clause : Place → Option State → Lexeme → Option AstTerm → ItemMoved
in_clause p (Some q) c t = Some (To (place.Clause p q))
in_clause p None c t = ends_clause p t c

-- the item that a mark begins
abbrev pub begins_marked : Mark → ItemMoved
begins_marked mark.KindWord = Some (To (place.Decl (decl.Name given.Kind [])))
begins_marked mark.TypeWord = Some (To (place.Decl (decl.Name given.TypeOf [])))
begins_marked mark.PredWord = Some (To (place.Decl decl.Pred))
begins_marked mark.ConstraintWord = Some (To (place.Block (block.Names [])))
begins_marked _ = None

-- the item that a lexeme begins
abbrev pub begins : Lexeme → ItemMoved
begins (lexeme.Mark m p) = begins_marked m
begins c = in_clause (place_of c) (step (Want []) c) c None

-- where a lexeme leads
abbrev pub move : ItemState → Lexeme → ItemMoved
move place.Between c = begins c
move (place.Decl z) c = in_decl (decl_move z c)
move (place.Block z) c = in_block (block_move z c)
move (place.Clause p q) c = in_clause p (step q c) c (whole (settled_at q))

-- the items that are read, and the state behind them
abbrev pub moved : List Item → ItemMoved → Option (List Item × ItemState)
moved is None = None
moved is (Some (To z)) = Some (is, z)
moved is (Some (Done i)) = Some (is ++ i ∷ [], place.Between)

-- the same from the items and the state before the lexeme
abbrev pub item_step : List Item × ItemState → Lexeme → Option (List Item × ItemState)
item_step z c = moved z.0 (move z.1 c)

-- the items, where the last one is over
abbrev pub item_whole : List Item × ItemState → Option (List Item)
item_whole (is, place.Between) = Some is
item_whole (is, _) = None

-- the query that is over behind its dot
abbrev pub ends_query : Option AstTerm → Lexeme → Option QueryState
ends_query (Some t) (lexeme.Mark mark.Dot d) = Some (query.Ended t)
ends_query _ _ = None

-- in a query, where a lexeme leads the term to that state, or to none
abbrev pub in_query : Option State → Lexeme → Option AstTerm → Option QueryState
in_query (Some q) c t = Some (query.Term q)
in_query None c t = ends_query t c

-- where a lexeme leads in a query
abbrev pub query_step : QueryState → Lexeme → Option QueryState
query_step (query.Term q) c = in_query (step q c) c (whole (settled_at q))
query_step (query.Ended t) c = None

-- the term of a query, where it may end
abbrev pub query_whole : QueryState → Option AstTerm
query_whole (query.Term q) = whole (settled_at q)
query_whole (query.Ended t) = Some t
