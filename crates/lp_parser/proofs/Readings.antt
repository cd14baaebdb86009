-- `items_of` and `term_of` say what the grammar and the nesting say.
use Rattle.std.proofs.Common.{◌≡◌, ℕ, List, []}
use Rattle.lp_parser.specs.declared.ast.AstTerm.{AstTerm}
use Rattle.lp_parser.specs.declared.ast.Item.{Item}
use Rattle.lp_parser.specs.declared.error.GrammarRule.{GrammarRule}
use Rattle.lp_parser.specs.declared.error.GrammarRule.TheVariants as rule
use Rattle.lp_parser.specs.declared.lexeme.Lexeme.{Lexeme}
use Rattle.lp_parser.specs.declared.state.State.TheVariants.{Want}
use Rattle.lp_parser.specs.declared.item_state.ItemState.TheVariants.{Between}
use Rattle.lp_parser.specs.declared.item_state.QueryState.TheVariants.{Term}
use Rattle.lp_parser.specs.Program.{Program, Query}
use Rattle.lp_parser.specs.Refusal.{IsUnexpected, IsDeep}
use Rattle.lp_parser.specs.inside.ItemMachine.{item_step, item_whole, query_step, query_whole}
use Rattle.lp_parser.specs.Reading.{Accepted, Unexpected, Deep, HasItems, HasTerm, IsProgram, IsQuery, items_of, term_of}
use Rattle.lp_parser.proofs.Answers.{one_tree, says_accepted, accepted_said, says_unexpected, unexpected_said, says_deep, deep_said}
use Rattle.lp_parser.proofs.Items.{reads_programs, reads_queries}

pub one_program : (u : List Lexeme) (is js : List Item) → Program u is → Program u js → is ≡ js
one_program = one_tree item_step item_whole ([], Between) Program rule.Item reads_programs

pub one_query : (u : List Lexeme) (s t : AstTerm) → Query u s → Query u t → s ≡ t
one_query = one_tree query_step query_whole (Term (Want [])) Query rule.Query reads_queries

pub program_sound : (u : List Lexeme) (is : List Item) → items_of u ≡ Accepted is → IsProgram u is
unfolding items_of
program_sound u is e =
    let both = says_accepted item_step item_whole ([], Between) Program rule.Item reads_programs u is e in
    record { grammar = both.0; shallow = both.1 }

pub program_complete : (u : List Lexeme) (is : List Item) → IsProgram u is → items_of u ≡ Accepted is
unfolding items_of
program_complete u is p = accepted_said item_step item_whole ([], Between) Program rule.Item reads_programs u is p.grammar p.shallow

pub query_sound : (u : List Lexeme) (t : AstTerm) → term_of u ≡ Accepted t → IsQuery u t
unfolding term_of
query_sound u t e =
    let both = says_accepted query_step query_whole (Term (Want [])) Query rule.Query reads_queries u t e in
    record { grammar = both.0; shallow = both.1 }

pub query_complete : (u : List Lexeme) (t : AstTerm) → IsQuery u t → term_of u ≡ Accepted t
unfolding term_of
query_complete u t p = accepted_said query_step query_whole (Term (Want [])) Query rule.Query reads_queries u t p.grammar p.shallow

pub program_unexpected : (u : List Lexeme) (i : ℕ) (r : GrammarRule) → items_of u ≡ Unexpected i r → IsUnexpected HasItems rule.Item u i r
unfolding items_of
program_unexpected u i r e = says_unexpected item_step item_whole ([], Between) Program rule.Item reads_programs u i r e

pub unexpected_program : (u : List Lexeme) (i : ℕ) (r : GrammarRule) → IsUnexpected HasItems rule.Item u i r → items_of u ≡ Unexpected i r
unfolding items_of
unexpected_program u i r x = unexpected_said item_step item_whole ([], Between) Program rule.Item reads_programs u i r x

pub query_unexpected : (u : List Lexeme) (i : ℕ) (r : GrammarRule) → term_of u ≡ Unexpected i r → IsUnexpected HasTerm rule.Query u i r
unfolding term_of
query_unexpected u i r e = says_unexpected query_step query_whole (Term (Want [])) Query rule.Query reads_queries u i r e

pub unexpected_query : (u : List Lexeme) (i : ℕ) (r : GrammarRule) → IsUnexpected HasTerm rule.Query u i r → term_of u ≡ Unexpected i r
unfolding term_of
unexpected_query u i r x = unexpected_said query_step query_whole (Term (Want [])) Query rule.Query reads_queries u i r x

pub program_deep : (u : List Lexeme) (i : ℕ) → items_of u ≡ Deep i → IsDeep HasItems u i
unfolding items_of
program_deep u i e = says_deep item_step item_whole ([], Between) Program rule.Item reads_programs u i e

pub deep_program : (u : List Lexeme) (i : ℕ) → IsDeep HasItems u i → items_of u ≡ Deep i
unfolding items_of
deep_program u i d = deep_said item_step item_whole ([], Between) Program rule.Item reads_programs u i d

pub query_deep : (u : List Lexeme) (i : ℕ) → term_of u ≡ Deep i → IsDeep HasTerm u i
unfolding term_of
query_deep u i e = says_deep query_step query_whole (Term (Want [])) Query rule.Query reads_queries u i e

pub deep_query : (u : List Lexeme) (i : ℕ) → IsDeep HasTerm u i → term_of u ≡ Deep i
unfolding term_of
deep_query u i d = deep_said query_step query_whole (Term (Want [])) Query rule.Query reads_queries u i d
