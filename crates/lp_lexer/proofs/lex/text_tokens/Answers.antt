use Rattle.std.proofs.Common.{◌≡◌, ◌∙◌, sym, ap, subst, arith, Ok, IfOk, IfErr}
use Rattle.lp_lexer.specs.Scan.{utf8_len}
use Rattle.lp_lexer.specs.Lexing.{IsFault}
use Rattle.lp_lexer.proofs.Lists.{by_chars, utf8_chars}
use Rattle.lp_lexer.proofs.lex.text_tokens.Goals as goal

pub token_list-requires : goal.token_list-requires
token_list-requires c = omega (arith, ap utf8_len (c.as_slice.ensures.value ∙ c.in_ok-list.ensures), utf8_chars c.args.text.now c.utf8.text)

pub returns-clause-tokens : goal.returns-clause-tokens
returns-clause-tokens c =
    subst (λ r. IfOk c.token_list.result (λ list. r ≡ Ok list.items))
    (sym (by_chars c.args.text.now _ c.utf8.text (c.as_slice.ensures.value ∙ c.in_ok-list.ensures))) c.token_list.ensures.tokens

pub returns-clause-fault : goal.returns-clause-fault
returns-clause-fault c =
    subst (λ r. IfErr c.token_list.result (IsFault r))
    (sym (by_chars c.args.text.now _ c.utf8.text (c.as_slice.ensures.value ∙ c.in_ok-list.ensures))) c.token_list.ensures.fault
