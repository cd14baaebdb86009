use Rattle.std.proofs.Common.{sym, subst, length}
use Rattle.lp_lexer.specs.Lexing.{AreWithin}
use Rattle.lp_lexer.proofs.Lists.{within}
use Rattle.lp_lexer.proofs.lex.tokens.Goals as goal

pub of-requires : goal.of-requires
of-requires c =
    subst (λ z. AreWithin (length z) c.in_ok-list.list.items) (sym c.in_ok-bytes.ensures.items) (within c.args.text.now c.in_ok-list.list.items c.in_ok-list.ensures.tokens)
