-- The names that are keywords.
use Rattle.std.specs.Prelude.{ℕ, List, Option, Some, None, codes, bytes_eq, if◌then◌else◌}
use Rattle.lp_lexer.specs.declared.token.Keyword.{Keyword}
use Rattle.lp_lexer.specs.declared.token.Keyword.TheVariants as keyword

-- the keyword that the word is, if it is one
abbrev pub keyword_of : List ℕ → Option Keyword
keyword_of w =
    if bytes_eq w (codes "pi") then Some keyword.Pi
    else (if bytes_eq w (codes "sigma") then Some keyword.Sigma
    else (if bytes_eq w (codes "pred") then Some keyword.Pred
    else (if bytes_eq w (codes "kind") then Some keyword.Kind
    else (if bytes_eq w (codes "type") then Some keyword.TypeWord
    else (if bytes_eq w (codes "constraint") then Some keyword.Constraint
    else (if bytes_eq w (codes "rule") then Some keyword.Rule
    else (if bytes_eq w (codes "is") then Some keyword.Is
    else None)))))))
