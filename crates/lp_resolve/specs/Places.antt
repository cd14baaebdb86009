-- Places in the texts.
use Rattle.std.specs.Prelude.{ℕ, Bool, ◌&&◌, ◌||◌, nat_eq, nat_lt}
use Rattle.lp_parser.specs.declared.ast.Place.{Place}
use Rattle.lp_parser.specs.declared.ast.AstTerm.{AstTerm, fold-AstTerm}
use Rattle.lp_parser.specs.declared.ast.AstTerm.TheOpen.{AstTerm-F}

-- a lower number, or an equal one and the rest
abbrev pub is_less_or : ℕ → ℕ → Bool → Bool
is_less_or a b rest = nat_lt a b || (nat_eq a b && rest)

-- the order of the texts: by file, then by byte
abbrev pub is_before : Place → Place → Bool
is_before a b = is_less_or a.file b.file (nat_lt a.at b.at)

-- the first token of one layer of a term that isn't `(`, those of its parts already known
abbrev pub first_token_at : AstTerm-F Place → Place
first_token_at (AstTerm-F.Word kind text place) = place
first_token_at (AstTerm-F.Int value place) = place
first_token_at (AstTerm-F.Str text place) = place
first_token_at (AstTerm-F.App head arguments) = head
first_token_at (AstTerm-F.Bind text place body) = place
first_token_at (AstTerm-F.Op operator place left right) = left
first_token_at (AstTerm-F.Quant universal place body) = place
first_token_at (AstTerm-F.List place elements tail) = place

-- the first token of a term that isn't `(`
abbrev pub first_token : AstTerm → Place
first_token = fold-AstTerm Place first_token_at
