-- The texts of a term's words and strings.
use Rattle.std.specs.Prelude.{ℕ, List, [], ◌∷◌, ◌++◌, flat_map, Option, Some, None}
use Rattle.lp_parser.specs.declared.ast.AstTerm.{AstTerm, fold-AstTerm}
use Rattle.lp_parser.specs.declared.ast.AstTerm.TheOpen.{AstTerm-F}

-- those of a tail, where there is one
abbrev pub texts_of_tail : Option (List (List ℕ)) → List (List ℕ)
texts_of_tail None = []
texts_of_tail (Some tail) = tail

-- those of one layer, its parts already listed
abbrev pub texts_at : AstTerm-F (List (List ℕ)) → List (List ℕ)
texts_at (AstTerm-F.Word kind text place) = text ∷ []
texts_at (AstTerm-F.Int value place) = []
texts_at (AstTerm-F.Str text place) = text ∷ []
texts_at (AstTerm-F.App head arguments) = head ++ flat_map (λ texts. texts) arguments
texts_at (AstTerm-F.Bind text place body) = text ∷ body
texts_at (AstTerm-F.Op operator place left right) = left ++ right
texts_at (AstTerm-F.Quant universal place body) = body
texts_at (AstTerm-F.List place elements tail) = flat_map (λ texts. texts) elements ++ texts_of_tail tail

-- those of a term, from the left, bound words and holes among them
abbrev pub texts_of : AstTerm → List (List ℕ)
texts_of = fold-AstTerm (List (List ℕ)) texts_at
