-- The elaborator's program with a clause that opens so many alternatives before it elaborates a term.
use Rattle.std.specs.Prelude.{ℕ, List, [], ◌∷◌, ◌++◌, codes}
use Rattle.std.specs.Fmt.{decimal}
use Rattle.lp_samples.specs.Elaborator.{elaborator_text}

-- the clause's line: `main T :- down K _X, print K, demo T.`
abbrev pub chain_line : (k : ℕ) → List ℕ
chain_line k = codes "main T :- down " ++ (decimal k ++ (codes " _X, print " ++ (decimal k ++ (codes ", demo T." ++ 10 ∷ []))))

-- the text
unfoldable pub chain_text : (k : ℕ) → List ℕ
chain_text k = elaborator_text ++ chain_line k
