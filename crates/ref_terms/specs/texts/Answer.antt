-- Texts of sequents and answers.
use Rattle.std.specs.Prelude.{ℕ, cond, List, [], ◌∷◌, ◌++◌, map, reverse, flat_map, codes, decimal}
use Rattle.ref_terms.specs.terms.Term.{Term, Name}
use Rattle.ref_terms.specs.unification.Closing.{names_below}
use Rattle.ref_terms.specs.search.Program.{QueryVar}
use Rattle.ref_terms.specs.search.Branch.{Constraint, Branch}
use Rattle.ref_terms.specs.declared.path.Choice.{Choice}
use Rattle.ref_terms.specs.declared.path.Choice.TheVariants.{Clause as ByClause, Hyp as ByAssumption, Left as LeftSide, Right as RightSide}
use Rattle.ref_terms.specs.texts.Text.{Part, Bytes, symbol, head_text, top, term_parts}
use Rattle.ref_terms.specs.texts.Numbering.{text_of}

-- texts with one between each two
abbrev pub separated : List Part → List (List Part) → List Part
separated between [] = []
separated between (t ∷ []) = t
separated between (t ∷ s ∷ ts) = t ++ between ++ separated between (s ∷ ts)

-- the top form of a term, from depth 0
abbrev pub term_line : List (List ℕ) → Term → List Part
term_line table t = term_parts table t top 0

-- `delayed [N] [H] ?- G`
abbrev pub sequent_parts : List (List ℕ) → Constraint → List Part
sequent_parts table c = Bytes (codes "delayed [") ∷ separated (Bytes (codes " ") ∷ []) (map (λ n. head_text table 0 (Name n) ∷ []) (names_below c.names))
    ++ Bytes (codes "] [") ∷ separated (Bytes (codes "; ") ∷ []) (map (λ h. term_line table h.assumed) c.assumptions)
    ++ Bytes (codes "] ?- ") ∷ term_line table c.term

-- a line of an answer block
abbrev pub indented : List Part → List Part
indented ps = Bytes (codes "  ") ∷ ps ++ Bytes (10 ∷ []) ∷ []

-- the shown variables of the query with their terms
abbrev pub variable_lines : List (List ℕ) → List QueryVar → List Term → List Part
variable_lines table (v ∷ vs) (t ∷ ts) = cond v.shown (indented (Bytes (symbol table v.name ++ codes " = ") ∷ term_line table t) ++ variable_lines table vs ts) (variable_lines table vs ts)
variable_lines table _ _ = []

-- the block of the answer with this number, counted from 1
abbrev pub answer_block : List (List ℕ) → List QueryVar → ℕ → Branch → List ℕ
answer_block table vs number b = text_of (Bytes (codes "answer " ++ decimal number ++ 10 ∷ []) ∷ variable_lines table vs b.query
    ++ flat_map (λ c. indented (sequent_parts table c)) b.store)

-- a choice, with its place
abbrev pub choice_text : Choice → List ℕ
choice_text (ByClause i) = codes " c" ++ decimal i
choice_text (ByAssumption i) = codes " h" ++ decimal i
choice_text LeftSide = codes " l"
choice_text RightSide = codes " r"

-- the choices that led to an answer, oldest first, on a line
abbrev pub path_line : List Choice → List ℕ
path_line cs = codes "path" ++ flat_map choice_text (reverse cs) ++ 10 ∷ []
