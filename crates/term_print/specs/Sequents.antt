-- Texts of sequents.
use Rattle.std.specs.Prelude.{◌≡◌, ℕ, zero, suc, List, [], ◌∷◌, ◌++◌, map, codes, decimal}
use Rattle.level_terms.specs.declared.node.TermId.{TermId}
use Rattle.level_terms.specs.Graph.{Graph}
use Rattle.level_terms.specs.Reading.{read}
use Rattle.ref_terms.specs.terms.Term.{Term}
use Rattle.ref_terms.specs.search.Branch.{Constraint}
use Rattle.ref_terms.specs.texts.Text.{Part, Bytes}
use Rattle.ref_terms.specs.texts.Answer.{term_line}
use Rattle.beta_fragment.specs.Names.{names}
use Rattle.beta_fragment.specs.HeadForm.{all_read}

-- a constraint with so many names, the assumptions as which nodes read, in the order in which they are tried, and the goal as which a node reads
pub record IsSequent (g : Graph) (depth : ℕ) (hyps : List TermId) (goal : TermId) (c : Constraint) : Type 0 where
  pub scope : c.names ≡ depth
  pub assumed : map (λ h. h.assumed) c.assumptions ≡ all_read g hyps
  pub term : c.term ≡ read g goal.index names

-- names from k on, each after a space
abbrev pub more_names : (k : ℕ) → ℕ → List ℕ
more_names k zero = []
more_names k (suc n) = 32 ∷ 35 ∷ decimal k ++ more_names (suc k) n

-- so many names, with a space between two
abbrev pub names_bytes : ℕ → List ℕ
names_bytes zero = []
names_bytes (suc n) = 35 ∷ decimal 0 ++ more_names 1 n

-- a sequent up to its assumptions
abbrev pub scope_bytes : (depth : ℕ) → List ℕ
scope_bytes depth = codes "delayed [" ++ (names_bytes depth ++ codes "] [")

-- terms, each after `; `
abbrev pub more_lines : List (List ℕ) → List Term → List Part
more_lines table [] = []
more_lines table (t ∷ ts) = Bytes (codes "; ") ∷ term_line table t ++ more_lines table ts

-- terms with `; ` between two
abbrev pub all_lines : List (List ℕ) → List Term → List Part
all_lines table [] = []
all_lines table (t ∷ ts) = term_line table t ++ more_lines table ts

-- a sequent, by the terms of its assumptions and of its goal
abbrev pub sequent_line : List (List ℕ) → (depth : ℕ) → List Term → Term → List Part
sequent_line table depth ts t = Bytes (scope_bytes depth) ∷ all_lines table ts ++ Bytes (codes "] ?- ") ∷ term_line table t
