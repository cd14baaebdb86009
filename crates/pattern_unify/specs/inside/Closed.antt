-- Nodes under a depth that read alike once they are abstracted over the levels below it.
use Rattle.std.specs.Prelude.{◌≡◌, ℕ}
use Rattle.level_terms.specs.Graph.{Graph}
use Rattle.level_terms.specs.Reading.{read}
use Rattle.level_terms.specs.Reached.{IsUnreached}
use Rattle.level_terms.specs.Valid.{IsValid}
use Rattle.ref_terms.specs.terms.Term.{Term}
use Rattle.ref_terms.specs.unification.Closing.{close_all, names_below}
use Rattle.beta_fragment.specs.Names.{names}

-- what a node reads as, abstracted over the levels below a depth
abbrev pub closed_at : Graph → (t depth : ℕ) → Term
closed_at g t depth = close_all (names_below depth) (read g t names)

-- a node under one depth is made into one under another depth: closed they are the same, and nothing else is reached
pub record ClosesAlike (old new : Graph) (t depth r to : ℕ) : Type 0 where
  pub closed : closed_at new r to ≡ closed_at old t depth
  pub valid : IsValid new r to
  pub unreached : (v : ℕ) → IsUnreached old v t → IsUnreached new v r
