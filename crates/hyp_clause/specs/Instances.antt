-- Instances of hypothetical clauses.
use Rattle.std.specs.Prelude.{ℕ, zero, suc, List, [], ◌∷◌, ◌≡◌, length}
use Rattle.ref_terms.specs.terms.Term.{Term}
use Rattle.ref_terms.specs.unification.Spine.{args_of}
use Rattle.ref_terms.specs.search.Assumption.{Assumption}
use Rattle.ref_terms.specs.search.Instance.{variable_under, assumption_instance}
use Rattle.level_terms.specs.declared.node.TermId.{TermId}
use Rattle.level_terms.specs.Graph.{Graph}
use Rattle.beta_fragment.specs.HeadForm.{all_read, AllValidAt}

-- so many variables without values, from a number on, each over the names of a depth
abbrev pub variables_from : (depth first count : ℕ) → List Term
variables_from depth first zero = []
variables_from depth first (suc count) = variable_under depth first ∷ variables_from depth (suc first) count

-- nodes are the arguments of the head and the conditions of an assumption's instance at these names, over variables that are new
pub record IsAssumptionAt (a : Assumption) (depth : ℕ) (old new : Graph) (hs ts : List TermId) : Type 0 where
  pub args : all_read new hs ≡ args_of (assumption_instance a depth (length old.depths)).head
  pub body : all_read new ts ≡ (assumption_instance a depth (length old.depths)).body
  pub next_var : length new.depths ≡ (assumption_instance a depth (length old.depths)).next_var
  pub args_valid : AllValidAt new hs depth
  pub body_valid : AllValidAt new ts depth
