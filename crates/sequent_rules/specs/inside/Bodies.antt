-- The assumptions of a body.
use Rattle.std.specs.Prelude.{◌≡◌, ℕ, List, map}
use Rattle.level_terms.specs.Graph.{Graph}
use Rattle.beta_fragment.specs.declared.answer.UnifyStop.{UnifyStop}
use Rattle.beta_fragment.specs.declared.answer.UnifyStop.TheVariants.{Fault, Memory}
use Rattle.ref_terms.specs.search.Assumption.{Assumption}
use Rattle.ref_terms.specs.search.Fault.{Judged, Good, Bad}
use Rattle.hyp_clause.specs.declared.hyp.Hyp.{Hyp}
use Rattle.hyp_clause.specs.Hyps.{assumption_in, AllHypsValid}
use Rattle.hyp_context.specs.Contexts.{AllWithinDepth}

-- the context reads as these assumptions, and is valid at the depth
pub record IsContextOf (g : Graph) (depth : ℕ) (hs : List Hyp) (j : Judged (List Assumption)) : Type 0 where
  pub reads : j ≡ Good (map (assumption_in g) hs)
  pub valid : AllHypsValid g hs
  pub within : AllWithinDepth depth hs

-- there is this fault in their place; want of memory may come at any time
abbrev pub ContextStops : UnifyStop → Judged (List Assumption) → Type 0
ContextStops (Fault e) j = j ≡ Bad e
ContextStops Memory j = Unit {0}
