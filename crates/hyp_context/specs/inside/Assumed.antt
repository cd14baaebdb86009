-- The nodes of assumed terms.
use Rattle.std.specs.Prelude.{ℕ, nat_eq, filter, List, map}
use Rattle.std.specs.List.{list_any}
use Rattle.level_terms.specs.declared.node.TermId.{TermId}
use Rattle.hyp_clause.specs.declared.hyp.Hyp.{Hyp}

-- the terms that were assumed, of those clauses whose constants are among these
abbrev pub assumed_nodes : List ℕ → List Hyp → List TermId
assumed_nodes preds hs = map (λ h. h.term) (filter (λ h. list_any (nat_eq h.pred.0) preds) hs)
