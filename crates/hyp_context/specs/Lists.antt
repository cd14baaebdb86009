-- Contexts as lists.
use Rattle.std.specs.Prelude.{ℕ, nat_eq, filter, List, map}
use Rattle.std.specs.List.{list_any}
use Rattle.ref_terms.specs.declared.sym.Sym.{Sym}
use Rattle.ref_terms.specs.terms.Term.{Term}
use Rattle.ref_terms.specs.search.Assumption.{Assumption}
use Rattle.ref_terms.specs.search.Lists.{list_term}

-- the numbers of constants
abbrev pub numbers_of : List Sym → List ℕ
numbers_of cs = map (λ c. c.0) cs

-- the terms that were assumed, of those assumptions whose constants are among these, as a list
abbrev pub assumed_list : List ℕ → List Assumption → Term
assumed_list preds assumptions = list_term (map (λ a. a.assumed) (filter (λ a. list_any (nat_eq a.pred) preds) assumptions))
