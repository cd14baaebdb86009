-- Terms that are lists.
use Rattle.std.specs.Prelude.{cond, nat_eq, List, [], ◌∷◌, Option, Some, None}
use Rattle.ref_terms.specs.terms.Term.{Term, Lam, At, App, Con}

-- the item, where the term is `::` applied to it
abbrev pub item_of : Term → Option Term
item_of (App (At (Con c)) t) = cond (nat_eq c 19) (Some t) None
item_of _ = None

-- an item before the others, where both are there
abbrev pub before : Option Term → Option (List Term) → Option (List Term)
before (Some t) (Some ts) = Some (t ∷ ts)
before (Some t) None = None
before None o = None

-- the items of a list that ends in `[]`
abbrev pub items_of : Term → Option (List Term)
items_of (Lam b) = None
items_of (At (Con c)) = cond (nat_eq c 18) (Some []) None
items_of (At _) = None
items_of (App f t) = before (item_of f) (items_of t)

-- the list of these terms
abbrev pub list_term : List Term → Term
list_term [] = At (Con 18)
list_term (t ∷ ts) = App (App (At (Con 19)) t) (list_term ts)
