-- The items of lists.
use Rattle.std.specs.Prelude.{List, [], ◌∷◌, Option}
use Rattle.std.specs.Borrow.{Bor}
use Rattle.std.specs.Option.{option_map_or}
use Rattle.hyp_clause.specs.declared.hyp.Hyp.{Hyp}
use Rattle.hyp_context.specs.declared.chain.Chain.{Chain, End, Link'}

-- newest first
abbrev pub items_of : Chain → List Hyp
items_of End = []
items_of (Link' p hyp older) = hyp.value ∷ items_of older

-- what is left to go through
abbrev pub left_of : Option (Bor Chain) → List Hyp
left_of o = option_map_or (λ c. items_of c.now) o []
