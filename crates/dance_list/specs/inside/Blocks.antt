-- What the blocks of a list own and lend, at contents of the row R. A block is its place and what lies there.
use Rattle.std.specs.Prelude.{ℕ, zero, suc, List, [], ◌∷◌, Option, Some, None}
use base.Fml.{Lft, Fml, ftrue, fsep}
use denote.RattleType.{RattleType}
use denote.Sharing.{nothing, beside}
use denote.RawPtr.{Ptr}
use denote.Struct.Lending.{lent_at}
use Rattle.std.specs.Box.Ownership.{box_owns}
use Rattle.std.specs.contracts.impls.GlobalAllocator.TheImpl.{ghosts}
use mir.Syntax.{Ty}

-- the item at the index, if there is one
unfoldable pub nth : {X : Type 0} → List X → ℕ → Option X
nth [] i = None
nth (x ∷ xs) zero = Some x
nth (x ∷ xs) (suc i) = nth xs i

-- the right to free a block of the heap, which is the same by each handle
abbrev pub frees : Ty → Ptr → Fml
frees = ghosts.dealloc_token (record { memory = record { seal = tt } })

module _ (R : RattleType) where
  -- what lies at the place, and the right to free it
  abbrev pub block_owns : Ptr × R.Denot → Fml
  block_owns c = box_owns frees R c.0 c.1

  -- all of them
  abbrev pub blocks_own : List (Ptr × R.Denot) → Fml
  blocks_own [] = ftrue
  blocks_own (c ∷ cs) = fsep (block_owns c) (blocks_own cs)

  -- what a `&` to them holds
  abbrev pub blocks_lent : List (Ptr × R.Denot) → Lft → Fml
  blocks_lent [] = nothing
  blocks_lent (c ∷ cs) = beside (lent_at R c.0 c.1) (blocks_lent cs)
