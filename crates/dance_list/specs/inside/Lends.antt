-- What the blocks end as, once a `&mut` into one of them has ended.
use Rattle.std.specs.Prelude.{ℕ, List, slice_set}
use Rattle.std.specs.Borrow.{Fml, RattleType, MutBor, Lends}
use denote.RawPtr.{Ptr}
use Rattle.dance_list.specs.declared.cells.Cells.{Cells}
use Rattle.dance_list.specs.contracts.cells.Cells.{the_row}

abbrev pub with_blocks : {X : Type 0} → Cells X → List (Ptr × X) → Cells X
with_blocks c cs = record { mark = c.mark; blocks = cs }

abbrev pub lends_block : (R : RattleType) → MutBor (Cells R.Denot) → Ptr → ℕ → MutBor R.Denot → Fml
lends_block R c p i r = Lends (the_row R) R c r (λ w. with_blocks c.now (slice_set c.now.blocks i (p, w)))
