-- A `&` to the blocks is made where one to each content is. Assumes `Logic`.
use Rattle.std.specs.Prelude.{List, [], ◌∷◌}
use seplogic.Ra.Ura.{Ura}
use base.Fraction.{full_share}
use base.Fml.{Lft, Incl, ftrue}
use types.Logic.{Logic}
use mir.Raw.{raw}
use denote.RattleType.{RattleType, RowLaws}
use denote.Param.Laws.{Laws}
use denote.Memory.{lone}
use denote.RawPtr.{Ptr, lies_at}
use denote.Sharing.{ShrLaws}
use denote.SharingLaws.{beside_shr_laws, nothing_shr_laws}
use denote.Shares.{Shares-less}
use denote.Struct.Lending.{lent_at, lent_at_shr_laws, Lends, Lends-lies, Lends-first, Lends-both, Lends-nothing}
use Rattle.dance_list.specs.inside.Blocks.{frees, block_owns, blocks_own, blocks_lent}

pub blocks_lent_laws : (R : RattleType) (L : RowLaws R) (cs : List (Ptr × R.Denot)) → ShrLaws (blocks_lent R cs)
blocks_lent_laws R L [] = nothing_shr_laws
blocks_lent_laws R L (c ∷ cs) = beside_shr_laws _ _ (lent_at_shr_laws R L c.0 c.1) (blocks_lent_laws R L cs)

module _ {M : Type 1} {𝓤 : Ura M} (𝓛 : Logic 𝓤) (l : Lft) (R : RattleType) (L : Laws R) (inc : Incl l R.lives) where
  pub Lends-blocks : (cs : List (Ptr × R.Denot)) → Lends 𝓛 (blocks_own R cs) (blocks_lent R cs) l
  Lends-blocks [] = Lends-nothing 𝓛 ftrue l
  Lends-blocks (c ∷ cs) =
      Lends-both 𝓛 (block_owns R c) (blocks_own R cs) (lent_at R c.0 c.1) (blocks_lent R cs) l
      (Lends-first 𝓛 (lies_at R full_share c.0 c.1) (frees (raw (lone R.mir)) c.0) (lent_at R c.0 c.1) l (Lends-lies 𝓛 R l c.0 c.1 (Shares-less 𝓛 R R.lives l inc (L.shares 𝓛) c.1)))
      (Lends-blocks cs)
