-- What the walks of the unsafe functions share. Assumes `Logic`.
use mathlib.Core.Path.{◌≡◌, refl, subst}
use Prim.Native.Nat.{ℕ, zero, suc}
use mathlib.Core.List.{List, [], ◌∷◌, ◌++◌}
use lib.ListN.{set}
use seplogic.Ra.Ura.{Ura}
use mir.Val.{Val, vstruct, vcons, vnil, of_list}
use base.Logic.{ent, sep, emp, via, snd∗, id⊢}
use base.Fml.{Fml, Lft, ftrue, fsep}
use types.Logic.{Logic, sem}
use types.Kit.{Item, Goal, Seq, Step, step, ‵, ◌⊛◌, ◌$◌, ◌∵◌, !, qed, move, keep, drop as skip, use1, use2, split, fsplit, fjoin, fpick, fpack, feq_i, feq_l, rewrite, done}
use denote.RattleType.{RattleType, Valss}
use denote.RawPtr.{Ptr, RawPtr, ptr_val}
use denote.Shadow.{makes_shadow}
use denote.Steps.{nothing}
use denote.Struct.Struct.{Shape, Struct, within}
use denote.Struct.Owning.{shape}
use denote.Struct.Lending.{lent_at}
use Rattle.std.specs.Prelude.{Some}
use Rattle.std.proofs.mem.Param.{El, R, el_x}
use Rattle.std.proofs.RcSteps.{word}
use Rattle.dance_list.specs.inside.Blocks.{nth, block_owns, blocks_own, blocks_lent}
use Rattle.dance_list.specs.contracts.cells.Cells as C-type
use Rattle.dance_list.specs.contracts.cells.Place as P-type

abbrev pub Pl : RattleType
Pl = P-type.the_row

module _ (E : El) where
  abbrev pub Cr : RattleType
  Cr = C-type.the_row (R E)

  -- the one field of `Cells`, which takes no bytes
  abbrev pub Mark : RattleType
  Mark = Struct (shape (C-type.the_type (R E)))

  abbrev pub Block : Type 0
  Block = Ptr × el_x E

abbrev one_field : Shape
one_field = record { name = []; args = []; types = []; fields = RawPtr ∷ [] }

abbrev pub Word : RattleType
Word = Struct one_field

abbrev pub mark : Val
mark = vstruct (vcons (vstruct vnil) vnil)

pub mark_made : (E : El) {M : Type 1} {𝓤 : Ura M} (𝓛 : Logic 𝓤) → ent 𝓤 (emp 𝓤) (sem 𝓛 ((Mark E).own_val (tt, tt) (mark ∷ [])))
mark_made E 𝓛 = makes_shadow 𝓛 ((Mark E).own_val (tt, tt) (mark ∷ [])) (λ vss. (tt, ((λ uss. (tt, tt)), tt))) ((vstruct vnil ∷ [], tt), (refl, ((tt, (refl, tt)), tt)))

module _ {M : Type 1} {𝓤 : Ura M} {𝓛 : Logic 𝓤} {K : Type 0} {Γ : List (Item 𝓤)} {G : Goal 𝓤 𝓛.H} where
  pub word_had : K → (c : Ptr) (vs : List Val) → (vs ≡ word c ∷ [] → Seq K 𝓛 Γ G) → Seq K 𝓛 (‵ (Word.own_val (c, tt) vs) ∷ Γ) G
  word_had t c vs k = fpick t (λ vss. fsplit t $ feq_l t (λ ev. fsplit t $ feq_l t (λ e. skip t $ k (subst (λ (ws : List Val). vs ≡ vstruct (of_list (ws ++ [])) ∷ []) e ev))))

  pub word_made : K → (c : Ptr) → Step K 𝓛 (‵ (Word.own_val (c, tt) (word c ∷ [])) ∷ Γ) G Γ G
  word_made t c = step (λ s.
      nothing t $ feq_i t (List Val) (ptr_val c ∷ []) (ptr_val c ∷ []) refl $ fjoin t $ feq_i t (List Val) (word c ∷ []) (word c ∷ []) refl $ fjoin t $
      fpack t (Valss (RawPtr ∷ [])) (within one_field (c, tt) (word c ∷ [])) (ptr_val c ∷ [], tt) $ s)

  pub mark_had : K → (E : El) (vs : List Val) → (vs ≡ mark ∷ [] → Seq K 𝓛 Γ G) → Seq K 𝓛 (‵ ((Mark E).own_val (tt, tt) vs) ∷ Γ) G
  mark_had t E vs k = fpick t (λ vss. fsplit t $ feq_l t (λ ev. fsplit t $ fpick t (λ uss. fsplit t $ feq_l t (λ e. skip t $ skip t $
      k (subst (λ (ws : List Val). vs ≡ vstruct (of_list (ws ++ [])) ∷ []) e ev)))))

module _ (E : El) {M : Type 1} {𝓤 : Ura M} (𝓛 : Logic 𝓤) where
  abbrev Own : List (Block E) → Fml
  Own = blocks_own (R E)

  abbrev One : Block E → Fml
  One = block_owns (R E)

  -- the blocks but for the one at the index
  abbrev pub Besides : List (Block E) → ℕ → Fml
  Besides [] i = ftrue
  Besides (c ∷ cs) zero = Own cs
  Besides (c ∷ cs) (suc i) = fsep (One c) (Besides cs i)

  pub block_out : (cs : List (Block E)) (i : ℕ) (c : Block E) → nth cs i ≡ Some c → ent 𝓤 (sem 𝓛 (Own cs)) (sep 𝓤 (sem 𝓛 (One c)) (sem 𝓛 (Besides cs i)))
  unfolding nth
  block_out [] i c e = cc
  block_out (d ∷ cs) zero c e = let same : d ≡ c = cc in qed 𝓛 (‵ (Own (d ∷ cs)) ∷ []) ∵ fsplit ! $ rewrite ! 0 (λ (z : Block E). ‵ (One z)) same refl $ done !
  block_out (d ∷ cs) (suc i) c e = qed 𝓛 (‵ (Own (d ∷ cs)) ∷ []) ∵ fsplit ! $ move ! (1 ∷ []) $
      use1 𝓛 (‵ (One c) ⊛ ‵ (Besides cs i)) (block_out cs i c e) $ split ! $ move ! (2 ∷ 1 ∷ []) $ fjoin ! $ move ! (1 ∷ []) $ done !

  pub block_in : (cs : List (Block E)) (i : ℕ) (c d : Block E) → nth cs i ≡ Some c → ent 𝓤 (sep 𝓤 (sem 𝓛 (One d)) (sem 𝓛 (Besides cs i))) (sem 𝓛 (Own (set cs i d)))
  unfolding nth
  block_in [] i c d e = cc
  block_in (b ∷ cs) zero c d e = id⊢ 𝓤 (sem 𝓛 (Own (d ∷ cs)))
  block_in (b ∷ cs) (suc i) c d e = qed 𝓛 (‵ (One d) ∷ ‵ (Besides (b ∷ cs) (suc i)) ∷ []) ∵ move ! (1 ∷ []) $ fsplit ! $ move ! (2 ∷ 1 ∷ []) $
      use2 𝓛 (‵ (Own (set cs i d))) (block_in cs i c d e) $ move ! (1 ∷ 0 ∷ []) $ fjoin ! $ done !

  pub block_seen : (κ : Lft) (cs : List (Block E)) (i : ℕ) (c : Block E) → nth cs i ≡ Some c → ent 𝓤 (sem 𝓛 (blocks_lent (R E) cs κ)) (sem 𝓛 (lent_at (R E) c.0 c.1 κ))
  unfolding nth
  block_seen κ [] i c e = cc
  block_seen κ (d ∷ cs) zero c e = let same : d ≡ c = cc in qed 𝓛 (‵ (blocks_lent (R E) (d ∷ cs) κ) ∷ []) ∵ fsplit ! $ rewrite ! 0 (λ (z : Block E). ‵ (lent_at (R E) z.0 z.1 κ)) same refl $ keep ! (0 ∷ []) $ done !
  block_seen κ (d ∷ cs) (suc i) c e = via 𝓤 (sem 𝓛 (blocks_lent (R E) cs κ)) (snd∗ 𝓤 (sem 𝓛 (lent_at (R E) d.0 d.1 κ)) (sem 𝓛 (blocks_lent (R E) cs κ))) (block_seen κ cs i c e)

  pub last_in : (cs : List (Block E)) (c : Block E) → ent 𝓤 (sep 𝓤 (sem 𝓛 (Own cs)) (sem 𝓛 (One c))) (sem 𝓛 (Own (cs ++ c ∷ [])))
  last_in [] c = qed 𝓛 (‵ ftrue ∷ ‵ (One c) ∷ []) ∵ move ! (1 ∷ 0 ∷ []) $ fjoin ! $ done !
  last_in (d ∷ cs) c = qed 𝓛 (‵ (Own (d ∷ cs)) ∷ ‵ (One c) ∷ []) ∵ fsplit ! $ move ! (1 ∷ 2 ∷ []) $
      use2 𝓛 (‵ (Own (cs ++ c ∷ []))) (last_in cs c) $ move ! (1 ∷ 0 ∷ []) $ fjoin ! $ done !

  pub last_out : (cs : List (Block E)) (c : Block E) → ent 𝓤 (sem 𝓛 (Own (cs ++ c ∷ []))) (sep 𝓤 (sem 𝓛 (Own cs)) (sem 𝓛 (One c)))
  last_out [] c = qed 𝓛 (‵ (Own (c ∷ [])) ∷ []) ∵ fsplit ! $ move ! (1 ∷ 0 ∷ []) $ done !
  last_out (d ∷ cs) c = qed 𝓛 (‵ (Own (d ∷ cs ++ c ∷ [])) ∷ []) ∵ fsplit ! $ move ! (1 ∷ []) $
      use1 𝓛 (‵ (Own cs) ⊛ ‵ (One c)) (last_out cs c) $ split ! $ move ! (2 ∷ 0 ∷ []) $ fjoin ! $ done !
