-- `adopt` puts what the box owns last.
use Rattle.std.proofs.Common.{ℕ, List, [], ◌∷◌, ◌++◌, refl, sym, subst}
use mir.Val.{Val, vptr}
use mir.MapTy.{inst_fn}
use base.Logic.{SProp, ent, emp, id⊢}
use base.Fml.{ftrue, flft}
use prog.Wp.{WpFn}
use types.Kit.{‵, raw, ◌⊛◌, ◌$◌, ◌∵◌, !, qed, by, move, keep, drop, split, split3, join, fsplit, fsplit3, fjoin, fjoin3, suffices, use2, feq_i}
use types.Run.{stop, fld, of_opd, no_more, and_then, returns, enter}
use types.ByLocal.{alloc_all, pass_all, free_all, look_at, get, get_in, sets}
use types.Part.{agg, sub, whole}
use contract.Monad.{fact_i}
use contract.Running.{tables}
use denote.Exit.{no}
use denote.RattleType.{RattleType, owns}
use denote.Signature.{types_at, plain}
use denote.RawPtr.{Ptr, block_ptr}
use denote.Steps.{nothing, opens, closes}
use denote.Param.{param}
use denote.Triple.Walked.{Stays, stay_dropped, stay_ref, walk_of, Goes-ref}
use Rattle.std.proofs.alloc.Calls.{Goes-blank}
use Rattle.std.proofs.mem.Param.{El, args}
use Rattle.std.proofs.RcSteps.{word}
use Rattle.std.specs.contracts.alloc.Global as heap
use Rattle.std.proofs.alloc.Global.TheLaws as heap_laws
use Rattle.std.specs.contracts.impls.GlobalAllocator.TheImpl.{ghosts}
use Rattle.std.proofs.raw_atomic.Walks.{proved_at}
use Rattle.dance_list.specs.inside.Blocks.{blocks_own}
use Rattle.dance_list.proofs.Memory.{Cr, word_made, last_in}
use Rattle.dance_list.proofs.Values.{both, Loose, loose_good, loose_out, ends}
use Rattle.dance_list.specs.contracts.cells.Cells.adopt.{ended, clauses}
use Rattle.dance_list.specs.contracts.cells.Cells.adopt.Key.{name as #self}
use Rattle.dance_list.proofs.cells.Cells.adopt.Statement.{statement}
use Rattle.dance_list.proofs.cells.Cells.adopt.Code as code

pub adopt_spec : {M : Type 1} → statement M
adopt_spec 𝓤 𝓛 𝓜 𝓡 wired X L =
    let H = 𝓛.H in let 𝓣 = tables 𝓤 H 𝓜 𝓡 𝓡.env in let E : El = record { row = X; laws = L } in let R : RattleType = param 0 X in let En = ended X in let fn = inst_fn (args E) code.function in let c = clauses X 𝓛 𝓜.mem 𝓡.returns in
    let Z : RattleType = heap.the_row in let LZ = heap_laws.the_row_laws in let Lr : RattleType = Loose R Z LZ ghosts in let Row : RattleType = Cr E in
    let hs : Stays En.signature.params En.kept = (stay_ref (0 ∷ []) tt (plain (λ _. Row)), (stay_dropped (plain (λ _. Lr)) no, tt)) in
    proved_at 𝓛 En hs c 𝓜 𝓡 (Goes-ref 𝓛 2 0 tt (plain (λ _. Row)), (Goes-blank 𝓛 2 (plain (λ _. Lr)) no (λ κs x f. tt), tt)) (#self (args E)) fn (code.unfolded 𝓤 H 𝓜 𝓡 wired (X, tt)) (λ z are.
    let κs = z.0.0 in let qs = z.0.1 in let Post : Val → SProp 𝓤 = (walk_of 𝓛 En hs c).post z in let Run : List Val → SProp 𝓤 = λ ws. WpFn 𝓤 H 𝓣.C 𝓣.Λ fn ws Post in
    let b : ℕ = z.0.3.0.ref_ptr.0 in let o : ℕ = z.0.3.0.ref_ptr.1 in let h : Row.Denot = z.0.3.0.now in let d = z.0.3.1.0 in let t₁ = ‵ (flft κs.0 qs.0) in let t₂ = ‵ (flft κs.1.0 qs.1.0) in
    qed 𝓛 (((t₁ ⊛ t₂ ⊛ ‵ ftrue) ⊛ ‵ (owns (types_at En.signature.params κs) z.0.3 z.0.4)) ∷ raw ((c κs z.0.3).requires z.1) ∷ []) ∵
    split ! $ split3 ! $ move ! (3 ∷ []) $ fsplit3 ! $ fsplit3 ! $ drop ! $
    -- [obs; the open borrow; the box; nothing; token; token; nothing; requires]
    move ! (2 ∷ []) $ loose_out R Z LZ ghosts ! d z.0.4.1.0 (λ nb no' hv e ws fits. let p : Ptr = block_ptr nb no' in let w : Val = both (vptr nb no') hv in
    suffices ! (Run (vptr b o ∷ w ∷ [])) (subst (λ (us : List Val). ent 𝓤 (Run (vptr b o ∷ w ∷ [])) (Run us)) (sym (λ i. are.0.0 i ++ (ws i ++ []))) (id⊢ 𝓤 (Run (vptr b o ∷ w ∷ [])))) $
    keep ! (2 ∷ 3 ∷ 5 ∷ 0 ∷ 6 ∷ []) $
    enter ! 𝓣.C 𝓣.Λ fn (vptr b o ∷ w ∷ []) Post $ alloc_all ! (λ l. pass_all ! refl ((tt, tt), (loose_good R Z LZ ghosts nb no' hv fits, tt)) $
    sets ! (of_opd ! (get_in ! (fld ! refl (stop !)) (sub ! 0 refl (whole !)))) refl (tt, tt) $ sets ! (of_opd ! (get ! refl)) refl (tt, tt) $ sets ! (agg ! (and_then ! (get ! refl) (no_more !))) refl (tt, (tt, tt)) $
    opens ! tt Row {h = h} b o (λ vs. move ! (1 ∷ []) $ fsplit ! $ move ! (1 ∷ 6 ∷ []) $
    let new : Row.Denot = record { mark = h.mark; blocks = h.blocks ++ (p, d.value) ∷ [] } in
    use2 𝓛 (‵ (blocks_own R new.blocks)) (last_in E 𝓛 h.blocks (p, d.value)) $ move ! (1 ∷ 0 ∷ []) $ fjoin ! $ move ! (1 ∷ 0 ∷ []) $ closes ! tt Row new vs b o $
    feq_i ! (List Val) z.0.4.0 (vptr b o ∷ []) are.0.0 $ fjoin3 ! $ nothing ! $ nothing ! $ fjoin ! $ move ! (1 ∷ 0 ∷ []) $ fjoin ! $
    nothing ! $ move ! (3 ∷ 0 ∷ []) $ join ! $ move ! (2 ∷ 0 ∷ []) $ join ! $ word_made ! p $
    returns ! (look_at ! 0 refl) $ free_all ! refl $ keep ! (1 ∷ 2 ∷ 0 ∷ []) $ by ! (ends 𝓛 En hs c z (word p) (record { ptr = p }) (new, (tt, tt)) (tt, (tt, tt)) (fact_i 𝓤 _ (emp 𝓤) refl))))))
