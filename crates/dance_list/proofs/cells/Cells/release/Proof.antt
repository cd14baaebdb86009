-- `release` makes a box of the last block.
use Rattle.std.proofs.Common.{◌≡◌, ℕ, List, [], ◌∷◌, ◌++◌, refl, sym, ap, subst}
use mir.Raw.{raw as bare}
use mir.Val.{Val, vptr}
use mir.MapTy.{inst_fn}
use base.Logic.{SProp, ent, emp, never, id⊢, fst∗}
use base.Fml.{ftrue, flft}
use prog.Wp.{WpFn}
use types.Logic.{sem}
use types.Kit.{‵, raw, ◌⊛◌, ◌$◌, ◌∵◌, !, qed, by, move, keep, drop, split, split3, join, fsplit, fsplit3, fjoin, fjoin3, suffices, use1, rewrite, feq_i}
use types.Run.{stop, fld, of_opd, no_more, and_then, returns, enter}
use types.ByLocal.{alloc_all, pass_all, free_all, look_at, get, get_in, sets, is}
use types.Part.{agg, sub, whole}
use contract.Monad.{fact, fact_i}
use contract.BorrowLft.{◌⊑◌}
use contract.Running.{tables}
use denote.Exit.{yes}
use denote.RattleType.{RattleType, owns}
use denote.Signature.{types_at, plain}
use denote.RawPtr.{Ptr, block_ptr, null_ptr, ptr_val, in_a_block}
use denote.Steps.{nothing, heard, opens, closes}
use denote.Param.{param, layout}
use denote.Triple.Walked.{Stays, stay_dropped, stay_ref, walk_of, Goes-dropped, Goes-ref}
use Rattle.std.proofs.alloc.Calls.{handle_tells, Al}
use Rattle.std.proofs.mem.Param.{El, args}
use Rattle.std.proofs.RcSteps.{word, word-Good}
use Rattle.std.specs.contracts.alloc.Global as heap
use Rattle.std.proofs.alloc.Global.TheLaws as heap_laws
use Rattle.std.specs.contracts.impls.GlobalAllocator.TheImpl.{ghosts}
use Rattle.std.proofs.raw_atomic.Walks.{proved_at}
use Rattle.dance_list.specs.inside.Blocks.{block_owns, blocks_own}
use Rattle.dance_list.proofs.Memory.{Cr, Pl, word_had, last_out}
use Rattle.dance_list.proofs.Values.{both, Loose, loose_good, loose_in, al, ends}
use Rattle.dance_list.specs.contracts.cells.Cells.release.{ended, clauses}
use Rattle.dance_list.specs.contracts.cells.Cells.release.Key.{name as #self}
use Rattle.dance_list.proofs.cells.Cells.release.Statement.{statement}
use Rattle.dance_list.proofs.cells.Cells.release.Code as code

pub release_spec : {M : Type 1} → statement M
release_spec 𝓤 𝓛 𝓜 𝓡 wired X L =
    let H = 𝓛.H in let 𝓣 = tables 𝓤 H 𝓜 𝓡 𝓡.env in let E : El = record { row = X; laws = L } in let R : RattleType = param 0 X in let En = ended X in let fn = inst_fn (args E) code.function in let c = clauses X 𝓛 𝓜.mem 𝓡.returns in
    let Z : RattleType = heap.the_row in let LZ = heap_laws.the_row_laws in let Lr : RattleType = Loose R Z LZ ghosts in let Row : RattleType = Cr E in let A : Al = al R Z LZ ghosts in
    let hs : Stays En.signature.params En.kept = (stay_ref (0 ∷ []) tt (plain (λ _. Row)), (stay_dropped (plain (λ _. Pl)) yes, (stay_dropped (plain (λ _. Z)) yes, tt))) in
    proved_at 𝓛 En hs c 𝓜 𝓡 (Goes-ref 𝓛 2 0 tt (plain (λ _. Row)), (Goes-dropped 𝓛 2 (plain (λ _. Pl)) yes (λ κs x f. refl), (Goes-dropped 𝓛 2 (plain (λ _. Z)) yes (λ κs x f. refl), tt))) (#self (args E)) fn (code.unfolded 𝓤 H 𝓜 𝓡 wired (X, tt)) (λ z are.
    let κs = z.0.0 in let qs = z.0.1 in let Post : Val → SProp 𝓤 = (walk_of 𝓛 En hs c).post z in let Run : List Val → SProp 𝓤 = λ ws. WpFn 𝓤 H 𝓣.C 𝓣.Λ fn ws Post in
    let b : ℕ = z.0.3.0.ref_ptr.0 in let o : ℕ = z.0.3.0.ref_ptr.1 in let h : Row.Denot = z.0.3.0.now in let at : Ptr = z.0.3.1.0.ptr in let a = z.0.3.1.1.0 in let t₁ = ‵ (flft κs.0 qs.0) in let t₂ = ‵ (flft κs.1.0 qs.1.0) in
    let inT : Type 0 = κs.1.0 ⊑ X.lives in let Asked : Type 0 = (cs : List (Ptr × X.Denot)) × (x : X.Denot) × (h.blocks ≡ cs ++ (at, x) ∷ []) in
    qed 𝓛 (((t₁ ⊛ t₂ ⊛ ‵ ftrue) ⊛ ‵ (owns (types_at En.signature.params κs) z.0.3 z.0.4)) ∷ raw (fact 𝓤 inT) ∷ raw (fact 𝓤 Asked) ∷ []) ∵
    move ! (1 ∷ 2 ∷ []) $ heard ! inT (λ _. heard ! Asked (λ asked. let cs = asked.0 in let x = asked.1 in
    split ! $ split3 ! $ move ! (3 ∷ []) $ fsplit ! $ fsplit3 ! $ drop ! $ move ! (2 ∷ []) $ fsplit ! $ word_had ! at z.0.4.1.0 (λ e1. fsplit ! $ handle_tells A ! a z.0.4.1.1.0 (λ hv eh fits.
    -- [the handle; nothing; obs; the open borrow; token; token; nothing]
    suffices ! (Run (vptr b o ∷ word at ∷ hv ∷ [])) (subst (λ (us : List Val). ent 𝓤 (Run (vptr b o ∷ word at ∷ hv ∷ [])) (Run us)) (sym (λ i. are.0.0 i ++ (e1 i ++ (eh i ++ [])))) (id⊢ 𝓤 (Run (vptr b o ∷ word at ∷ hv ∷ [])))) $
    keep ! (2 ∷ 3 ∷ 4 ∷ 0 ∷ 5 ∷ []) $
    enter ! 𝓣.C 𝓣.Λ fn (vptr b o ∷ word at ∷ hv ∷ []) Post $ alloc_all ! (λ l. pass_all ! refl ((tt, tt), (word-Good [] at, (fits, tt))) $
    opens ! tt Row {h = h} b o (λ vs. move ! (1 ∷ []) $ fsplit ! $ move ! (1 ∷ []) $ rewrite ! 0 (λ (bs : List (Ptr × X.Denot)). ‵ (blocks_own R bs)) asked.2 refl $
    use1 𝓛 (‵ (blocks_own R cs) ⊛ ‵ (block_owns R (at, x))) (last_out E 𝓛 cs (at, x)) $ split ! $ move ! (1 ∷ []) $
    in_a_block ! at (λ p. block_owns R (p, x)) (fst∗ 𝓤 (never 𝓤) (sem 𝓛 (ghosts.dealloc_token a (bare (layout X)) null_ptr))) (λ nb no' e. let p : Ptr = block_ptr nb no' in let made = loose_good R Z LZ ghosts nb no' hv fits in
    sets ! (is ! (of_opd ! (get_in ! (fld ! refl (stop !)) (sub ! 0 refl (whole !)))) (ap ptr_val e)) refl (tt, tt) $ sets ! (agg ! (and_then ! (get ! refl) (and_then ! (get ! refl) (no_more !)))) refl made $
    -- [the box; the other blocks; the mark; its cell; the open borrow, in three; the handle; token]
    let new : Row.Denot = record { mark = h.mark; blocks = cs } in let d : Lr.Denot = record { at = p; alloc = a; value = x } in
    move ! (0 ∷ 7 ∷ []) $ loose_in R Z LZ ghosts ! nb no' hv a x $ move ! (2 ∷ 1 ∷ []) $ fjoin ! $ move ! (2 ∷ 0 ∷ 3 ∷ 4 ∷ 5 ∷ []) $ closes ! tt Row new vs b o $
    feq_i ! (List Val) z.0.4.0 (vptr b o ∷ []) are.0.0 $ fjoin3 ! $ nothing ! $ nothing ! $ fjoin ! $ nothing ! $ fjoin ! $ move ! (1 ∷ 0 ∷ []) $ fjoin ! $
    -- [the parameters; token; the result; token]
    nothing ! $ move ! (4 ∷ 0 ∷ []) $ join ! $ move ! (2 ∷ 0 ∷ []) $ join ! $
    returns ! (look_at ! 0 refl) $ free_all ! refl $ keep ! (0 ∷ 1 ∷ 2 ∷ []) $ by ! (ends 𝓛 En hs c z (both (vptr nb no') hv) d (new, (tt, (tt, tt))) (tt, (tt, (tt, tt))) (fact_i 𝓤 _ (emp 𝓤) asked.2))))))))))
