-- `pushed` changes what only contracts see.
use Rattle.std.proofs.Common.{ℕ, List, [], ◌∷◌, ◌++◌, refl}
use mir.Syntax.{named}
use mir.Val.{Val, vptr, vunit}
use mir.MapTy.{inst_fn}
use base.Logic.{SProp, emp}
use base.Fml.{Fml, ftrue, fsep, flft}
use types.Kit.{‵, raw, ◌⊛◌, ◌$◌, ◌∵◌, !, qed, by, move, keep, drop, split, fsplit, fsplit3, fjoin, fjoin3, feq_i}
use types.Run.{of_opd, unit_lit, returns, enter}
use types.ByLocal.{alloc_all, pass_all, free_all, look_at, sets}
use contract.Monad.{fact_i}
use contract.Running.{tables}
use denote.Exit.{yes}
use denote.RattleType.{RattleType, owns}
use denote.Signature.{types_at, plain}
use denote.Steps.{nothing, opens, closes}
use denote.Param.{param}
use denote.Triple.Walked.{Stays, stay_dropped, stay_ref, walk_of, Goes-dropped, Goes-ref}
use Rattle.std.proofs.mem.Param.{El, args}
use Rattle.std.proofs.raw_atomic.Walks.{proved}
use denote.Builtin.{RefOf}
use denote.Ref.{mut_vals, mut_Tells, shr_vals, shr_Tells}
use Rattle.dance_list.specs.contracts.history.History as history
use Rattle.dance_list.specs.contracts.cells.Node as node
use Rattle.dance_list.proofs.Values.{ends}
use Rattle.dance_list.specs.contracts.history.History.pushed.{ended, clauses}
use Rattle.dance_list.specs.contracts.history.History.pushed.Key.{name as #self}
use Rattle.dance_list.proofs.history.History.pushed.Statement.{statement}
use Rattle.dance_list.proofs.history.History.pushed.Code as code

pub pushed_spec : {M : Type 1} → statement M
pushed_spec 𝓤 𝓛 𝓜 𝓡 wired X L =
    let H = 𝓛.H in let 𝓣 = tables 𝓤 H 𝓜 𝓡 𝓡.env in let E : El = record { row = X; laws = L } in let R : RattleType = param 0 X in let En = ended X in let fn = inst_fn (args E) code.function in let c = clauses X 𝓛 𝓜.mem 𝓡.returns in
    let Row : RattleType = history.the_row R in
    let hs : Stays En.signature.params En.kept = (stay_ref (0 ∷ []) tt (plain (λ _. Row)), (stay_dropped (RefOf (1 ∷ []) tt (plain (λ _. node.the_row)) (λ _. tt)) yes, (stay_dropped (RefOf (2 ∷ []) tt (plain (λ _. R)) (λ _. tt)) yes, tt))) in
    proved 𝓛 En hs c 𝓜 𝓡 (Goes-ref 𝓛 4 0 tt (plain (λ _. Row)), (Goes-dropped 𝓛 4 (RefOf (1 ∷ []) tt (plain (λ _. node.the_row)) (λ _. tt)) yes (λ κs x f. refl), (Goes-dropped 𝓛 4 (RefOf (2 ∷ []) tt (plain (λ _. R)) (λ _. tt)) yes (λ κs x f. refl), tt))) (#self (args E)) fn (code.unfolded 𝓤 H 𝓜 𝓡 wired (X, tt)) (λ κs. (mut_vals, (shr_vals, (shr_vals, tt)))) (λ κs. (mut_Tells (named 0) κs.0 Row, (shr_Tells (named 1) κs.1.0 node.the_row, (shr_Tells (named 2) κs.1.1.0 R, tt)))) (λ κs qs bounds a gh are.
    let b : ℕ = a.0.ref_ptr.0 in let o : ℕ = a.0.ref_ptr.1 in let h : Row.Denot = a.0.now in
    let y : (walk_of 𝓛 En hs c).Ghost = ((κs, qs, bounds, a, (vptr a.0.ref_ptr.0 a.0.ref_ptr.1 ∷ [], (vptr a.1.0.ref_ptr.0 a.1.0.ref_ptr.1 ∷ [], (vptr a.1.1.0.ref_ptr.0 a.1.1.0.ref_ptr.1 ∷ [], tt)))), gh) in let Post : Val → SProp 𝓤 = (walk_of 𝓛 En hs c).post y in let toks : Fml = (fsep (flft κs.0 qs.0) (fsep (flft κs.1.0 qs.1.0) (fsep (flft κs.1.1.0 qs.1.1.0) (fsep (flft κs.1.1.1.0 qs.1.1.1.0) ftrue)))) in
    qed 𝓛 ((‵ toks ⊛ ‵ (owns (types_at En.signature.params κs) a y.0.4)) ∷ raw ((c κs a).requires gh) ∷ []) ∵ split ! $ move ! (1 ∷ []) $ fsplit ! $ fsplit3 ! $ drop ! $ move ! (3 ∷ []) $ fsplit ! $ keep ! (2 ∷ 3 ∷ 0 ∷ 1 ∷ []) $
    enter ! 𝓣.C 𝓣.Λ fn (vptr a.0.ref_ptr.0 a.0.ref_ptr.1 ∷ vptr a.1.0.ref_ptr.0 a.1.0.ref_ptr.1 ∷ vptr a.1.1.0.ref_ptr.0 a.1.1.0.ref_ptr.1 ∷ []) Post $ alloc_all ! (λ l. pass_all ! refl ((tt, tt), ((tt, tt), ((tt, tt), tt))) $ opens ! tt Row {h = h} b o (λ vs. move ! (1 ∷ []) $ fsplit ! $ fjoin ! $ move ! (1 ∷ 0 ∷ []) $
    let new : Row.Denot = record { mark = h.mark; linked = h.linked ++ (a.1.0.now, a.1.1.0.now) ∷ []; unlinked = h.unlinked } in closes ! tt Row new vs b o $ sets ! (of_opd ! (unit_lit !)) refl (tt, tt) $
    feq_i ! (List Val) (vptr b o ∷ []) (vptr b o ∷ []) refl $ fjoin3 ! $ nothing ! $ nothing ! $ fjoin ! $ nothing ! $ fjoin ! $ move ! (1 ∷ 0 ∷ []) $ fjoin ! $ move ! (1 ∷ 2 ∷ []) $ fjoin ! $ feq_i ! (List Val) (vunit ∷ []) (vunit ∷ []) refl $
    returns ! (look_at ! 0 refl) $ free_all ! refl $ keep ! (1 ∷ 2 ∷ 0 ∷ []) $ by ! (ends 𝓛 En hs c y vunit tt (new, (tt, (tt, tt))) (tt, (tt, (tt, tt))) (fact_i 𝓤 _ (emp 𝓤) (refl, refl))))))
