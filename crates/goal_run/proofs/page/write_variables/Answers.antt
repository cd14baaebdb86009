use Rattle.std.proofs.Common.{ℕ, ◌<◌, List, [], ◌∷◌, length, drop, get_or, false, ap, subst, arith}
use Rattle.level_terms.proofs.GrowthLemmas.{grows-refl, grows-trans}
use Rattle.level_terms.proofs.ReadLemmas.{valid-below, grown-reads}
use Rattle.level_terms.proofs.ValidLemmas.{growth_keeps_valid}
use Rattle.beta_fragment.specs.HeadForm.{all_read}
use Rattle.beta_fragment.specs.Names.{names}
use Rattle.ref_terms.specs.terms.Term.{Term}
use Rattle.ref_terms.specs.texts.Text.{Part}
use Rattle.lp_resolve.specs.declared.query.QueryVar.{QueryVar}
use Rattle.term_print.specs.Written.{Prints}
use Rattle.term_print.specs.Pieces.{page}
use Rattle.term_print.proofs.WrittenLemmas.{prints-none}
use Rattle.term_print.proofs.SequentLemmas.{valid-at}
use Rattle.goal_run.specs.inside.Lines.{lines_of}
use Rattle.goal_run.proofs.LineLemmas.{drop-past, next-line, no-terms}
use Rattle.goal_run.proofs.page.write_variables.Goals as goal

pub loop-place-init : goal.loop-place-init
loop-place-init c = record {
  prints = prints-none (page c.args.text.now c.args.namer.now) (lines_of c.args.symbols.now c.args.variables.now (all_read c.args.heap.now c.args.query.now));
  grows = grows-refl c.args.heap.now [];
}

pub write_variable-requires : goal.write_variable-requires
write_variable-requires c =
    let q = c.args.query.now in
    let low : c.loop-place.place < length q = omega (arith, c.if-place-query.true) in
    let v = valid-at c.args.heap.now q 0 c.loop-place.place (record { index = 0 }) c.requires low in
    let t = get_or q c.loop-place.place (record { index = 0 }) in
    growth_keeps_valid c.args.heap.now c.loop-place.heap [] [] t.index 0 c.is_sound.ensures c.loop-place.invariant.grows (valid-below c.args.heap.now t.index 0 v) v

pub returns-in_err-write_variable-clause-grows : goal.returns-in_err-write_variable-clause-grows
returns-in_err-write_variable-clause-grows c = grows-trans c.args.heap.now c.loop-place.heap c.write_variable.new.heap [] [] [] c.loop-place.invariant.grows c.write_variable.ensures.grows

pub loop-place-preserved : goal.loop-place-preserved
loop-place-preserved c =
    let g = c.args.heap.now in
    let q = c.args.query.now in
    let vs = c.args.variables.now in
    let i = c.loop-place.place in
    let table = c.args.symbols.now in
    let d : QueryVar = record { name = record { 0 = 0 }; shown = false } in
    let low : i < length vs = omega (arith, c.loop-place-test.true) in
    let lower : i < length q = omega (arith, c.if-place-query.true) in
    let t = get_or q i (record { index = 0 }) in
    let v = valid-at g q 0 i (record { index = 0 }) c.requires lower in
    let same = ap (λ (r : (ℕ → Term) → Term). r names) (grown-reads g c.loop-place.heap c.is_sound.ensures c.loop-place.invariant.grows t.index (valid-below g t.index 0 v)) in
    let now = page c.loop-place.text c.loop-place.namer in
    let new = page c.write_variable.new.text c.write_variable.new.namer in
    record {
      prints = next-line table g vs q i d (record { index = 0 }) low lower (page c.args.text.now c.args.namer.now) now new (lines_of table vs (all_read g q)) c.loop-place.invariant.prints
          (subst (λ (u : Term). Prints now (lines_of table (get_or vs i d ∷ []) (u ∷ [])) new []) same c.in_ok-write_variable.ensures.writes);
      grows = grows-trans g c.loop-place.heap c.write_variable.new.heap [] [] [] c.loop-place.invariant.grows c.write_variable.ensures.grows;
    }

pub returns-else-place-query-clause-writes : goal.returns-else-place-query-clause-writes
returns-else-place-query-clause-writes c =
    let g = c.args.heap.now in
    let q = c.args.query.now in
    let vs = c.args.variables.now in
    let table = c.args.symbols.now in
    let left = drop c.loop-place.place vs in
    let none = no-terms table left (all_read g (drop c.loop-place.place q)) (ap (all_read g) (drop-past q c.loop-place.place (omega (arith, c.if-place-query.false)))) in
    subst (λ (rest : List Part). Prints (page c.args.text.now c.args.namer.now) (lines_of table vs (all_read g q)) (page c.loop-place.text c.loop-place.namer) rest) none c.loop-place.invariant.prints
