use Rattle.std.proofs.Common.{◌≡◌, ◌∙◌, ◌-◌, ◌<◌, suc, [], length, arith}
use Rattle.level_terms.proofs.GrowthLemmas.{grows-trans}
use Rattle.hyp_context.proofs.ListLemmas.{first-valid, cell-reads}
use Rattle.hyp_context.proofs.list.list_of.Goals as goal

pub cell-requires-clause-first : goal.cell-requires-clause-first
cell-requires-clause-first c =
    let here : c.loop-at.at - 1 < length c.args.terms.now = omega (arith, c.loop-at-test.true, c.loop-at.invariant.within) in
    first-valid c.args.heap.now c.loop-at.heap c.args.depth c.args.terms.now (c.loop-at.at - 1) (record { index = 0 }) c.is_sound.ensures c.loop-at.invariant.grows c.requires here

pub returns-in_err-list-2-clause-grows : goal.returns-in_err-list-2-clause-grows
returns-in_err-list-2-clause-grows c = grows-trans c.args.heap.now c.loop-at.heap c.cell.new.heap [] [] [] c.loop-at.invariant.grows c.cell.ensures.grows

pub loop-at-preserved : goal.loop-at-preserved
loop-at-preserved c =
    let i = c.loop-at.invariant in
    let here : c.loop-at.at - 1 < length c.args.terms.now = omega (arith, c.loop-at-test.true, i.within) in
    let before : c.loop-at.at ≡ suc (c.loop-at.at - 1) = omega (arith, c.loop-at-test.true) in
    record {
      within = omega (arith, here);
      reads = cell-reads c.args.heap.now c.loop-at.heap c.cell.new.heap c.args.depth c.args.terms.now c.loop-at.at (c.loop-at.at - 1) (record { index = 0 }) c.loop-at.list c.in_ok-list-2.list c.is_sound.ensures i.grows c.requires here before i.reads c.in_ok-list-2.ensures.reads;
      valid = c.in_ok-list-2.ensures.valid;
      variables = c.cell.ensures.variables ∙ i.variables;
      grows = grows-trans c.args.heap.now c.loop-at.heap c.cell.new.heap [] [] [] i.grows c.cell.ensures.grows;
    }
