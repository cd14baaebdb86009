use Rattle.std.proofs.Common.{[], get_or, length, ◌<◌, arith, refl, ◌∙◌}
use Rattle.level_terms.specs.Reading.{read}
use Rattle.level_terms.proofs.GrowthLemmas.{grows-refl, grows-trans}
use Rattle.level_terms.proofs.ValidLemmas.{growth_keeps_valid}
use Rattle.beta_fragment.specs.Names.{names}
use Rattle.beta_fragment.specs.HeadForm.{all_read}
use Rattle.level_terms.proofs.ReadLemmas.{valid-below}
use Rattle.term_print.specs.Pieces.{page}
use Rattle.term_print.specs.Sequents.{more_lines}
use Rattle.term_print.proofs.SequentLemmas.{valid-at, line-next, line-stops, one-read-grown}
use Rattle.term_print.proofs.WrittenLemmas.{prints-none, on-err}
use Rattle.term_print.proofs.sequent.print_more.Goals as goal

pub loop-term-init : goal.loop-term-init
loop-term-init c = record {
  prints = prints-none (page c.args.out.now c.args.namer.now) (more_lines c.args.symbols.now (all_read c.args.heap.now c.args.terms.now));
  variables = refl;
  grows = grows-refl c.args.heap.now [];
}

pub print_term-requires : goal.print_term-requires
print_term-requires c =
    let lt : c.loop-term.term-index < length c.args.terms.now = omega (arith, c.loop-term-test.true) in
    let v = valid-at c.args.heap.now c.args.terms.now c.args.depth c.loop-term.term-index (record { index = 0 }) c.requires lt in
    growth_keeps_valid c.args.heap.now c.loop-term.heap [] [] (get_or c.args.terms.now c.loop-term.term-index (record { index = 0 })).index c.args.depth c.is_sound.ensures c.loop-term.invariant.grows (valid-below c.args.heap.now _ c.args.depth v) v

pub returns-in_err-print_term-clause-stops : goal.returns-in_err-print_term-clause-stops
returns-in_err-print_term-clause-stops c =
    let lt : c.loop-term.term-index < length c.args.terms.now = omega (arith, c.loop-term-test.true) in
    let v = valid-at c.args.heap.now c.args.terms.now c.args.depth c.loop-term.term-index (record { index = 0 }) c.requires lt in
    on-err c.from_residual-in_err-print_term.result
    (line-stops c.args.symbols.now c.args.heap.now c.args.terms.now c.loop-term.term-index (record { index = 0 }) lt (read c.loop-term.heap (get_or c.args.terms.now c.loop-term.term-index (record { index = 0 })).index names)
    (one-read-grown c.args.heap.now c.loop-term.heap c.is_sound.ensures c.loop-term.invariant.grows (get_or c.args.terms.now c.loop-term.term-index (record { index = 0 })) c.args.depth v)
    (page c.args.out.now c.args.namer.now) (more_lines c.args.symbols.now (all_read c.args.heap.now c.args.terms.now)) c.loop-term.out c.push_slice.new.self c.loop-term.namer c.print_term.new.out
    c.loop-term.invariant.prints c.in_ok-push_slice.ensures.ok c.in_err-print_term.ensures.front)

pub returns-in_err-print_term-clause-grows : goal.returns-in_err-print_term-clause-grows
returns-in_err-print_term-clause-grows c = grows-trans c.args.heap.now c.loop-term.heap c.print_term.new.heap [] [] [] c.loop-term.invariant.grows c.print_term.ensures.grows

pub loop-term-preserved : goal.loop-term-preserved
loop-term-preserved c =
    let lt : c.loop-term.term-index < length c.args.terms.now = omega (arith, c.loop-term-test.true) in
    let v = valid-at c.args.heap.now c.args.terms.now c.args.depth c.loop-term.term-index (record { index = 0 }) c.requires lt in
    record {
      prints = line-next c.args.symbols.now c.args.heap.now c.args.terms.now c.loop-term.term-index (record { index = 0 }) lt (read c.loop-term.heap (get_or c.args.terms.now c.loop-term.term-index (record { index = 0 })).index names)
          (one-read-grown c.args.heap.now c.loop-term.heap c.is_sound.ensures c.loop-term.invariant.grows (get_or c.args.terms.now c.loop-term.term-index (record { index = 0 })) c.args.depth v)
          (page c.args.out.now c.args.namer.now) (more_lines c.args.symbols.now (all_read c.args.heap.now c.args.terms.now)) c.loop-term.out c.push_slice.new.self c.loop-term.namer c.print_term.new.out c.print_term.new.namer
          c.loop-term.invariant.prints c.in_ok-push_slice.ensures.ok c.in_ok-print_term.ensures.text c.in_ok-print_term.ensures.seen;
      variables = c.print_term.ensures.variables ∙ c.loop-term.invariant.variables;
      grows = grows-trans c.args.heap.now c.loop-term.heap c.print_term.new.heap [] [] [] c.loop-term.invariant.grows c.print_term.ensures.grows;
    }
