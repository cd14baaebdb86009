use Rattle.std.proofs.Common.{◌∷◌, [], reverse, arith}
use Rattle.level_terms.proofs.GrowthLemmas.{grows-refl, grows-trans}
use Rattle.term_print.specs.Pieces.{work_parts, page}
use Rattle.term_print.specs.declared.piece.Piece.TheVariants.{Top}
use Rattle.term_print.proofs.PrintLemmas.{started, goes_on, printed-line, seen-line, stopped-line, none-left}
use Rattle.term_print.proofs.WrittenLemmas.{on-err}
use Rattle.term_print.proofs.print.print_term.Goals as goal

pub returns-in_err-work-clause-grows : goal.returns-in_err-work-clause-grows
returns-in_err-work-clause-grows c = grows-refl c.args.heap.now []

pub loop-piece-init : goal.loop-piece-init
loop-piece-init c = started c.args.symbols.now c.args.depth c.args.heap.now c.args.t c.in_ok-work.work.items (page c.args.out.now c.args.namer.now) c.in_ok-work.ensures c.requires

pub loop-piece-preserved : goal.loop-piece-preserved
loop-piece-preserved c =
    goes_on c.args.symbols.now c.args.depth c.args.heap.now (work_parts c.args.symbols.now c.args.depth c.args.heap.now (Top c.args.t c.args.depth 0 ∷ [])) (page c.args.out.now c.args.namer.now)
    c.loop-piece.heap c.write_piece.new.heap c.loop-piece.work.items c.pop.new.self.items c.in-Some.piece (page c.loop-piece.out c.loop-piece.namer) (page c.write_piece.new.out c.write_piece.new.namer) (reverse c.write_piece.new.work.items)
    c.in-Some.ensures.items c.loop-piece.invariant c.in_ok-write_piece.ensures.prints c.in_ok-write_piece.ensures.variables c.in_ok-write_piece.ensures.grows

pub returns-in_err-write_piece-clause-front : goal.returns-in_err-write_piece-clause-front
returns-in_err-write_piece-clause-front c = on-err c.from_residual-in_err-write_piece.result
    (stopped-line c.args.symbols.now c.args.depth c.args.heap.now c.args.t c.requires (page c.args.out.now c.args.namer.now) c.loop-piece.heap c.loop-piece.work.items c.pop.new.self.items c.in-Some.piece (page c.loop-piece.out c.loop-piece.namer) c.write_piece.new.out
    c.in-Some.ensures.items c.loop-piece.invariant c.in_err-write_piece.ensures.stops)

pub returns-in_err-write_piece-clause-grows : goal.returns-in_err-write_piece-clause-grows
returns-in_err-write_piece-clause-grows c = grows-trans c.args.heap.now c.loop-piece.heap c.write_piece.new.heap [] [] [] c.loop-piece.invariant.grows c.write_piece.ensures.grows

pub returns-clause-text : goal.returns-clause-text
returns-clause-text c =
    printed-line c.args.symbols.now c.args.depth c.args.heap.now c.args.t c.requires (page c.args.out.now c.args.namer.now) c.loop-piece.heap c.loop-piece.work.items (page c.loop-piece.out c.loop-piece.namer)
    (none-left c.loop-piece.work.items (omega (arith, c.loop-piece.work.ok, c.in_default.ensures.cases.0))) c.loop-piece.invariant

pub returns-clause-seen : goal.returns-clause-seen
returns-clause-seen c =
    seen-line c.args.symbols.now c.args.depth c.args.heap.now c.args.t c.requires (page c.args.out.now c.args.namer.now) c.loop-piece.heap c.loop-piece.work.items (page c.loop-piece.out c.loop-piece.namer)
    (none-left c.loop-piece.work.items (omega (arith, c.loop-piece.work.ok, c.in_default.ensures.cases.0))) c.loop-piece.invariant
