use Rattle.std.proofs.Common.{[], ◌∷◌, reverse, sym, subst}
use Rattle.term_print.specs.Pieces.{page, work_parts}
use Rattle.term_print.specs.Written.{Stops}
use Rattle.term_print.specs.declared.piece.Piece.{Piece}
use Rattle.level_terms.proofs.GrowthLemmas.{grows-refl}
use Rattle.term_print.proofs.StepLemmas.{infix-stopped, argument-printed, argument-stopped}
use Rattle.term_print.proofs.WrittenLemmas.{on-ok, on-err_from}
use Rattle.term_print.proofs.step.write_piece.Goals as goal

pub returns-in_err-push-in-Close-clause-grows : goal.returns-in_err-push-in-Close-clause-grows
returns-in_err-push-in-Close-clause-grows c = grows-refl c.args.heap.now []

pub returns-in_err-push-in-Argument-clause-grows : goal.returns-in_err-push-in-Argument-clause-grows
returns-in_err-push-in-Argument-clause-grows c = grows-refl c.args.heap.now []

pub returns-in_ok-push-in-Close-clause-grows : goal.returns-in_ok-push-in-Close-clause-grows
returns-in_ok-push-in-Close-clause-grows c = grows-refl c.args.heap.now []

pub returns-in-Infix-clause-grows : goal.returns-in-Infix-clause-grows
returns-in-Infix-clause-grows c = grows-refl c.args.heap.now []

pub returns-in-Infix-clause-stops : goal.returns-in-Infix-clause-stops
returns-in-Infix-clause-stops c = on-err_from c.write_infix.result
    (λ s. subst (λ (p : Piece). Stops (page c.args.out.now c.args.namer.now) (work_parts c.args.symbols.now c.args.base c.args.heap.now (p ∷ reverse c.args.work.now.items)) c.write_infix.new.out) (sym c.in-Infix.is)
    (infix-stopped c.args.symbols.now c.args.base c.args.heap.now c.in-Infix.c (reverse c.args.work.now.items) c.args.out.now c.args.namer.now c.write_infix.new.out s))
    c.write_infix.ensures.err

pub returns-in_ok-push-in-Argument-clause-prints : goal.returns-in_ok-push-in-Argument-clause-prints
returns-in_ok-push-in-Argument-clause-prints c = on-ok c.write_inner-in-Argument.result
    (argument-printed c.args.symbols.now c.args.base c.args.heap.now c.in-Argument.node c.in-Argument.depth (reverse c.args.work.now.items) c.args.piece c.in-Argument.is c.args.out.now c.push-in-Argument.new.self c.args.namer.now c.in_ok-push-in-Argument.ensures.ok
    c.write_inner-in-Argument.new.heap (page c.write_inner-in-Argument.new.out c.write_inner-in-Argument.new.namer) (reverse c.write_inner-in-Argument.new.work.items))
    c.write_inner-in-Argument.ensures.prints

pub returns-in_ok-push-in-Argument-clause-stops : goal.returns-in_ok-push-in-Argument-clause-stops
returns-in_ok-push-in-Argument-clause-stops c = on-err_from c.write_inner-in-Argument.result
    (argument-stopped c.args.symbols.now c.args.base c.args.heap.now c.in-Argument.node c.in-Argument.depth (reverse c.args.work.now.items) c.args.piece c.in-Argument.is c.args.out.now c.push-in-Argument.new.self c.args.namer.now c.in_ok-push-in-Argument.ensures.ok
    c.write_inner-in-Argument.new.out)
    c.write_inner-in-Argument.ensures.stops
