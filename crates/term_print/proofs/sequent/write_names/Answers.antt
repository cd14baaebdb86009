use Rattle.std.proofs.Common.{◌-◌, ◌∷◌, [], arith}
use Rattle.term_print.specs.Sequents.{names_bytes, more_names}
use Rattle.term_print.proofs.SequentLemmas.{wrote-first, names-first}
use Rattle.term_print.proofs.sequent.write_names.Goals as goal

pub loop-level-init : goal.loop-level-init
loop-level-init c = wrote-first c.args.out.now c.push_slice.new.self (35 ∷ 48 ∷ []) (more_names 1 (c.args.depth - 1)) (names_bytes c.args.depth) c.in_ok-push_slice.ensures.ok (names-first c.args.depth (omega (arith, c.if-depth-eq0.false)))
