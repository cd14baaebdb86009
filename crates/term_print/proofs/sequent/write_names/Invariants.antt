use Rattle.std.proofs.Common.{◌-◌}
use Rattle.term_print.specs.Sequents.{names_bytes, more_names}
use Rattle.term_print.proofs.SequentLemmas.{Wrote}
use Rattle.term_print.proofs.sequent.write_names.Given as goal

abbrev pub invariant-loop-level : goal.invariant-loop-level
invariant-loop-level l = Wrote (names_bytes l.depth) l.fn.out l.out (more_names l.level (l.depth - l.level))
