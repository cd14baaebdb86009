use Rattle.std.proofs.Common.{take}
use Rattle.lp_resolve.specs.ProgramTexts.{pair_texts}
use Rattle.lp_resolve.specs.ProgramReading.{read_pair}
use Rattle.lp_resolve.proofs.ReadsAsLemmas.{HaveRead}
use Rattle.lp_resolve.proofs.rules.read_pairs.Given as goal

abbrev pub invariant-loop-pair : goal.invariant-loop-pair
invariant-loop-pair l = HaveRead pair_texts read_pair l.initial.symbols l.symbols l.initial.variables (take l.pair-index l.pairs) l.read l.variables
