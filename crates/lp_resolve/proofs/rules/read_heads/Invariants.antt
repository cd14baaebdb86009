use Rattle.std.proofs.Common.{take}
use Rattle.lp_resolve.specs.ProgramTexts.{head_texts}
use Rattle.lp_resolve.specs.ProgramReading.{read_head}
use Rattle.lp_resolve.proofs.ReadsAsLemmas.{HaveRead}
use Rattle.lp_resolve.proofs.rules.read_heads.Given as goal

abbrev pub invariant-loop-head : goal.invariant-loop-head
invariant-loop-head l = HaveRead head_texts read_head l.initial.symbols l.symbols l.initial.variables (take l.head-index l.heads) l.read l.variables
