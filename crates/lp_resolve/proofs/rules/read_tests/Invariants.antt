use Rattle.std.proofs.Common.{take}
use Rattle.lp_resolve.specs.Texts.{texts_of}
use Rattle.lp_resolve.specs.ProgramReading.{read_tree}
use Rattle.lp_resolve.proofs.ReadsAsLemmas.{HaveRead}
use Rattle.lp_resolve.proofs.rules.read_tests.Given as goal

abbrev pub invariant-loop-test : goal.invariant-loop-test
invariant-loop-test l = HaveRead texts_of read_tree l.initial.symbols l.symbols l.initial.variables (take l.test-index l.tests) l.read l.variables
