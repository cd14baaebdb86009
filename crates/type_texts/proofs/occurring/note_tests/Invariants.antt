use Rattle.std.proofs.Common.{◌≡◌, take, flat_map}
use Rattle.type_texts.specs.TypeText.{noted_all}
use Rattle.type_texts.specs.Occurring.{test_constants}
use Rattle.type_texts.proofs.occurring.note_tests.Given as goal

abbrev pub invariant-loop-test : goal.invariant-loop-test
invariant-loop-test l = l.constants.keys ≡ noted_all l.fn.constants.keys (flat_map test_constants (take l.test-index l.tests))
