use Rattle.lp_resolve.specs.ProgramReading.{read_variable}
use Rattle.lp_resolve.proofs.ReadsAsLemmas.{reads_as-there}
use Rattle.lp_resolve.proofs.rules.read_context.Goals as goal

pub returns-in_ok-read_word-in-Some-clause-read : goal.returns-in_ok-read_word-in-Some-clause-read
returns-in_ok-read_word-in-Some-clause-read c =
    rw c.in-Some.is (reads_as-there read_variable _ _ _ c.in-Some.word _ c.in_ok-read_word-in-Some.ensures.read)
