use Rattle.lp_resolve.specs.ProgramReading.{read_tree}
use Rattle.lp_resolve.proofs.ReadsAsLemmas.{reads_as-there}
use Rattle.lp_resolve.proofs.rules.read_body.Goals as goal

pub returns-in_ok-read_part-in-Some-clause-read : goal.returns-in_ok-read_part-in-Some-clause-read
returns-in_ok-read_part-in-Some-clause-read c =
    rw c.in-Some.is (reads_as-there read_tree _ _ _ c.in-Some.term _ c.in_ok-read_part-in-Some.ensures.read)
