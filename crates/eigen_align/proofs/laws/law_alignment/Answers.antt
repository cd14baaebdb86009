use Rattle.eigen_align.proofs.BareLemmas.{joint-bare}
use Rattle.eigen_align.proofs.laws.law_alignment.Goals as goal

pub returns : goal.returns
returns c = joint-bare
