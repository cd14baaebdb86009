use Rattle.std.proofs.Common.{refl}
use Rattle.lp_samples.specs.Elaborator.{elaborator_lines, elaborator_text}
use Rattle.lp_samples.proofs.elaborator.Goals as goal

pub returns : goal.returns
unfolding elaborator_text elaborator_lines
returns c = refl
