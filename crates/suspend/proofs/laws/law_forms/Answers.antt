use Rattle.suspend.proofs.LookLemmas.{looks}
use Rattle.suspend.proofs.laws.law_forms.Goals as goal

pub returns : goal.returns
returns c = looks
