use Rattle.beta_fragment.proofs.StandLemmas.{rigid-form_ready}
use Rattle.beta_fragment.proofs.head.is_rigid_form.Goals as goal

pub returns-in-Rigid : goal.returns-in-Rigid
returns-in-Rigid c = λ g depth u k q. rigid-form_ready g depth u c.args.form.now _ _ c.in-Rigid.is k
