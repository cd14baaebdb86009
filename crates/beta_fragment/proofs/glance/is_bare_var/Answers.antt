use Rattle.std.proofs.Common.{sym, subst}
use Rattle.beta_fragment.specs.Firm.{IsPlain}
use Rattle.beta_fragment.proofs.glance.is_bare_var.Goals as goal

pub returns-in-Some : goal.returns-in-Some
returns-in-Some c = λ q env p. subst IsPlain (sym (c.in-Some.ensures.2.term env p)) tt
