use Rattle.std.proofs.Common.{◌∙◌, ◌<◌, ℕ, Option, Some, IfSome, sym, ap}
use Rattle.eigen_align.specs.inside.Identified.{all_allowed}
use Rattle.eigen_align.proofs.IdentifiedLemmas.{gets-set, gets-none}
use Rattle.eigen_align.proofs.JointLemmas.{every-set}
use Rattle.eigen_align.proofs.identifying.give.Goals as goal

pub returns-then-not-can-clause-given : goal.returns-then-not-can-clause-given
returns-then-not-can-clause-given c =
    gets-none c.args.own c.args.joint c.args.names.now.items c.requires
    (ap (all_allowed c.args.own c.args.joint 0) (sym c.as_slice.ensures.value) ∙ sym c.all_allow-can.ensures ∙ c.if-not-can.true)

pub returns-clause-given : goal.returns-clause-given
returns-clause-given c =
    gets-set c.args.own c.args.joint c.args.names.now.items c.requires
    (ap (all_allowed c.args.own c.args.joint 0) (sym c.as_slice.ensures.value) ∙ sym c.all_allow-can.ensures ∙ c.if-not-can.false)

pub returns-clause-below : goal.returns-clause-below
returns-clause-below c = λ d h w. every-set (λ (m : Option ℕ). IfSome m (λ z. z < d)) c.args.names.now.items c.args.own (Some c.args.joint) w h
