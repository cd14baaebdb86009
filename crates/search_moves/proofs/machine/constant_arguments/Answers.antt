use Rattle.std.proofs.Common.{◌∙◌, ap, subst}
use Rattle.ref_terms.specs.unification.Spine.{args_of}
use Rattle.beta_fragment.specs.HeadForm.{all_read, rigid_head, IsHeadForm}
use Rattle.beta_fragment.specs.declared.answer.Whnf.TheVariants.{Rigid}
use Rattle.search_moves.proofs.EnterLemmas.{applied-args}
use Rattle.search_moves.proofs.ConstantLemmas.{rigid-only}
use Rattle.search_moves.proofs.machine.constant_arguments.Goals as goal

pub returns : goal.returns
returns c = λ g depth u h.
    let form : IsHeadForm g depth u (Rigid c.in-Rigid.field-0 c.in-Rigid.args) = subst (IsHeadForm g depth u) c.in-Rigid.is h in
    (form.0, ap args_of form.1 ∙ applied-args (rigid_head c.in-Rigid.field-0) (all_read g c.in-Rigid.args))

pub unreachable-requires : goal.unreachable-requires
unreachable-requires c = rigid-only c.requires.0 c.requires.1 c.requires.2 c.requires.3 c.args.form c.requires.4 c.requires.5 c.in_default.not-Rigid
