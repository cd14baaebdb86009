use Rattle.std.proofs.Common.{◌∙◌, ap, subst, arith, List}
use Rattle.level_terms.specs.declared.node.TermId.{TermId}
use Rattle.ref_terms.specs.terms.Term.{At, Con}
use Rattle.ref_terms.specs.unification.Spine.{apply_all}
use Rattle.ref_terms.specs.search.Arithmetic.{value_of}
use Rattle.beta_fragment.specs.HeadForm.{AllValidAt, all_read}
use Rattle.goal_form.proofs.SliceLemmas.{two-items}
use Rattle.builtins.proofs.ExpressionLemmas.{value-unequal, read-length}
use Rattle.builtins.proofs.expression.constant_expression.Goals as goal

pub returns-in-len2 : goal.returns-in-len2
returns-in-len2 c = λ g depth u v e.
    let is = two-items c.args.args.now (record { index = 0 }) c.in-len2.len_at_least c.in-len2.len_below in
    c.operation.ensures g depth u (subst (λ (ts : List TermId). AllValidAt g ts depth) is v) (e ∙ ap (λ (ts : List TermId). apply_all (At (Con c.args.c.0)) (all_read g ts)) is)

pub returns-in_default : goal.returns-in_default
returns-in_default c = λ g depth u v e. ap value_of e ∙ value-unequal c.args.c.0 (all_read g c.args.args.now) (λ k. let l = read-length g c.args.args.now in omega (arith, k, l, c.in_default.len_below))

pub returns-in_default-2 : goal.returns-in_default-2
returns-in_default-2 c = λ g depth u v e. ap value_of e ∙ value-unequal c.args.c.0 (all_read g c.args.args.now) (λ k. let l = read-length g c.args.args.now in omega (arith, k, l, c.in_default.len_at_least))
