use Rattle.std.proofs.Common.{rules, sym, subst, ◌∙◌, ap, w64, FitsSigned}
use Rattle.std.proofs.lemmas.Int.{to_z-of_z}
use Rattle.ref_terms.specs.search.Fault.{Good}
use Rattle.builtins.specs.inside.Numbers.{IsExpression}
use Rattle.builtins.proofs.ExpressionLemmas.{value-rigid}
use Rattle.builtins.proofs.expression.numeral.Goals as goal

pub returns-in-Ok : goal.returns-in-Ok
returns-in-Ok c = λ g depth u xs l e.
    let fits : FitsSigned w64 c.in-Ok.z = search rules in
    subst (IsExpression g depth u) (sym c.integer_value.ensures) (value-rigid u c.args.head xs c.requires e ∙ c.in-Ok.ensures u xs l e ∙ ap Good (sym (to_z-of_z w64 c.in-Ok.z fits)))

pub returns-in-Err : goal.returns-in-Err
returns-in-Err c = λ g depth u xs l e. value-rigid u c.args.head xs c.requires e ∙ c.in-Err.ensures u xs l e
