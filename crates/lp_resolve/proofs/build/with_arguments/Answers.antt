use Rattle.std.proofs.Common.{◌≡◌, ◌∙◌, List, map, sym, ap, arith}
use Rattle.ref_terms.specs.terms.Term.{Term}
use Rattle.lp_resolve.specs.Trees.{as_term, head_term, with_arguments, shape, head_shape}
use Rattle.lp_resolve.proofs.Arguments.{some-arguments, no-arguments}
use Rattle.lp_resolve.proofs.Shapes.{fits-ap}
use Rattle.lp_resolve.proofs.TreeForms.{term-stuck}
use Rattle.lp_resolve.proofs.build.with_arguments.Goals as goal

pub returns-then-len-gt0-clause-fits : goal.returns-then-len-gt0-clause-fits
returns-then-len-gt0-clause-fits c =
    fits-ap c.args.head c.args.arguments (record { head_fits = c.requires.fits; some = some-arguments (head_shape c.args.head).abstraction shape c.args.arguments (omega (arith, c.len.ensures)); arguments_fit = c.requires.arguments })

pub returns-in-Stuck-clause-term : goal.returns-in-Stuck-clause-term
returns-in-Stuck-clause-term c =
    ap as_term c.into_inner.ensures ∙ sym (term-stuck c.in-Stuck.abstraction) ∙ ap head_term (sym c.in-Stuck.is) ∙ sym (no-arguments (head_term c.args.head) as_term c.args.arguments (omega (arith, c.len.ensures)))
