use Rattle.std.proofs.Common.{◌≡◌, ◌∙◌, ℕ, ◌<◌, List, None, length, map, sym, ap, arith}
use Rattle.ref_terms.specs.terms.Term.{Term}
use Rattle.ref_terms.specs.declared.tree.Tree.{Tree}
use Rattle.lp_resolve.specs.Trees.{as_term, head_term, with_arguments}
use Rattle.lp_resolve.specs.inside.Build.{bound_index}
use Rattle.lp_resolve.proofs.TreeForms.{term-ap}
use Rattle.lp_resolve.proofs.Arguments.{applied-unbound}
use Rattle.lp_resolve.proofs.build.bound_name.Goals as goal

pub returns-else-len-eq0 : goal.returns-else-len-eq0
returns-else-len-eq0 c =
    let some : 0 < length c.in-Ap.arguments = omega (arith, c.len.ensures) in
    applied-unbound (head_term c.in-Ap.head) as_term c.in-Ap.arguments some ∙ sym (ap bound_index (ap as_term c.in-Ap.is ∙ term-ap c.in-Ap.head c.in-Ap.arguments))
