use Rattle.std.proofs.Common.{◌≡◌, false, List, ℕ, IfOk, subst}
use Rattle.level_terms.specs.Reading.{read}
use Rattle.ref_terms.specs.unification.Offence.{offence}
use Rattle.beta_fragment.specs.Names.{names}
use Rattle.pattern_unify.specs.declared.offence.Verdict.{Verdict}
use Rattle.pattern_unify.specs.inside.Verdicts.{verdict_of}
use Rattle.pattern_unify.proofs.OffenceSpines.{known-first}
use Rattle.pattern_unify.proofs.offence.offence.Goals as goal

pub returns-clause-verdict : goal.returns-clause-verdict
returns-clause-verdict c =
    subst (λ (ks : List ℕ). IfOk c.search.result (λ (r : Verdict). verdict_of r ≡ offence c.args.mark.index c.args.x.index ks false (read c.args.heap.now c.args.t.index names)))
    (known-first c.args.mark.index c.args.x.index c.args.ns.now c.args.depth)
    c.search.ensures.verdict
