use Rattle.std.proofs.Common.{List, ℕ, subst}
use Rattle.std.specs.Result.{OnOk}
use Rattle.level_terms.specs.Reading.{read}
use Rattle.level_terms.proofs.GrowthLemmas.{grows-refl}
use Rattle.ref_terms.specs.unification.Closing.{close_all}
use Rattle.beta_fragment.specs.Names.{names as own_names}
use Rattle.pattern_unify.specs.Bound.{IsBound}
use Rattle.pattern_unify.proofs.CloseNames.{first-names}
use Rattle.pattern_unify.proofs.binding.bind.Goals as goal

pub returns-in_err-stands_as_it_is-clause-grows : goal.returns-in_err-stands_as_it_is-clause-grows
returns-in_err-stands_as_it_is-clause-grows c = grows-refl c.args.heap.now c.args.trail.now.entries

pub returns-then-branch-clause-bound : goal.returns-then-branch-clause-bound
returns-then-branch-clause-bound c =
    subst (λ (ks : List ℕ). OnOk c.assign_absent.result (IsBound c.args.heap.now c.assign_absent.new.heap c.args.v.index (close_all ks (read c.args.heap.now c.args.t.index own_names))))
    (first-names c.args.ns.now (c.in_ok-stands_as_it_is.ensures.first c.if-branch.true)) c.assign_absent.ensures.bound
