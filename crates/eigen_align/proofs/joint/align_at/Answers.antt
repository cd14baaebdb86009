use Rattle.std.proofs.Common.{[], Bool, cond, Some, sym, ap, ne_eqb}
use Rattle.level_terms.proofs.GrowthLemmas.{grows-refl}
use Rattle.ref_terms.specs.search.Joint.{aligned}
use Rattle.eigen_align.specs.Sequents.{sequents_read}
use Rattle.eigen_align.proofs.joint.align_at.Goals as goal

pub returns-then-not-own-clause-aligned : goal.returns-then-not-own-clause-aligned
returns-then-not-own-clause-aligned c =
    sym (ap (λ (b : Bool). cond b (aligned (sequents_read c.args.heap.now c.args.heads.now) c.args.maps.now c.args.pair (Some c.args.names.now.items)) (Some c.args.names.now.items)) (ne_eqb c.args.pair.right_head c.args.i c.if-not-own.true))

pub returns-then-not-own-clause-grows : goal.returns-then-not-own-clause-grows
returns-then-not-own-clause-grows c = grows-refl c.args.heap.now []
