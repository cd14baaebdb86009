use Rattle.std.proofs.Common.{◌+◌, ◌/◌, ◌<◌, arith, ◌∙◌}
use Rattle.std.proofs.lemmas.List.{drop-set-lt}
use Rattle.agenda.proofs.TreeLemmas.{mend-step}
use Rattle.agenda.proofs.ranks.mend_above.Goals as goal

pub loop-k-preserved : goal.loop-k-preserved
loop-k-preserved c =
    let test : 1 < c.loop-k.k = c.loop-k-test.true in
    let bound : c.loop-k.k < c.args.places + c.args.places = c.loop-k.invariant.1 in
    let within : c.loop-k.k / 2 < c.args.places = omega arith in (
      omega arith,
      omega arith,
      mend-step c.loop-k.nodes c.args.places (c.loop-k.k / 2) c.earlier_of.result (omega (arith, c.loop-k.auto.nodes, c.requires.size)) (omega arith) within c.loop-k.invariant.2 c.earlier_of.ensures,
      drop-set-lt c.args.places c.loop-k.nodes (c.loop-k.k / 2) c.earlier_of.result within ∙ c.loop-k.invariant.3,
    )
