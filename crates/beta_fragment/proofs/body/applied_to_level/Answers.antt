use Rattle.std.proofs.Common.{[]}
use Rattle.level_terms.proofs.GrowthLemmas.{grows-refl}
use Rattle.level_terms.proofs.ReadLemmas.{valid-below}
use Rattle.beta_fragment.proofs.UnreachedNodes.{body-unreached}
use Rattle.beta_fragment.proofs.body.applied_to_level.Goals as goal

pub view-requires : goal.view-requires
view-requires c = valid-below c.args.heap.now c.args.t.index c.args.depth c.requires.valid

pub returns-then-made-depth-clause-unreached : goal.returns-then-made-depth-clause-unreached
returns-then-made-depth-clause-unreached c = body-unreached c.args.heap.now c.args.t.index c.args.depth c.enter.result c.is_sound.ensures c.enter.ensures.own

pub returns-then-made-depth-clause-grows : goal.returns-then-made-depth-clause-grows
returns-then-made-depth-clause-grows c = grows-refl c.args.heap.now []

pub returns-in_err-args-in-App-clause-grows : goal.returns-in_err-args-in-App-clause-grows
returns-in_err-args-in-App-clause-grows c = grows-refl c.args.heap.now []
