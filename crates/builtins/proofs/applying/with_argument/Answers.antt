use Rattle.std.proofs.Common.{[]}
use Rattle.level_terms.proofs.GrowthLemmas.{grows-refl}
use Rattle.level_terms.proofs.ReadLemmas.{valid-below}
use Rattle.builtins.proofs.applying.with_argument.Goals as goal

pub view-requires : goal.view-requires
view-requires c = valid-below c.args.heap.now c.args.f.index c.args.depth c.requires.function

pub returns-in_err-args-in-App-clause-grows : goal.returns-in_err-args-in-App-clause-grows
returns-in_err-args-in-App-clause-grows c = grows-refl c.args.heap.now []
