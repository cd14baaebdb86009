use Rattle.level_terms.specs.Reading.{read}
use Rattle.level_terms.proofs.GrowthLemmas.{grows-refl}
use Rattle.beta_fragment.specs.Names.{names}
use Rattle.builtins.proofs.CallLemmas.{three-other}
use Rattle.builtins.proofs.calling.call_three.Goals as goal

pub returns-in_default : goal.returns-in_default
returns-in_default c = record {
  answer = tt;
  stops = three-other c.args.heap.now c.args.depth c.args.kind (read c.args.heap.now c.args.f.index names) (read c.args.heap.now c.args.a.index names) (read c.args.heap.now c.args.r.index names) c.in_default.not-Beta;
  grows = grows-refl c.args.heap.now c.args.trail.now.entries;
}
