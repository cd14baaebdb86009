use Rattle.std.proofs.Common.{◌∙◌, sym, ap, []}
use Rattle.level_terms.proofs.GroundLemmas.{ground_normal-unreached}
use Rattle.level_terms.proofs.GrowthLemmas.{grows-refl}
use Rattle.level_terms.proofs.ReadLemmas.{valid-below, grown-reads}
use Rattle.level_terms.proofs.ValidLemmas.{growth_keeps_valid}
use Rattle.beta_fragment.specs.Names.{names}
use Rattle.pattern_unify.proofs.ReachedLemmas.{unreached-grown}
use Rattle.pattern_unify.proofs.reaching.settled_whole.Goals as goal

pub is_ground_normal-requires : goal.is_ground_normal-requires
is_ground_normal-requires c = valid-below c.args.heap.now c.args.t.index c.args.depth c.requires.valid

pub returns-then-is_ground_normal-clause-grows : goal.returns-then-is_ground_normal-clause-grows
returns-then-is_ground_normal-clause-grows c = grows-refl c.args.heap.now []

pub filled-requires : goal.filled-requires
filled-requires c = valid-below c.args.heap.now c.args.t.index c.args.depth c.requires.valid

pub returns-then-is_ground_normal-2-clause-unreached : goal.returns-then-is_ground_normal-2-clause-unreached
returns-then-is_ground_normal-2-clause-unreached c = ground_normal-unreached c.filled.new.heap c.in_ok-r.r.index c.args.v.index (sym c.is_ground_normal-2.ensures ∙ c.if-is_ground_normal-2.true)

pub returns-clause-reads : goal.returns-clause-reads
returns-clause-reads c = ap (λ r. r names) (grown-reads c.args.heap.now c.filled.new.heap c.is_sound.ensures c.in_ok-r.ensures.grows c.args.t.index (valid-below c.args.heap.now c.args.t.index c.args.depth c.requires.valid))

pub returns-clause-valid : goal.returns-clause-valid
returns-clause-valid c = growth_keeps_valid c.args.heap.now c.filled.new.heap [] [] c.args.t.index c.args.depth c.is_sound.ensures c.in_ok-r.ensures.grows (valid-below c.args.heap.now c.args.t.index c.args.depth c.requires.valid) c.requires.valid

pub returns-clause-unreached : goal.returns-clause-unreached
returns-clause-unreached c = unreached-grown c.args.heap.now c.filled.new.heap c.is_sound.ensures c.in_ok-r.ensures.grows c.args.t.index (valid-below c.args.heap.now c.args.t.index c.args.depth c.requires.valid) c.args.v.index c.requires.unreached
