use Rattle.std.proofs.Common.{◌+◌}
use Rattle.level_terms.proofs.ReadLemmas.{valid-below}
use Rattle.hyp_clause.proofs.NodeLemmas.{abstracted-reads, abstracted-valid}
use Rattle.hyp_clause.proofs.making.abstracted.Goals as goal

pub returns-clause-reads : goal.returns-clause-reads
returns-clause-reads c = abstracted-reads c.args.heap.now c.lam.new.self c.args.level c.args.body c.in_ok-r.r c.is_sound.ensures c.is_sound-2.ensures c.requires c.in_ok-r.ensures.ok.0 c.in_ok-r.ensures.ok.1

pub returns-clause-valid : goal.returns-clause-valid
returns-clause-valid c = abstracted-valid c.args.heap.now c.lam.new.self c.args.level c.args.body c.in_ok-r.r c.is_sound.ensures c.is_sound-2.ensures c.requires c.in_ok-r.ensures.ok.0 c.in_ok-r.ensures.ok.1

pub lam-requires : goal.lam-requires
lam-requires c = valid-below c.args.heap.now c.args.body.index (c.args.level + 1) c.requires
