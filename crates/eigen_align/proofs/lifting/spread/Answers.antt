use Rattle.std.proofs.Common.{[]}
use Rattle.level_terms.proofs.GrowthLemmas.{grows-trans}
use Rattle.eigen_align.proofs.JointLemmas.{sequents-kept}
use Rattle.eigen_align.proofs.AlignedLemmas.{all-from}
use Rattle.eigen_align.proofs.lifting.spread.Goals as goal

pub all_aligned-requires-clause-sequents : goal.all_aligned-requires-clause-sequents
all_aligned-requires-clause-sequents c = sequents-kept c.args.heap.now c.joint_names.new.heap c.is_sound.ensures c.joint_names.ensures.grows c.args.heads.now c.requires.sequents

pub returns-clause-aligned : goal.returns-clause-aligned
returns-clause-aligned c =
    all-from c.args.heap.now c.joint_names.new.heap c.all_aligned.new.heap c.in-Some.names.depth c.args.heads.now c.in-Some.names.maps.items c.in_ok-heads.heads.items c.is_sound.ensures c.joint_names.ensures.grows c.requires.sequents c.in_ok-heads.ensures.aligned

pub returns-clause-grows : goal.returns-clause-grows
returns-clause-grows c = grows-trans c.args.heap.now c.joint_names.new.heap c.all_aligned.new.heap [] [] [] c.joint_names.ensures.grows c.all_aligned.ensures.grows

pub returns-in_err-heads-clause-grows : goal.returns-in_err-heads-clause-grows
returns-in_err-heads-clause-grows c = grows-trans c.args.heap.now c.joint_names.new.heap c.all_aligned.new.heap [] [] [] c.joint_names.ensures.grows c.all_aligned.ensures.grows
