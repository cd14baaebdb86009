use Rattle.std.proofs.Common.{◌∙◌, []}
use Rattle.level_terms.proofs.GrowthLemmas.{grows-trans}
use Rattle.eigen_align.proofs.JointLemmas.{context-kept}
use Rattle.eigen_align.proofs.AlignedLemmas.{both-aligned}
use Rattle.eigen_align.proofs.lifting.aligned.Goals as goal

pub context_over-requires-clause-valid : goal.context_over-requires-clause-valid
context_over-requires-clause-valid c = context-kept c.args.heap.now c.over_joint.new.heap c.is_sound.ensures c.over_joint.ensures.grows c.args.s.context c.args.s.depth c.requires.sequent.1

pub returns-clause-aligned : goal.returns-clause-aligned
returns-clause-aligned c =
    both-aligned c.args.heap.now c.over_joint.new.heap c.context_over.new.heap c.args.s c.args.map.now c.args.depth c.in_ok-goal.goal c.in_ok-context.context c.is_sound.ensures c.is_sound-2.ensures c.requires.sequent
    c.over_joint.ensures.grows c.context_over.ensures.grows c.in_ok-goal.ensures.lifted c.in_ok-context.ensures.lifted

pub returns-clause-unchanged : goal.returns-clause-unchanged
returns-clause-unchanged c = λ e. c.context_over.ensures.unchanged e ∙ c.over_joint.ensures.unchanged e

pub returns-clause-grows : goal.returns-clause-grows
returns-clause-grows c = grows-trans c.args.heap.now c.over_joint.new.heap c.context_over.new.heap [] [] [] c.over_joint.ensures.grows c.context_over.ensures.grows

pub returns-in_err-context-clause-unchanged : goal.returns-in_err-context-clause-unchanged
returns-in_err-context-clause-unchanged c = λ e. c.context_over.ensures.unchanged e ∙ c.over_joint.ensures.unchanged e

pub returns-in_err-context-clause-grows : goal.returns-in_err-context-clause-grows
returns-in_err-context-clause-grows c = grows-trans c.args.heap.now c.over_joint.new.heap c.context_over.new.heap [] [] [] c.over_joint.ensures.grows c.context_over.ensures.grows
