use Rattle.std.proofs.Common.{[], refl, ◌∙◌}
use Rattle.level_terms.proofs.GrowthLemmas.{grows-refl, grows-trans}
use Rattle.level_terms.proofs.ValidLemmas.{growth_keeps_valid}
use Rattle.level_terms.proofs.ReadLemmas.{valid-below}
use Rattle.term_print.proofs.ChainLemmas.{body-kept-grown}
use Rattle.term_print.proofs.chain.kept_below.Goals as goal

pub chain_length-count-requires : goal.chain_length-count-requires
chain_length-count-requires c = valid-below c.args.heap.now c.args.lam.index c.args.depth c.requires

pub loop-count-init : goal.loop-count-init
loop-count-init c = record { valid = c.requires; variables = refl; grows = grows-refl c.args.heap.now [] }

pub returns-in_err-are_kept-clause-grows : goal.returns-in_err-are_kept-clause-grows
returns-in_err-are_kept-clause-grows c = grows-trans c.args.heap.now c.loop-count.heap c.are_kept.new.heap [] [] [] c.loop-count.invariant.grows c.are_kept.ensures.grows

pub returns-then-branch-clause-kept : goal.returns-then-branch-clause-kept
returns-then-branch-clause-kept c = body-kept-grown c.loop-count.heap c.are_kept.new.heap c.is_sound-in-loop-count.ensures c.are_kept.ensures.grows c.args.lam c.args.depth c.loop-count.count c.loop-count.invariant.valid (c.in_ok-are_kept.ensures.kept c.if-branch.true)

pub returns-then-branch-clause-grows : goal.returns-then-branch-clause-grows
returns-then-branch-clause-grows c = grows-trans c.args.heap.now c.loop-count.heap c.are_kept.new.heap [] [] [] c.loop-count.invariant.grows c.are_kept.ensures.grows

pub loop-count-preserved : goal.loop-count-preserved
loop-count-preserved c = record {
  valid = growth_keeps_valid c.loop-count.heap c.are_kept.new.heap [] [] c.args.lam.index c.args.depth c.is_sound-in-loop-count.ensures c.are_kept.ensures.grows (valid-below c.loop-count.heap c.args.lam.index c.args.depth c.loop-count.invariant.valid) c.loop-count.invariant.valid;
  variables = c.are_kept.ensures.variables ∙ c.loop-count.invariant.variables;
  grows = grows-trans c.args.heap.now c.loop-count.heap c.are_kept.new.heap [] [] [] c.loop-count.invariant.grows c.are_kept.ensures.grows;
}
