use Rattle.std.proofs.Common.{◌+◌, ◌∙◌, sym, ap}
use Rattle.level_terms.proofs.ReadLemmas.{valid-below}
use Rattle.clause_key.specs.Keys.{agree}
use Rattle.search_moves.proofs.PassLemmas.{passed-over, not-held}
use Rattle.search_moves.proofs.machine.Machine.passes_over.Goals as goal

pub seen_among-seen-requires : goal.seen_among-seen-requires
seen_among-seen-requires c = valid-below c.args.self.now.world.heap c.args.hyp.now.head.index (c.args.hyp.now.depth + c.args.hyp.now.pis) c.requires.valid.head

pub returns : goal.returns
returns c = λ yes modes inputs.
    passed-over c.law_disagreeing_assumption_clashes.ensures c.args.self.now c.args.call.now c.args.hyp.now c.args.key c.seen_among-seen.result c.requires.call c.requires.key c.requires.usable c.seen_among-seen.ensures
    (ap (agree c.args.key) (sym c.fixed_key.ensures) ∙ sym c.agree.ensures ∙ not-held c.agree.result yes) modes inputs
