use Rattle.level_terms.proofs.ValidLemmas.{valid_deeper}
use Rattle.term_rows.proofs.builder.Builder.pop_at.Goals as goal

pub returns-clause-valid : goal.returns-clause-valid
returns-clause-valid c = valid_deeper c.pop.new.self.heap c.in_ok-item.item.node.index c.in_ok-item.item.least c.args.depth c.in_ok-item.ensures.valid c.if-item-depth.false
