use Rattle.level_terms.proofs.GainLemmas.{gains-trans}
use Rattle.sequent_rules.proofs.bodies.clauses_of.Goals as goal

pub returns-in-Some-clause-gains : goal.returns-in-Some-clause-gains
returns-in-Some-clause-gains c = gains-trans c.args.heap.now c.items.new.heap c.clauses_of_items.new.heap c.items.ensures.gains c.clauses_of_items.ensures.gains
