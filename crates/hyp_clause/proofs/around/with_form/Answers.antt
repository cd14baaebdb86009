use Rattle.std.proofs.Common.{[]}
use Rattle.level_terms.proofs.GrowthLemmas.{grows-trans}
use Rattle.hyp_clause.proofs.around.with_form.Goals as goal

pub returns-in_ok-body-in-Pi-clause-grows : goal.returns-in_ok-body-in-Pi-clause-grows
returns-in_ok-body-in-Pi-clause-grows c = grows-trans c.args.heap.now c.abstracted.new.heap c.constant_applied-in-Pi.new.heap [] [] [] c.abstracted.ensures.grows c.constant_applied-in-Pi.ensures.grows
