use Rattle.hyp_context.proofs.table.Table.+with.Given as goal

abbrev pub decreases-with : goal.decreases-with
decreases-with l = l.number
