use Rattle.level_terms.proofs.ConstantLemmas.{constant_valid, constant_unreached}
use Rattle.term_rows.proofs.heaping.binds_within.Goals as goal

pub assign-requires-clause-valid : goal.assign-requires-clause-valid
assign-requires-clause-valid c = constant_valid c.args.heap.now c.con.new.self c.in_ok-c.c.index (record { 0 = 9 }) _ c.in_ok-c.ensures.ok.0 c.in_ok-c.ensures.ok.1

pub assign-requires-clause-unreached : goal.assign-requires-clause-unreached
assign-requires-clause-unreached c = constant_unreached c.args.heap.now c.con.new.self c.in_ok-c.c.index (record { 0 = 9 }) _ c.in_ok-c.ensures.ok.0 c.in_ok-c.ensures.ok.1
