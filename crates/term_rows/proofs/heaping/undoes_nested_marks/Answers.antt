use Rattle.level_terms.proofs.ConstantLemmas.{constant_valid, constant_unreached}
use Rattle.term_rows.proofs.heaping.undoes_nested_marks.Goals as goal

pub assign-requires-clause-valid : goal.assign-requires-clause-valid
assign-requires-clause-valid g c = constant_valid c.fresh_var-2.new.self c.con.new.self c.in_ok-c.c.index (record { 0 = 8 }) _ c.in_ok-c.ensures.ok.0 c.in_ok-c.ensures.ok.1

pub assign-requires-clause-unreached : goal.assign-requires-clause-unreached
assign-requires-clause-unreached g c = constant_unreached c.fresh_var-2.new.self c.con.new.self c.in_ok-c.c.index (record { 0 = 8 }) _ c.in_ok-c.ensures.ok.0 c.in_ok-c.ensures.ok.1
