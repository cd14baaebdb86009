use Rattle.std.proofs.Common.{[]}
use Rattle.level_terms.proofs.GrowthLemmas.{grows-trans}
use Rattle.hyp_clause.proofs.InstanceLemmas.{IsFreshVariable, fresh-reads, fresh-valid}
use Rattle.hyp_clause.proofs.instance.fresh_variable.Goals.{After-is_sound-2}
use Rattle.hyp_clause.proofs.instance.fresh_variable.Goals as goal

made : (c : After-is_sound-2) → IsFreshVariable c.args.heap.now c.fresh_var.new.self c.var.new.self c.in_ok-v.v c.in_ok-t.t c.args.depth
made c = record {
  sound = c.is_sound.ensures;
  sound_new = c.is_sound-2.ensures;
  number = c.in_ok-v.ensures.ok.0;
  made = c.in_ok-v.ensures.ok.1;
  at = c.in_ok-t.ensures.ok.0;
  node = c.in_ok-t.ensures.ok.1;
}

pub returns-clause-reads : goal.returns-clause-reads
returns-clause-reads c = fresh-reads c.args.heap.now c.fresh_var.new.self c.var.new.self c.in_ok-v.v c.in_ok-t.t c.args.depth (made c)

pub returns-clause-valid : goal.returns-clause-valid
returns-clause-valid c = fresh-valid c.args.heap.now c.fresh_var.new.self c.var.new.self c.in_ok-v.v c.in_ok-t.t c.args.depth (made c)

pub returns-clause-grows : goal.returns-clause-grows
returns-clause-grows c = grows-trans c.args.heap.now c.fresh_var.new.self c.var.new.self [] [] [] c.fresh_var.ensures.grows c.var.ensures.grows

pub returns-in_err-t-clause-grows : goal.returns-in_err-t-clause-grows
returns-in_err-t-clause-grows c = grows-trans c.args.heap.now c.fresh_var.new.self c.var.new.self [] [] [] c.fresh_var.ensures.grows c.var.ensures.grows
