use Rattle.std.proofs.Common.{[]}
use Rattle.level_terms.proofs.GrowthLemmas.{grows-refl, grows-trans}
use Rattle.hyp_clause.proofs.InstanceLemmas.{AreFresh, fresh-none, fresh-more}
use Rattle.hyp_clause.proofs.instance.fresh_variables.Goals as goal

pub loop-made-init : goal.loop-made-init
loop-made-init c =
    let none = fresh-none c.args.heap.now c.args.depth c.new-nodes.result.items c.new-nodes.ensures.items in
    record { reads = none.reads; valid = none.valid; count = none.count; depths = none.depths; grows = grows-refl c.args.heap.now [] }

pub returns-in_err-t-clause-grows : goal.returns-in_err-t-clause-grows
returns-in_err-t-clause-grows c = grows-trans c.args.heap.now c.loop-made.heap c.fresh_variable.new.heap [] [] [] c.loop-made.invariant.grows c.fresh_variable.ensures.grows

pub returns-in_err-push-clause-grows : goal.returns-in_err-push-clause-grows
returns-in_err-push-clause-grows c = grows-trans c.args.heap.now c.loop-made.heap c.fresh_variable.new.heap [] [] [] c.loop-made.invariant.grows c.fresh_variable.ensures.grows

pub loop-made-preserved : goal.loop-made-preserved
loop-made-preserved c =
    let i = c.loop-made.invariant in
    let before : AreFresh c.args.heap.now c.loop-made.heap c.args.depth c.loop-made.nodes.items c.loop-made.made = record { reads = i.reads; valid = i.valid; count = i.count; depths = i.depths } in
    let after = fresh-more c.args.heap.now c.loop-made.heap c.fresh_variable.new.heap c.args.depth c.loop-made.nodes.items c.push.new.self.items c.loop-made.made c.in_ok-t.t c.is_sound.ensures c.fresh_variable.ensures.grows before c.in_ok-push.ensures.items c.in_ok-t.ensures.reads c.in_ok-t.ensures.valid c.in_ok-t.ensures.depths in
    record { reads = after.reads; valid = after.valid; count = after.count; depths = after.depths; grows = grows-trans c.args.heap.now c.loop-made.heap c.fresh_variable.new.heap [] [] [] i.grows c.fresh_variable.ensures.grows }
