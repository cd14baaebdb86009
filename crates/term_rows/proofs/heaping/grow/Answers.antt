use Rattle.std.proofs.Common.{[]}
use Rattle.level_terms.proofs.GrowthLemmas.{grows-refl, grows-trans}
use Rattle.term_rows.proofs.heaping.grow.Goals as goal

pub loop-n-init : goal.loop-n-init
loop-n-init c = grows-refl c.args.heap.now []

pub returns-in_err-int : goal.returns-in_err-int
returns-in_err-int c =
    grows-trans c.args.heap.now c.con.new.self c.int.new.self [] [] []
    (grows-trans c.args.heap.now c.loop-n.heap c.con.new.self [] [] [] c.loop-n.invariant c.con.ensures.grows) c.int.ensures.grows

pub returns-in_err-v : goal.returns-in_err-v
returns-in_err-v c =
    grows-trans c.args.heap.now c.int.new.self c.fresh_var.new.self [] [] []
    (grows-trans c.args.heap.now c.con.new.self c.int.new.self [] [] []
    (grows-trans c.args.heap.now c.loop-n.heap c.con.new.self [] [] [] c.loop-n.invariant c.con.ensures.grows) c.int.ensures.grows) c.fresh_var.ensures.grows

pub returns-in_err-var : goal.returns-in_err-var
returns-in_err-var c =
    grows-trans c.args.heap.now c.fresh_var.new.self c.var.new.self [] [] []
    (grows-trans c.args.heap.now c.int.new.self c.fresh_var.new.self [] [] []
    (grows-trans c.args.heap.now c.con.new.self c.int.new.self [] [] []
    (grows-trans c.args.heap.now c.loop-n.heap c.con.new.self [] [] [] c.loop-n.invariant c.con.ensures.grows) c.int.ensures.grows) c.fresh_var.ensures.grows) c.var.ensures.grows

pub loop-n-preserved : goal.loop-n-preserved
loop-n-preserved c =
    grows-trans c.args.heap.now c.fresh_var.new.self c.var.new.self [] [] []
    (grows-trans c.args.heap.now c.int.new.self c.fresh_var.new.self [] [] []
    (grows-trans c.args.heap.now c.con.new.self c.int.new.self [] [] []
    (grows-trans c.args.heap.now c.loop-n.heap c.con.new.self [] [] [] c.loop-n.invariant c.con.ensures.grows) c.int.ensures.grows) c.fresh_var.ensures.grows) c.var.ensures.grows
