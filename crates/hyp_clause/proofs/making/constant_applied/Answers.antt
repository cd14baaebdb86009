use Rattle.std.proofs.Common.{[]}
use Rattle.level_terms.proofs.GrowthLemmas.{grows-trans}
use Rattle.hyp_clause.proofs.NodeLemmas.{IsConstantApplied, applied-reads, applied-valid, made-below, constant-head, args-older}
use Rattle.hyp_clause.proofs.making.constant_applied.Goals.{After-is_sound-3}
use Rattle.level_terms.specs.declared.node.Node.TheVariants.{Con}
use Rattle.hyp_clause.proofs.making.constant_applied.Goals as goal

made : (c : After-is_sound-3) → IsConstantApplied c.args.heap.now c.con.new.self c.app.new.self c.args.c c.in_ok-head.head c.in_ok-r.r c.args.args.now c.args.depth
made c = record {
  sound = c.is_sound.ensures;
  sound_one = c.is_sound-2.ensures;
  sound_new = c.is_sound-3.ensures;
  head_at = c.in_ok-head.ensures.ok.0;
  one_is = c.in_ok-head.ensures.ok.1;
  at = c.in_ok-r.ensures.ok.0;
  new_is = c.in_ok-r.ensures.ok.1;
  args_valid = c.requires.args;
}

pub app-requires-clause-head : goal.app-requires-clause-head
app-requires-clause-head c = made-below c.args.heap.now c.con.new.self (Con c.args.c) c.in_ok-head.head.index c.in_ok-head.ensures.ok.0 c.in_ok-head.ensures.ok.1

pub app-requires-clause-no_application : goal.app-requires-clause-no_application
app-requires-clause-no_application c = constant-head c.args.heap.now c.con.new.self c.args.c c.in_ok-head.head.index c.in_ok-head.ensures.ok.0 c.in_ok-head.ensures.ok.1

pub app-requires-clause-args : goal.app-requires-clause-args
app-requires-clause-args c = args-older c.args.heap.now c.con.new.self (Con c.args.c) c.args.depth c.args.args.now c.in_ok-head.ensures.ok.1 c.requires.args

pub returns-clause-reads : goal.returns-clause-reads
returns-clause-reads c = applied-reads c.args.heap.now c.con.new.self c.app.new.self c.args.c c.in_ok-head.head c.in_ok-r.r c.args.args.now c.args.depth (made c)

pub returns-clause-valid : goal.returns-clause-valid
returns-clause-valid c = applied-valid c.args.heap.now c.con.new.self c.app.new.self c.args.c c.in_ok-head.head c.in_ok-r.r c.args.args.now c.args.depth (made c)

pub returns-clause-grows : goal.returns-clause-grows
returns-clause-grows c = grows-trans c.args.heap.now c.con.new.self c.app.new.self [] [] [] c.con.ensures.grows c.app.ensures.grows

pub returns-in_err-r-clause-grows : goal.returns-in_err-r-clause-grows
returns-in_err-r-clause-grows c = grows-trans c.args.heap.now c.con.new.self c.app.new.self [] [] [] c.con.ensures.grows c.app.ensures.grows
