use Rattle.hyp_clause.proofs.NodeLemmas.{constant-reads, constant-valid}
use Rattle.hyp_clause.proofs.making.constant.Goals as goal

pub returns-clause-reads : goal.returns-clause-reads
returns-clause-reads c = constant-reads c.args.heap.now c.con.new.self c.args.c c.in_ok-r.r.index c.is_sound-2.ensures c.in_ok-r.ensures.ok.0 c.in_ok-r.ensures.ok.1

pub returns-clause-valid : goal.returns-clause-valid
returns-clause-valid c = λ depth. constant-valid c.args.heap.now c.con.new.self c.args.c c.in_ok-r.r.index depth c.is_sound-2.ensures c.in_ok-r.ensures.ok.0 c.in_ok-r.ensures.ok.1
