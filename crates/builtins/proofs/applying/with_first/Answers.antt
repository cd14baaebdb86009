use Rattle.level_terms.proofs.ReadLemmas.{valid-below}
use Rattle.builtins.proofs.ApplyLemmas.{first-made}
use Rattle.builtins.proofs.applying.with_first.Goals as goal

pub app-requires-clause-head : goal.app-requires-clause-head
app-requires-clause-head c = valid-below c.args.heap.now c.args.f.index c.args.depth c.requires.function

pub app-requires-clause-args : goal.app-requires-clause-args
app-requires-clause-args c = (valid-below c.args.heap.now c.args.a.index c.args.depth c.requires.argument, tt)

pub returns-clause-reads : goal.returns-clause-reads
returns-clause-reads c = (first-made c.args.heap.now c.app.new.self c.args.f c.args.a c.in_ok-r.r c.args.depth c.is_sound.ensures c.is_sound-2.ensures c.requires.function c.requires.argument c.in_ok-r.ensures.ok.0 c.in_ok-r.ensures.ok.1).0

pub returns-clause-valid : goal.returns-clause-valid
returns-clause-valid c = (first-made c.args.heap.now c.app.new.self c.args.f c.args.a c.in_ok-r.r c.args.depth c.is_sound.ensures c.is_sound-2.ensures c.requires.function c.requires.argument c.in_ok-r.ensures.ok.0 c.in_ok-r.ensures.ok.1).1
