use Rattle.search_moves.proofs.GrowLemmas.{made-clashes}
use Rattle.search_moves.proofs.RestLemmas.{leaves-refl}
use Rattle.search_moves.proofs.SolveLemmas.{growing-refl}
use Rattle.search_moves.proofs.machine.Machine.fit.Goals as goal

pub returns-then-heads-call-clause-answer : goal.returns-then-heads-call-clause-answer
returns-then-heads-call-clause-answer c = λ b. made-clashes c.args.self.now.world.heap c.args.first_fresh.index c.args.call.now.goal.now.depth c.args.call.now.inputs.now c.args.heads.now c.args.call.now.args.now b c.if-heads-call.true

pub returns-then-heads-call-clause-grows : goal.returns-then-heads-call-clause-grows
returns-then-heads-call-clause-grows c = growing-refl c.args.self.now.world.heap

pub returns-then-heads-call-clause-rest : goal.returns-then-heads-call-clause-rest
returns-then-heads-call-clause-rest c = leaves-refl c.args.self.now.world
