use Rattle.std.proofs.Common.{subst}
use Rattle.search_moves.specs.Saved.{HasLeft}
use Rattle.search_moves.proofs.machine.Machine.take_up.Goals as goal

pub go_on-requires-clause-left : goal.go_on-requires-clause-left
go_on-requires-clause-left g c = subst (HasLeft c.args.self.now.world c.args.self.now.first) c.in-Call.is c.requires.left
