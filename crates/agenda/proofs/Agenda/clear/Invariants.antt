use Rattle.std.proofs.Common.{◌≡◌, length}
use Rattle.agenda.specs.Log.{pairs_of, cleared, IsLater}
use Rattle.agenda.proofs.Agenda.clear.Given as goal

abbrev pub invariant-loop : goal.invariant-loop
invariant-loop l =
    (cleared (pairs_of l.self) l.self.log ≡ cleared (pairs_of l.initial.self) l.initial.self.log)
    × IsLater l.initial.self.log l.self.log
    × (l.self.rules ≡ l.initial.self.rules)

abbrev pub decreases-loop : goal.decreases-loop
decreases-loop l = length (pairs_of l.self)
