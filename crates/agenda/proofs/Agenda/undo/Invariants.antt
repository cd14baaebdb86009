use Rattle.std.proofs.Common.{◌≡◌, ◌≤◌, ◌-◌, length}
use Rattle.agenda.specs.Log.{oldest}
use Rattle.agenda.proofs.Agenda.undo.Given as goal

abbrev pub invariant-loop-m : goal.invariant-loop-m
invariant-loop-m l =
    (l.m.changes ≤ length l.self.log)
    × (oldest l.m.changes l.self.log ≡ oldest l.m.changes l.initial.self.log)
    × (l.self.rules ≡ l.initial.self.rules)

abbrev pub decreases-loop-m : goal.decreases-loop-m
decreases-loop-m l = length l.self.log - l.m.changes
