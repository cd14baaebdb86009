use Rattle.std.proofs.Common.{◌≡◌, ◌+◌, ◌≤◌, reverse, vec_len, vec_capacity}
use Rattle.agenda.specs.inside.Kept.{puts}
use Rattle.agenda.proofs.note_all.Given as goal

abbrev pub invariant-loop-rule : goal.invariant-loop-rule
invariant-loop-rule l =
    (vec_len l.log + l.rule ≤ vec_capacity l.log)
    × (puts l.rule l.number (reverse l.log.items) ≡ puts l.rules l.number (reverse l.initial.log.items))
    × (vec_capacity l.log ≡ vec_capacity l.initial.log)

abbrev pub decreases-loop-rule : goal.decreases-loop-rule
decreases-loop-rule l = l.rule
