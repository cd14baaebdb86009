use Rattle.std.proofs.Common.{◌≤◌, ◌-◌, ◌≡◌}
use Rattle.ref_terms.specs.search.Program.{Program}
use Rattle.ref_terms.specs.search.Strip.{IsCounted}
use Rattle.goal_run.specs.Machine.{Runs, state_of}
use Rattle.elpi_cli.specs.Written.{Progress}
use Rattle.elpi_cli.specs.inside.Searching.{written_by}
use Rattle.elpi_cli.proofs.search.answer_query.Given as goal

-- the machine runs what it ran, and what was written so far, and what the moves that are left write, is what all of them write;
-- barriers are numbers of alternatives that are there
abbrev pub invariant-loop-made : goal.invariant-loop-made
invariant-loop-made g l = (l.count ≤ l.made) × (l.machine.variables ≡ l.fn.machine.variables)
    × ((p : Program) → Runs l.fn.machine p → Runs l.machine p)
    × ((p : Program) → Runs l.fn.machine p → p.symbols ≡ l.symbols → IsCounted (state_of p l.fn.machine) → Progress g.K.Sink.told g.K.Sink.faults g.K.Sink.stopped l.fn.sink l.sink
    (written_by l.symbols p l.machine (l.steps - l.made) l.limit l.count)
    (written_by l.symbols p l.fn.machine l.steps l.limit 0))
    × ((p : Program) → Runs l.fn.machine p → p.symbols ≡ l.symbols → IsCounted (state_of p l.fn.machine) → IsCounted (state_of p l.machine))
