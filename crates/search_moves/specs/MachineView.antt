-- What a machine keeps, as contracts see it.
use Rattle.std.specs.Prelude.{reverse}
use Rattle.search_moves.specs.declared.machine.Machine.TheInside.{Inside}
use Rattle.search_moves.specs.World.{IsFine}
use Rattle.search_moves.specs.Saved.{AllSaved}
use Rattle.search_moves.specs.Machine.{Machine}

-- the machine, as contracts see it
abbrev pub machine_of : Inside → Machine
machine_of m = record { world = m.stage; first = m.first; saved = reverse m.choices; phase = m.phase }

-- the present goals are there, and so is what each alternative needs
pub record IsMachine (m : Inside) : Type 0 where
  pub fine : IsFine m.stage m.first
  pub saved : AllSaved m.stage (reverse m.choices)
