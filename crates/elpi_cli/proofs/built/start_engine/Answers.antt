use Rattle.std.proofs.Common.{refl}
use Rattle.lp_resolve.specs.Plain.{plain_program}
use Rattle.elpi_cli.proofs.built.start_engine.Goals as goal

pub returns : goal.returns
returns c =
    let m = c.in_ok-machine.ensures in
    record { symbols = refl; runs = m.program c.args.symbols; begins = m.state (plain_program c.args.symbols c.args.checked.now); variables = m.variables }
