use Rattle.elpi_cli.specs.inside.Sources.{entries_of}
use Rattle.elpi_cli.proofs.TypingLemmas.{texts-refused, texts-broken, texts-checked}
use Rattle.elpi_cli.proofs.typing.types_of.Goals as goal

pub returns-in-Err : goal.returns-in-Err
returns-in-Err c = texts-refused (entries_of c.args.sources.now) c.in-Err.stop c.in-Err.ensures

pub returns-in-Err-check_program : goal.returns-in-Err-check_program
returns-in-Err-check_program c = texts-broken (entries_of c.args.sources.now) c.in-Ok.ast c.in-Err-check_program.stop c.in-Ok.ensures c.in-Err-check_program.ensures

pub returns : goal.returns
returns c = texts-checked (entries_of c.args.sources.now) c.in-Ok.ast c.program_types.result c.in-Ok.ensures c.in-Ok-check_program.ensures.unbroken c.program_types.ensures
