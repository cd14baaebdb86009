use Rattle.elpi_cli.specs.inside.Sources.{entries_of}
use Rattle.elpi_cli.proofs.Checking.{broken-of, checked-of}
use Rattle.elpi_cli.proofs.static_rules.check_program.Goals as goal

pub returns-in-Err-Broken : goal.returns-in-Err-Broken
returns-in-Err-Broken c =
    broken-of (entries_of c.args.sources.now) c.args.ast.now c.args.symbols.now c.resolve_program.new.symbols c.in-Ok.program c.in-Err-Broken.rule c.in-Err-Broken.place c.refuse_rule.result
    c.requires c.in-Ok.ensures.table c.in-Ok.ensures.program (rw c.in-Err-Broken.field-0-is at c.in-Err-Broken.ensures.cause) c.refuse_rule.ensures

pub returns-in-Ok-check : goal.returns-in-Ok-check
returns-in-Ok-check c =
    checked-of c.args.ast.now c.args.symbols.now c.resolve_program.new.symbols c.in-Ok.program c.in-Ok-check.checked c.requires c.in-Ok.ensures.table c.in-Ok.ensures.program c.in-Ok-check.ensures.admitted c.in-Ok-check.ensures.unbroken
