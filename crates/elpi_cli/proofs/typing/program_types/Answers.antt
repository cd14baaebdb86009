use Rattle.std.proofs.Common.{◌∙◌}
use Rattle.type_check.specs.declared.error.TypeError.TheVariants.{Broken}
use Rattle.type_check.specs.Inference.{IsCause}
use Rattle.type_texts.specs.TypeLines.{AreTypeLines}
use Rattle.elpi_cli.specs.inside.Sources.{entries_of}
use Rattle.elpi_cli.specs.inside.Typing.{bytes_of_lines}
use Rattle.elpi_cli.proofs.TypingLemmas.{over-read, types-broken, types-found}
use Rattle.elpi_cli.proofs.typing.program_types.Goals as goal

pub returns-in-Err-Broken : goal.returns-in-Err-Broken
returns-in-Err-Broken c =
    types-broken (entries_of c.args.sources.now) c.args.ast.now c.in-Err-Broken.rule c.in-Err-Broken.place c.refuse_types.result
    (over-read (λ table decls program. IsCause table decls program (Broken c.in-Err-Broken.rule c.in-Err-Broken.place)) c.args.ast.now c.args.symbols.now c.read_declarations.new.symbols c.as_slice.result.now c.args.program.now
    c.requires.table c.in_ok-decls.ensures.table (c.as_slice.ensures ∙ c.in_ok-decls.ensures.declarations) c.requires.program (rw c.in-Err-Broken.field-0-is at c.in-Err-Broken.ensures.cause))
    c.refuse_types.ensures

pub returns : goal.returns
returns c =
    types-found (entries_of c.args.sources.now) c.args.ast.now c.in-Ok-type_lines.lines
    (over-read (λ table decls program. AreTypeLines table decls program (bytes_of_lines c.in-Ok-type_lines.lines.items)) c.args.ast.now c.args.symbols.now c.read_declarations.new.symbols c.as_slice-in-Ok.result.now c.args.program.now
    c.requires.table c.in_ok-decls.ensures.table (c.as_slice-in-Ok.ensures ∙ c.in_ok-decls.ensures.declarations) c.requires.program c.in-Ok-type_lines.ensures)
