use Rattle.std.proofs.Common.{◌<◌, length, sym, ap, ◌∙◌, arith}
use Rattle.std.proofs.lemmas.List.{get_or-map, length-map}
use Rattle.elpi_cli.specs.Static.{no_file}
use Rattle.elpi_cli.specs.inside.Sources.{entry_of, entries_of}
use Rattle.elpi_cli.proofs.ReadTexts.{stands-next, stands-refused}
use Rattle.elpi_cli.proofs.texts.read_program.Goals as goal

pub returns-in-Err : goal.returns-in-Err
returns-in-Err c =
    let source = c.index-sources-number.result in
    let less : c.loop-number.number < length c.args.sources.now = omega (arith, c.loop-number-test.true) in
    stands-refused (entries_of c.args.sources.now) c.loop-number.number (entry_of source) c.in-Err.stop c.loop-number.ast
    (rw (length-map c.args.sources.now entry_of) less)
    (get_or-map entry_of c.args.sources.now c.loop-number.number source no_file less ∙ ap entry_of (sym c.index-sources-number.is))
    (rw (← c.as_str.ensures.value, ← c.as_slice-text.ensures) c.in-Err.ensures) c.loop-number.invariant

pub loop-number-preserved : goal.loop-number-preserved
loop-number-preserved c =
    let source = c.index-sources-number.result in
    let less : c.loop-number.number < length c.args.sources.now = omega (arith, c.loop-number-test.true) in
    stands-next (entries_of c.args.sources.now) c.loop-number.number (entry_of source) c.in-Ok.items c.loop-number.ast c.append.new.self
    (rw (length-map c.args.sources.now entry_of) less)
    (get_or-map entry_of c.args.sources.now c.loop-number.number source no_file less ∙ ap entry_of (sym c.index-sources-number.is))
    (rw (← c.as_str.ensures.value, ← c.as_slice-text.ensures) c.in-Ok.ensures) c.in_ok-append-in-Ok.ensures.ok c.loop-number.invariant
