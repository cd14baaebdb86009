use Rattle.std.proofs.Common.{◌<◌, [], length, map, sym, ◌∙◌, arith, length-append}
use Rattle.std.proofs.lemmas.List.{get_or-map, length-map}
use Rattle.elpi_cli.specs.Words.{texts}
use Rattle.elpi_cli.specs.Top.{word_at}
use Rattle.elpi_cli.proofs.Indices.{below-at}
use Rattle.elpi_cli.proofs.ReadFiles.{sources-next, sources-stopped}
use Rattle.elpi_cli.proofs.sources.read_sources.Goals as goal

pub word_of-requires : goal.word_of-requires
word_of-requires g c = below-at (length c.args.words.now) c.args.indices.now c.loop-index.index-index (omega (arith, c.loop-index-test.true)) c.requires

pub returns-in-Err-clause-read : goal.returns-in-Err-clause-read
returns-in-Err-clause-read g c =
    let name = word_at (texts c.args.words.now) in
    let less : c.loop-index.index-index < length c.args.indices.now = omega (arith, c.loop-index-test.true) in
    let within : c.loop-index.index-index < length (map name c.args.indices.now) = rw (length-map c.args.indices.now name) less in
    sources-stopped (map name c.args.indices.now) c.loop-index.index-index c.loop-index.sources c.in-Err.stop c.word_of.result.now (g.F.Files.told c.args.files.now) (g.F.Files.told c.loop-index.files) within
    (get_or-map name c.args.indices.now c.loop-index.index-index 0 [] less ∙ sym c.word_of.ensures) c.loop-index.invariant.0 c.in-Err.ensures.read c.loop-index.invariant.2

pub loop-index-preserved : goal.loop-index-preserved
loop-index-preserved g c =
    let name = word_at (texts c.args.words.now) in
    let less : c.loop-index.index-index < length c.args.indices.now = omega (arith, c.loop-index-test.true) in
    let within : c.loop-index.index-index < length (map name c.args.indices.now) = rw (length-map c.args.indices.now name) less in (
      c.read_source.ensures.told ∙ c.loop-index.invariant.0,
      omega (arith, c.loop-index.invariant.1, c.read_source.ensures.cause.later),
      rw c.in_ok-push-in-Ok.ensures.last (sources-next (map name c.args.indices.now) c.loop-index.index-index c.loop-index.sources c.in-Ok.source c.word_of.result.now (g.F.Files.told c.args.files.now) (g.F.Files.told c.loop-index.files) within
          (get_or-map name c.args.indices.now c.loop-index.index-index 0 [] less ∙ sym c.word_of.ensures) c.loop-index.invariant.0 c.in-Ok.ensures.read c.loop-index.invariant.2),
      rw (c.in_ok-push-in-Ok.ensures.last, length-append) (omega (arith, c.loop-index.invariant.3)),
    )
