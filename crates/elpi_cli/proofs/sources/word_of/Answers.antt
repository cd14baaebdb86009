use Rattle.std.proofs.Common.{[], sym, ap, ◌∙◌}
use Rattle.std.proofs.lemmas.List.{get_or-map}
use Rattle.std.specs.String.{string_bytes}
use Rattle.elpi_cli.proofs.sources.word_of.Goals as goal

pub returns : goal.returns
returns c =
    sym (get_or-map string_bytes c.args.words.now c.args.index c.index-words-index.result [] c.requires ∙ ap string_bytes (sym c.index-words-index.is) ∙ sym c.as_str.ensures.value)
