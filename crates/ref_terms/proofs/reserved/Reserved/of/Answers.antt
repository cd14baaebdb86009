use Rattle.std.proofs.Common.{sym, arith}
use Rattle.std.proofs.lemmas.Option.{slice_get_past}
use Rattle.ref_terms.specs.search.Reserved.{words}
use Rattle.ref_terms.proofs.reserved.Reserved.of.Goals as goal

-- src/reserved.rt:94:5
pub returns : goal.returns
returns c = sym (slice_get_past words c.args.symbol.0 (omega (arith, c.if-symbol-lt25.false)))
