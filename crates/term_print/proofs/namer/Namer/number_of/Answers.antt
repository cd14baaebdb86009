use Rattle.std.proofs.Common.{sym, ◌∙◌, ap}
use Rattle.ref_terms.specs.texts.Numbering.{place_of}
use Rattle.term_print.proofs.NumberLemmas.{place-is}
use Rattle.term_print.proofs.namer.Namer.number_of.Goals as goal

pub returns-clause-number : goal.returns-clause-number
returns-clause-number c = c.in_ok-number.ensures.index ∙ sym (place-is c.args.v.index c.self.inside.seen.keys) ∙ ap (place_of c.args.v.index) c.self.view_is
