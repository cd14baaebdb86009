use Rattle.std.proofs.Common.{◌∙◌, sym}
use Rattle.type_texts.proofs.Places.{number-new}
use Rattle.type_texts.proofs.numbers.number_of.Goals as goal

pub returns-clause-number : goal.returns-clause-number
returns-clause-number c = c.len-number.ensures.len ∙ number-new c.args.variables.now.keys c.insert.new.self.keys c.args.variable (sym c.in_default.ensures.found) c.in_ok-insert.ensures.keys
