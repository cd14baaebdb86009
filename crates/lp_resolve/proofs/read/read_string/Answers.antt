use Rattle.std.proofs.Common.{◌≡◌, ◌∙◌, ap}
use Rattle.lp_resolve.specs.Symbols.{number_of}
use Rattle.lp_resolve.proofs.ReadingSteps.{read-str}
use Rattle.lp_resolve.proofs.TreeForms.{term-str}
use Rattle.lp_resolve.proofs.read.read_string.Goals as goal

pub returns-clause-read : goal.returns-clause-read
returns-clause-read c =
    let e = c.in_ok-symbol.ensures in
    let number : c.in_ok-symbol.symbol.0 ≡ number_of c.intern.new.self c.in-Str.text = e.number ∙ ap (number_of c.intern.new.self) c.as_slice.ensures in
    read-str c.intern.new.self c.args.scope.now c.args.variables.now c.args.term.now c.in-Str.text c.in-Str.field-1 c.in_ok-symbol.symbol.0
    c.atom.result c.in-Str.is number e.within (c.atom.ensures.term ∙ term-str c.in_ok-symbol.symbol) c.atom.ensures.fits
