use Rattle.std.proofs.Common.{◌≡◌, ◌∙◌, ap}
use Rattle.lp_resolve.specs.Symbols.{number_of}
use Rattle.lp_resolve.specs.Trees.{head_term}
use Rattle.lp_resolve.proofs.ReadingSteps.{read-word}
use Rattle.lp_resolve.proofs.read.read_word_tree.Goals as goal

pub returns-clause-read : goal.returns-clause-read
returns-clause-read c =
    let e = c.in_ok-symbol.ensures in
    let number : c.in_ok-symbol.symbol.0 ≡ number_of c.intern.new.self c.in-Word.text = e.number ∙ ap (number_of c.intern.new.self) c.as_slice.ensures in
    read-word c.intern.new.self c.args.scope.now c.args.variables.now c.read_word.new.variables c.args.term.now c.in-Word.kind c.in-Word.text c.in-Word.place c.in_ok-symbol.symbol.0
    (head_term c.in_ok-head.head) c.atom.result c.in-Word.is number e.within c.in_ok-head.ensures.read c.atom.ensures.term c.atom.ensures.fits
