use Rattle.std.proofs.Common.{◌≡◌, ◌∙◌, ◌∷◌, [], ap, sym, subst, List, ℕ}
use Rattle.ref_terms.specs.declared.sym.Sym.{Sym}
use Rattle.lp_resolve.specs.Symbols.{Begins, number_of, interned}
use Rattle.lp_resolve.proofs.BeginsLemmas.{symbol-later}
use Rattle.lp_resolve.proofs.items.read_symbol.Goals as goal

pub returns-clause-symbol : goal.returns-clause-symbol
returns-clause-symbol c later b =
    symbol-later c.args.symbols.now c.intern.new.self c.args.word.now.text c.in_ok-symbol.symbol
    (c.in_ok-symbol.ensures.interned ∙ ap (interned c.args.symbols.now) c.as_slice.ensures)
    (c.in_ok-symbol.ensures.number ∙ ap (number_of c.intern.new.self) c.as_slice.ensures) later b
