use Rattle.std.proofs.Common.{◌∙◌, ℕ, List, ap}
use Rattle.ref_terms.specs.declared.sym.Sym.{Sym}
use Rattle.decl_trees.specs.declared.trees.PlacedName.{PlacedName}
use Rattle.lp_resolve.specs.Symbols.{number_of}
use Rattle.lp_resolve.proofs.BeginsLemmas.{symbol-later}
use Rattle.decl_read.proofs.declarations.read_name.Goals as goal

pub returns-clause-name : goal.returns-clause-name
returns-clause-name c later b =
    let made : Sym → PlacedName = λ s. record { sym = s; place = c.args.word.now.place } in
    let named : List ℕ → Sym = λ t. record { 0 = number_of later t } in
    ap made (symbol-later c.args.symbols.now c.intern.new.self c.as_slice.result.now c.in_ok-sym.sym c.in_ok-sym.ensures.interned c.in_ok-sym.ensures.number later b ∙ ap named c.as_slice.ensures)
