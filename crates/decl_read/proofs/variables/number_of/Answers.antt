use Rattle.std.proofs.Common.{ℕ, ◌∙◌, Vec, Global, map, refl}
use Rattle.lp_resolve.proofs.SymbolPlaces.{number-found, number-missing}
use Rattle.decl_read.proofs.variables.number_of.Goals as goal

pub returns-in-Some : goal.returns-in-Some
returns-in-Some c =
    let f = λ (text : Vec ℕ Global). text.items in
    let keys = c.args.variables.now.keys in
    number-found f keys (map f keys) c.args.text.now refl c.in-Some.number c.in-Some.ensures.index

pub returns-in-None : goal.returns-in-None
returns-in-None c =
    let f = λ (text : Vec ℕ Global). text.items in
    let keys = c.args.variables.now.keys in
    c.len.ensures.len ∙ number-missing f keys (map f keys) c.args.text.now refl c.in-None.ensures.found
