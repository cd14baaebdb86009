use Rattle.std.proofs.Common.{ℕ, Vec, Global, map, refl}
use Rattle.lp_resolve.proofs.SymbolPlaces.{table-found, table-new}
use Rattle.decl_read.proofs.variables.put.Goals as goal

pub returns-in-Some : goal.returns-in-Some
returns-in-Some c =
    let f = λ (text : Vec ℕ Global). text.items in
    let keys = c.args.variables.now.keys in
    table-found f keys (map f keys) c.args.text.now refl c.in-Some.ensures.found

pub returns : goal.returns
returns c =
    let f = λ (text : Vec ℕ Global). text.items in
    let keys = c.args.variables.now.keys in
    table-new f keys (map f keys) c.args.text.now refl c.in_ok-text.text c.in_ok-text.ensures.items c.in_default.ensures.found c.insert.new.self.keys c.in_ok-insert.ensures.keys
