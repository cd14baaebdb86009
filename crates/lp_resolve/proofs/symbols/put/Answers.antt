use Rattle.std.proofs.Common.{ℕ, List, ◌∙◌, Vec, Global, map, refl}
use Rattle.lp_resolve.proofs.SymbolPlaces.{number-found, number-new, table-found, table-new}
use Rattle.lp_resolve.proofs.symbols.put.Goals as goal

pub returns-in-Some-clause-interned : goal.returns-in-Some-clause-interned
returns-in-Some-clause-interned c =
    let f = λ (text : Vec ℕ Global). text.items in
    let keys = c.args.texts.now.keys in
    table-found f keys (map f keys) c.args.text.now refl c.in-Some.ensures.found

pub returns-in-Some-clause-number : goal.returns-in-Some-clause-number
returns-in-Some-clause-number c =
    let f = λ (text : Vec ℕ Global). text.items in
    let keys = c.args.texts.now.keys in
    number-found f keys (map f keys) c.args.text.now refl c.in-Some.number c.in-Some.ensures.index

pub returns-clause-interned : goal.returns-clause-interned
returns-clause-interned c =
    let f = λ (text : Vec ℕ Global). text.items in
    let keys = c.args.texts.now.keys in
    table-new f keys (map f keys) c.args.text.now refl c.in_ok-text.text c.in_ok-text.ensures.items c.in_default.ensures.found c.insert.new.self.keys c.in_ok-insert.ensures.keys

pub returns-clause-number : goal.returns-clause-number
returns-clause-number c =
    let f = λ (text : Vec ℕ Global). text.items in
    let keys = c.args.texts.now.keys in
    let new = table-new f keys (map f keys) c.args.text.now refl c.in_ok-text.text c.in_ok-text.ensures.items c.in_default.ensures.found c.insert.new.self.keys c.in_ok-insert.ensures.keys in
    c.len-number.ensures.len ∙ number-new f keys (map f keys) c.args.text.now refl c.in_default.ensures.found _ new
