use Rattle.std.proofs.Common.{◌≡◌, drop, map}
use Rattle.lp_resolve.specs.Symbols.{interned_all}
use Rattle.lp_resolve.proofs.symbols.put_all.Given as goal

-- the names that are left make of the table what all make
abbrev pub invariant-loop-name : goal.invariant-loop-name
invariant-loop-name l =
    interned_all (map (λ text. text.items) l.texts.keys) (map (λ name. name.now) (drop l.name-index l.names))
    ≡ interned_all (map (λ text. text.items) l.fn.texts.keys) (map (λ name. name.now) l.names)
