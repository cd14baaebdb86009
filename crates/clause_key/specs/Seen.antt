-- What a look at a few nodes tells of keys.
use Rattle.std.specs.Prelude.{◌≡◌, false, Bool, List}
use Rattle.level_terms.specs.declared.node.Node.{Node}
use Rattle.level_terms.specs.declared.node.Node.TheVariants as node
use Rattle.ref_terms.specs.terms.Term.{Term}
use Rattle.clause_key.specs.declared.key.Key.{Key}
use Rattle.clause_key.specs.declared.key.Key.TheVariants.{Any, Con, Int, Str, Level}
use Rattle.clause_key.specs.Keys.{fits_every, key_of, key_among}

-- the key of a node that is a rigid head by itself
abbrev pub node_key : Node → Key
node_key (node.Con c) = Con c
node_key (node.Int n) = Int n
node_key (node.Str s) = Str s
node_key (node.Level l) = Level l
node_key (node.Lam d b) = Any
node_key (node.App h ts) = Any
node_key (node.Var v) = Any

-- a look tells nothing of a term's key, or that it is this one
abbrev pub IsSeen : Key → Term → Type 0
IsSeen key u = fits_every key ≡ false → key_of u ≡ key

-- the same of the key among arguments
abbrev pub IsSeenAmong : Key → (inputs : List Bool) → List Term → Type 0
IsSeenAmong key inputs ts = fits_every key ≡ false → key_among inputs ts ≡ key
