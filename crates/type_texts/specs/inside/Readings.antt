-- Nodes of a graph read as types with variables: a node of which nothing is known is a variable.
use Rattle.std.specs.Prelude.{◌≡◌, ℕ}
use Rattle.type_graph.specs.declared.node.Node.{Node}
use Rattle.type_graph.specs.declared.node.Node.TheVariants.{Free, Leaf, Apply, Same}
use Rattle.type_texts.specs.OpenTypes.{OpenType, open_variable, open_word, open_applied}

-- what the type t at a node k is, by what the node says
abbrev pub ReadsAs : (u : ℕ → OpenType) (k : ℕ) → OpenType → Node → Type 0
ReadsAs u k t Free = t ≡ open_variable k
ReadsAs u k t (Leaf w) = t ≡ open_word w
ReadsAs u k t (Apply l r) = t ≡ open_applied (u l) (u r)
ReadsAs u k t (Same j) = t ≡ u j

-- u gives each node its type
abbrev pub IsReading : (g : ℕ → Node) (u : ℕ → OpenType) → Type 0
IsReading g u = (k : ℕ) → ReadsAs u k (u k) (g k)
