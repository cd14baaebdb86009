-- Each graph's nodes can be read as types with variables.
use Rattle.std.proofs.Common.{◌≡◌, ℕ, zero, suc, ◌<◌, ◌≤◌, List, length, refl, ap₂, subst, sym, arith}
use Rattle.type_graph.specs.declared.node.Node.{Node}
use Rattle.type_graph.specs.declared.node.Node.TheVariants.{Free, Leaf, Apply, Same}
use Rattle.type_graph.specs.Graph.{Lowers, IsRanked, IsWithin, IsAcyclic, node_at}
use Rattle.type_texts.specs.OpenTypes.{OpenType, open_variable, open_word, open_applied}
use Rattle.type_texts.specs.inside.Readings.{ReadsAs, IsReading}
use Rattle.type_texts.proofs.Ranks.{lower, lower-most, lower-ranked}

-- the type at a node, where those to which it leads have what e says
abbrev pub layer : ℕ → (ℕ → OpenType) → Node → OpenType
layer k e Free = open_variable k
layer k e (Leaf w) = open_word w
layer k e (Apply l r) = open_applied (e l) (e r)
layer k e (Same j) = e j

-- the same, following at most so many steps
abbrev pub within : (ℕ → Node) → ℕ → ℕ → OpenType
within g zero k = open_variable k
within g (suc n) k = layer k (within g n) (g k)

layer-agree : (rank : ℕ → ℕ) (n k : ℕ) (e d : ℕ → OpenType) → ((j : ℕ) → rank j < n → e j ≡ d j) → (x : Node) → Lowers rank n x → layer k e x ≡ layer k d x
layer-agree rank n k e d h Free low = refl
layer-agree rank n k e d h (Leaf w) low = refl
layer-agree rank n k e d h (Apply l r) low = ap₂ open_applied (h l low.0) (h r low.1)
layer-agree rank n k e d h (Same j) low = h j low

-- enough steps are enough
stable : (g : ℕ → Node) (rank : ℕ → ℕ) → IsRanked g rank → (n m k : ℕ) → rank k < n → rank k < m → within g n k ≡ within g m k
stable g rank ranked zero m k hn hm = absurd (omega (arith, hn))
stable g rank ranked (suc n) zero k hn hm = absurd (omega (arith, hm))
stable g rank ranked (suc n) (suc m) k hn hm =
    layer-agree rank (rank k) k (within g n) (within g m) (λ j h. stable g rank ranked n m j (omega (arith, h, hn)) (omega (arith, h, hm))) (g k) (ranked k)

-- the type at a node of a graph
abbrev pub open_at : List Node → ℕ → OpenType
open_at ns = within (node_at ns) (suc (length ns))

reads-layer : (u : ℕ → OpenType) (k : ℕ) (x : Node) → ReadsAs u k (layer k u x) x
reads-layer u k Free = refl
reads-layer u k (Leaf w) = refl
reads-layer u k (Apply l r) = refl
reads-layer u k (Same j) = refl

-- it is a reading
pub open-reading : (ns : List Node) → IsWithin (length ns) (node_at ns) → IsAcyclic (node_at ns) → IsReading (node_at ns) (open_at ns)
open-reading ns inside acyclic k =
    let g = node_at ns in
    let n = length ns in
    let rank : ℕ → ℕ = λ j. lower acyclic.rank n (acyclic.rank j) in
    let ranked : IsRanked g rank = lower-ranked g acyclic.rank n inside acyclic.ranked in
    let most : rank k ≤ n = lower-most acyclic.rank n (acyclic.rank k) in
    let same : open_at ns k ≡ layer k (open_at ns) (g k) =
    layer-agree rank (rank k) k (within g n) (open_at ns) (λ j h. stable g rank ranked n (suc n) j (omega (arith, h, most)) (omega (arith, h, most))) (g k) (ranked k) in
    subst (λ (t : OpenType). ReadsAs (open_at ns) k t (g k)) (sym same) (reads-layer (open_at ns) k (g k))
