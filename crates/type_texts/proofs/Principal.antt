-- Types read off the nodes of a principal typing are principal.
use Rattle.std.proofs.Common.{◌≡◌, ◌∙◌, ℕ, List, [], ◌∷◌, map, Option, refl, ap, ap₂, sym, subst}
use Rattle.std.proofs.lemmas.List.{length-map}
use Rattle.type_graph.specs.declared.node.Node.{Node}
use Rattle.type_graph.specs.declared.node.Node.TheVariants.{Free, Leaf, Apply, Same}
use Rattle.type_graph.specs.Types.{Ty}
use Rattle.type_graph.specs.Graph.{Says, Solves, IfFree, node_at}
use Rattle.type_terms.specs.declared.scheme.Polytype.{Polytype}
use Rattle.type_check.specs.declared.inferring.Typing.{Typing}
use Rattle.type_check.specs.Typings.{Item, IsTyping}
use Rattle.type_check.specs.Inferred.{IsPrincipal}
use Rattle.type_texts.specs.OpenTypes.{OpenType, instance, ArePrincipal}
use Rattle.type_texts.specs.inside.Readings.{ReadsAs, IsReading}

says : (f : ℕ → Ty) (u : ℕ → OpenType) (k : ℕ) (t : OpenType) (x : Node) → ReadsAs u k t x → Says (λ j. instance f (u j)) (instance f t) x
says f u k t Free e = tt
says f u k t (Leaf w) e = ap (instance f) e
says f u k t (Apply l r) e = ap (instance f) e
says f u k t (Same j) e = ap (instance f) e

-- the instances of a reading are solutions
pub instance-solves : (g : ℕ → Node) (u : ℕ → OpenType) (f : ℕ → Ty) → IsReading g u → Solves g (λ k. instance f (u k))
instance-solves g u f reading k = says f u k (u k) (g k) (reading k)

itself : (x : Node) (t : Ty) → IfFree x (t ≡ t)
itself Free t = refl
itself (Leaf w) t = tt
itself (Apply l r) t = tt
itself (Same j) t = tt

at-variable : (v : ℕ → Ty) (u : ℕ → OpenType) (k : ℕ) (x : Node) → ReadsAs u k (u k) x → IfFree x (instance v (u k) ≡ v k)
at-variable v u k Free e = ap (instance v) e
at-variable v u k (Leaf w) e = tt
at-variable v u k (Apply l r) e = tt
at-variable v u k (Same j) e = tt

mapped : (f : ℕ → Ty) (u : ℕ → OpenType) (ks : List ℕ) → map (λ k. instance f (u k)) ks ≡ map (instance f) (map u ks)
mapped f u [] = refl
mapped f u (k ∷ ks) = ap (λ (ts : List Ty). instance f (u k) ∷ ts) (mapped f u ks)

map-same : (v w : ℕ → Ty) (ks : List ℕ) → ((k : ℕ) → v k ≡ w k) → map v ks ≡ map w ks
map-same v w [] same = refl
map-same v w (k ∷ ks) same = ap₂ (λ (t : Ty) (ts : List Ty). t ∷ ts) (same k) (map-same v w ks same)

-- what is read is principal
pub principal-read : (declared : ℕ → Option Polytype) (count : ℕ) (items : List Item) (t : Typing) (u : ℕ → OpenType) → IsPrincipal declared count items t → IsReading (node_at t.graph) u
    → ArePrincipal declared count items (map u t.constants.items)
principal-read declared count items t u p reading = record {
  each = length-map t.constants.items u ∙ p.each;
  typings = λ f. subst (IsTyping declared count items) (mapped f u t.constants.items) (p.typings (λ k. instance f (u k)) (instance-solves (node_at t.graph) u f reading));
  instances = λ constants typing.
      let q = p.instances constants typing in
      let v = q.0 in
      let w : ℕ → Ty = λ k. instance v (u k) in
      let same : (k : ℕ) → w k ≡ v k = p.general.one v w v (instance-solves (node_at t.graph) u v reading) q.1
      (λ k. at-variable v u k (node_at t.graph k) (reading k)) (λ k. itself (node_at t.graph k) (v k)) in
      (v, sym (mapped v u t.constants.items) ∙ map-same w v t.constants.items same ∙ q.2);
}
