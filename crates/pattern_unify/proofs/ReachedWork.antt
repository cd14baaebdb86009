-- Whether a variable is reached from a node, by the nodes that are reached at once.
use Rattle.std.proofs.Common.{◌≡◌, ℕ, ◌<◌, ◌+◌, List, [], ◌∷◌, ◌++◌, length, map, nat_eq, false, Option, Some, None, refl, sym, ap, ◌∙◌, subst, arith}
use Rattle.level_terms.specs.declared.node.Node.{Node}
use Rattle.level_terms.specs.declared.node.Node.TheVariants.{Con, Int, Str, Level, Lam, App, Var}
use Rattle.level_terms.specs.declared.node.TermId.{TermId}
use Rattle.level_terms.specs.declared.node.VarId.{VarId}
use Rattle.level_terms.specs.Graph.{Graph, node_at, value_in}
use Rattle.level_terms.specs.Reached.{tree, tree_size, IsUnreached}
use Rattle.level_terms.specs.Sound.{IsSound, AllOlder}
use Rattle.level_terms.proofs.GroundLemmas.{ground_normal-unreached}
use Rattle.level_terms.proofs.NodeLemmas.{value-valid}
use Rattle.level_terms.proofs.TreeLemmas.{value_below}
use Rattle.level_terms.specs.Values.{value_of, AllMiss}
use Rattle.level_terms.proofs.MakeLemmas.{parts-there, older-append, older-front}
use Rattle.level_terms.proofs.ReachLemmas.{leaf-misses, lam-misses, app-misses, var-misses, value-misses}
use Rattle.level_terms.proofs.ReadLemmas.{valid-below}
use Rattle.beta_fragment.proofs.WorkLemmas.{size-some, total, app-size, lam-size}
use Rattle.pattern_unify.specs.inside.Reaching.{value_node, next_nodes, IsLeft, bare, with_next, AllUnreached}

all-miss : (g : Graph) (v : ℕ) (ts : List TermId) → AllUnreached g v ts → AllMiss v (map (value_of g) ts)
all-miss g v [] w = tt
all-miss g v (t ∷ ts) w = (w.0, all-miss g v ts w.1)

-- from a variable is reached what is from its value
var-unreached : (g : Graph) (v t : ℕ) (w : VarId) (o : Option ℕ) → IsSound g → node_at g.nodes t ≡ Some (Var w) → value_in g.assigned w.index ≡ o → nat_eq v w.index ≡ false → AllUnreached g v (value_node o) → IsUnreached g v t
var-unreached g v t w None s e value other all = var-misses g t w v s e value other
var-unreached g v t w (Some u) s e value other all = value-misses g t w u v s e value all.0

-- a variable that isn't the node's own, and is reached from no node after it, isn't reached from it
pub next-unreached : (g : Graph) (v t : ℕ) (n : Node) → IsSound g → node_at g.nodes t ≡ Some n → ((w : VarId) → node_at g.nodes t ≡ Some (Var w) → nat_eq v w.index ≡ false) → AllUnreached g v (next_nodes g n) → IsUnreached g v t
next-unreached g v t (Con c) s e other all = leaf-misses g t (Con c) v s e refl
next-unreached g v t (Int c) s e other all = leaf-misses g t (Int c) v s e refl
next-unreached g v t (Str c) s e other all = leaf-misses g t (Str c) v s e refl
next-unreached g v t (Level c) s e other all = leaf-misses g t (Level c) v s e refl
next-unreached g v t (Lam d b) s e other all = lam-misses g t d b v s e all.0
next-unreached g v t (App k ts) s e other all = app-misses g t k ts v s e all.0 (all-miss g v ts all.1)
next-unreached g v t (Var w) s e other all = var-unreached g v t w (value_in g.assigned w.index) s e refl (other w e) all

-- the nodes after it are there
value-there : (g : Graph) (v : ℕ) (o : Option ℕ) → IsSound g → value_in g.assigned v ≡ o → AllOlder (length g.nodes) (value_node o)
value-there g v None s e = tt
value-there g v (Some u) s e = (valid-below g u _ (value-valid g.nodes g.depths g.assigned s.valid v u e), tt)

next-there : (g : Graph) (t : ℕ) (n : Node) → IsSound g → node_at g.nodes t ≡ Some n → AllOlder (length g.nodes) (next_nodes g n)
next-there g t (Con c) s e = tt
next-there g t (Int c) s e = tt
next-there g t (Str c) s e = tt
next-there g t (Level c) s e = tt
next-there g t (Lam d b) s e = parts-there g t (Lam d b) s e
next-there g t (App k ts) s e = parts-there g t (App k ts) s e
next-there g t (Var w) s e = value-there g w.index (value_in g.assigned w.index) s refl

-- and smaller
value-smaller : (g : Graph) (t : ℕ) (w : VarId) (o : Option ℕ) → IsSound g → node_at g.nodes t ≡ Some (Var w) → value_in g.assigned w.index ≡ o → total g (value_node o) < tree_size (tree g t)
value-smaller g t w None s e value = let h = size-some (tree g t) in omega (arith, h)
value-smaller g t w (Some u) s e value = let h = value_below g s t w.index u w refl e value in omega (arith, h)

next-smaller : (g : Graph) (t : ℕ) (n : Node) → IsSound g → node_at g.nodes t ≡ Some n → total g (next_nodes g n) < tree_size (tree g t)
next-smaller g t (Con c) s e = let h = size-some (tree g t) in omega (arith, h)
next-smaller g t (Int c) s e = let h = size-some (tree g t) in omega (arith, h)
next-smaller g t (Str c) s e = let h = size-some (tree g t) in omega (arith, h)
next-smaller g t (Level c) s e = let h = size-some (tree g t) in omega (arith, h)
next-smaller g t (Lam d b) s e = let h = lam-size g t d b s e in omega (arith, h)
next-smaller g t (App k ts) s e = app-size g t k ts s e
next-smaller g t (Var w) s e = value-smaller g t w (value_in g.assigned w.index) s e refl

-- lists of nodes
total-append : (g : Graph) (xs ys : List TermId) → total g (xs ++ ys) ≡ total g xs + total g ys
total-append g [] ys = omega arith
total-append g (x ∷ xs) ys = let h = total-append g xs ys in omega (arith, h)

unreached-append : (g : Graph) (v : ℕ) (xs ys : List TermId) → AllUnreached g v xs → AllUnreached g v ys → AllUnreached g v (xs ++ ys)
unreached-append g v [] ys a b = b
unreached-append g v (x ∷ xs) ys a b = (a.0, unreached-append g v xs ys a.1 b)

unreached-front : (g : Graph) (v : ℕ) (xs ys : List TermId) → AllUnreached g v (xs ++ ys) → AllUnreached g v xs
unreached-front g v [] ys a = tt
unreached-front g v (x ∷ xs) ys a = (a.0, unreached-front g v xs ys a.1)

unreached-back : (g : Graph) (v : ℕ) (xs ys : List TermId) → AllUnreached g v (xs ++ ys) → AllUnreached g v ys
unreached-back g v [] ys a = a
unreached-back g v (x ∷ xs) ys a = unreached-back g v xs ys a.1

-- one turn, at a node before the work that is left
module _ (g : Graph) (sound : IsSound g) (v : ℕ) (rest : List TermId) (t : TermId) (later : List TermId) where
  pub turn-unreached : IsLeft g t.index rest later → ((w : VarId) → node_at g.nodes t.index ≡ Some (Var w) → nat_eq v w.index ≡ false) → AllUnreached g v later → AllUnreached g v (rest ++ t ∷ [])
  turn-unreached (bare ground e) other all = unreached-append g v rest (t ∷ []) (subst (AllUnreached g v) e all) (ground_normal-unreached g t.index v ground, tt)
  turn-unreached (with_next next) other all =
      let both = subst (AllUnreached g v) next.pushed all in
      unreached-append g v rest (t ∷ []) (unreached-front g v rest (next_nodes g next.node) both) (next-unreached g v t.index next.node sound next.here other (unreached-back g v rest (next_nodes g next.node) both), tt)

  pub turn-there : IsLeft g t.index rest later → AllOlder (length g.nodes) (rest ++ t ∷ []) → AllOlder (length g.nodes) later
  turn-there (bare ground e) w = subst (AllOlder (length g.nodes)) (sym e) (older-front (length g.nodes) rest (t ∷ []) w)
  turn-there (with_next next) w = subst (AllOlder (length g.nodes)) (sym next.pushed) (older-append (length g.nodes) rest (next_nodes g next.node) (older-front (length g.nodes) rest (t ∷ []) w) (next-there g t.index next.node sound next.here))

  pub turn-smaller : IsLeft g t.index rest later → total g later < total g (rest ++ t ∷ [])
  turn-smaller (bare ground e) =
      let a = ap (total g) e in
      let b = total-append g rest (t ∷ []) in
      let s = size-some (tree g t.index) in
      omega (arith, a, b, s)
  turn-smaller (with_next next) =
      let a = ap (total g) next.pushed ∙ total-append g rest (next_nodes g next.node) in
      let b = total-append g rest (t ∷ []) in
      let s = next-smaller g t.index next.node sound next.here in
      omega (arith, a, b, s)
