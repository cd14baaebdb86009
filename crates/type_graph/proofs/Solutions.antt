-- The solutions of a graph in which one node comes to stand for another one.
use Rattle.std.proofs.Common.{◌≡◌, ℕ, ◌+◌, ◌<◌, ◌++◌, List, [], ◌∷◌, length, cond, true, Some, refl, sym, ap, ap₂, ◌∙◌, subst, arith, set, length-set}
use Rattle.std.proofs.lemmas.List.{get_or-set_same, get_or-set_other}
use Rattle.std.proofs.lemmas.List.Elements.{All-push, All-pop}
use Rattle.std.proofs.lemmas.List.Sums.{sum_by-set}
use Rattle.type_graph.specs.declared.node.Word.{Word}
use Rattle.type_graph.specs.declared.node.Node.{Node}
use Rattle.type_graph.specs.declared.node.Node.TheVariants.{Free, Leaf, Apply, Same}
use Rattle.type_graph.specs.declared.node.Pair.{Pair}
use Rattle.type_graph.specs.Types.{Ty, word, applied, size}
use Rattle.type_graph.specs.Graph.{node_at, Says, Solves, IsRoot, IsGraph, IsWithin, LeadsBelow, IsAcyclic, IsDescending}
use Rattle.type_graph.specs.inside.Reach.{IsPart, IsApart}
use Rattle.type_graph.specs.Solved.{Agrees, is_root, roots, Joined}
use Rattle.type_graph.proofs.Put.{put, node_at-set, solves-put, solves-at, solves-back, descending-put, within-put}
use Rattle.type_graph.proofs.Joins.{acyclic-same, acyclic-taken}

-- the same of lists
solves-set : (ns : List Node) (v : ℕ → Ty) (i : ℕ) (x : Node) → i < length ns → Solves (node_at ns) v → Says v (v i) x → Solves (node_at (set ns i x)) v
solves-set ns v i x h s here = subst (λ g. Solves g v) (sym (node_at-set ns i x h)) (solves-put (node_at ns) v i x s here)

says-set : (ns : List Node) (v : ℕ → Ty) (i : ℕ) (x : Node) → i < length ns → Solves (node_at (set ns i x)) v → Says v (v i) x
says-set ns v i x h s = solves-at (node_at ns) v i x (subst (λ g. Solves g v) (node_at-set ns i x h) s)

solves-unset : (ns : List Node) (v : ℕ → Ty) (i : ℕ) (x : Node) → i < length ns → Solves (node_at (set ns i x)) v → Says v (v i) (node_at ns i) → Solves (node_at ns) v
solves-unset ns v i x h s here = solves-back (node_at ns) v i x (subst (λ g. Solves g v) (node_at-set ns i x h) s) here

node-same : (ns : List Node) (i : ℕ) (x : Node) → i < length ns → node_at (set ns i x) i ≡ x
node-same ns i x h = get_or-set_same ns i x Free h

node-other : (ns : List Node) (i k : ℕ) (x : Node) → (k ≡ i → ⊥) → node_at (set ns i x) k ≡ node_at ns k
node-other ns i k x d = get_or-set_other ns i k x Free d

says-at : (ns : List Node) (v : ℕ → Ty) (k : ℕ) (x : Node) → Solves (node_at ns) v → node_at ns k ≡ x → Says v (v k) x
says-at ns v k x s e = subst (Says v (v k)) e (s k)

-- pairs
pub agrees-more : (v : ℕ → Ty) (pairs : List Pair) (p : Pair) → Agrees v pairs → v p.left ≡ v p.right → Agrees v (pairs ++ p ∷ [])
agrees-more v pairs p a e = All-push (λ q. v q.left ≡ v q.right) pairs p a e

pub agrees-fewer : (v : ℕ → Ty) (pairs : List Pair) (p : Pair) → Agrees v (pairs ++ p ∷ []) → Agrees v pairs × (v p.left ≡ v p.right)
agrees-fewer v pairs p a = All-pop (λ q. v q.left ≡ v q.right) (pairs ++ p ∷ []) pairs (Some p) refl a

-- the second node points to the first
pub graph-pointed : (ns : List Node) (low high : ℕ) → IsGraph ns → low < high → high < length ns → IsApart (node_at ns) low high → IsGraph (set ns high (Same low))
graph-pointed ns low high g lt h apart =
    let e = sym (node_at-set ns high (Same low) h) in
    record {
      descending = subst IsDescending e (descending-put (node_at ns) high (Same low) g.descending lt);
      within = subst (λ n. IsWithin n (node_at (set ns high (Same low)))) (sym (length-set ns high (Same low)))
          (subst (IsWithin (length ns)) e (within-put (length ns) (node_at ns) high (Same low) g.within (omega (arith, lt, h))));
      acyclic = subst IsAcyclic e (acyclic-same (node_at ns) low high g.acyclic apart);
    }

-- and the first takes the place of the second
pub graph-taken : (ns : List Node) (low high : ℕ) → IsGraph ns → low < high → high < length ns → IsRoot (node_at ns high) → IsApart (node_at ns) high low → IsGraph (set (set ns low (node_at ns high)) high (Same low))
graph-taken ns low high g lt h root apart =
    let x = node_at ns high in
    let lin : low < length ns = omega (arith, lt, h) in
    let hin : high < length (set ns low x) = omega (arith, h, length-set ns low x) in
    let e = ap (λ (f : ℕ → Node). put f high (Same low)) (sym (node_at-set ns low x lin)) ∙ sym (node_at-set (set ns low x) high (Same low) hin) in
    record {
      descending = subst IsDescending e (descending-put (put (node_at ns) low x) high (Same low) (descending-put (node_at ns) low x g.descending (root-descends x low root)) lt);
      within = subst (λ n. IsWithin n (node_at (set (set ns low x) high (Same low)))) (sym (length-set (set ns low x) high (Same low) ∙ length-set ns low x))
          (subst (IsWithin (length ns)) e (within-put (length ns) (put (node_at ns) low x) high (Same low) (within-put (length ns) (node_at ns) low x g.within (g.within high)) lin));
      acyclic = subst IsAcyclic e (acyclic-taken (node_at ns) low high (λ q. omega (arith, q, lt)) (acyclic-same (node_at ns) high low g.acyclic apart));
    }
  where
    root-descends : (x : Node) (k : ℕ) → IsRoot x → Rattle.type_graph.specs.Graph.Descends k x
    root-descends Free k r = tt
    root-descends (Leaf w) k r = tt
    root-descends (Apply f a) k r = tt
    root-descends (Same j) k r = absurd r

-- solutions: the second node is free
pub joined-free : (ns ns' : List Node) (pairs : List Pair) (low high : ℕ) → high < length ns → node_at ns high ≡ Free → ns' ≡ set ns high (Same low) → Joined ns pairs low high ns' pairs true
joined-free ns ns' pairs low high h free e = subst (λ m. Joined ns pairs low high m pairs true) (sym e) (λ v. (
  λ s. (solves-unset ns v high (Same low) h s.0 (subst (Says v (v high)) (sym free) tt), s.1, sym (says-set ns v high (Same low) h s.0)),
  λ s. (solves-set ns v high (Same low) h s.0 (sym s.2), s.1),
))

-- the first node is free
pub joined-taken : (ns ns' : List Node) (pairs : List Pair) (low high : ℕ) → low < high → high < length ns → node_at ns low ≡ Free → ns' ≡ set (set ns low (node_at ns high)) high (Same low) → Joined ns pairs low high ns' pairs true
joined-taken ns ns' pairs low high lt h free e = subst (λ m. Joined ns pairs low high m pairs true) (sym e) (λ v. (λ s. there v s, λ s. back v s))
  where
    x : Node
    x = node_at ns high

    lin : low < length ns
    lin = omega (arith, lt, h)

    hin : high < length (set ns low x)
    hin = omega (arith, h, length-set ns low x)

    there : (v : ℕ → Ty) → Solves (node_at (set (set ns low x) high (Same low))) v × Agrees v pairs → Solves (node_at ns) v × Agrees v pairs × (v low ≡ v high)
    there v s =
        let e : v high ≡ v low = says-set (set ns low x) v high (Same low) hin s.0 in
        let at-low : Says v (v low) x = says-at (set (set ns low x) high (Same low)) v low x s.0 (node-other (set ns low x) high low (Same low) (λ q. omega (arith, q, lt)) ∙ node-same ns low x lin) in
        let one = solves-unset (set ns low x) v high (Same low) hin s.0 (subst (Says v (v high)) (sym (node-other ns low high x (λ q. omega (arith, q, lt)))) (subst (λ t. Says v t x) (sym e) at-low)) in
        (solves-unset ns v low x lin one (subst (Says v (v low)) (sym free) tt), s.1, sym e)

    back : (v : ℕ → Ty) → Solves (node_at ns) v × Agrees v pairs × (v low ≡ v high) → Solves (node_at (set (set ns low x) high (Same low))) v × Agrees v pairs
    back v s = (solves-set (set ns low x) v high (Same low) hin (solves-set ns v low x lin s.0 (subst (λ t. Says v t x) (sym s.2) (s.0 high))) (sym s.2), s.1)

-- both are words
pub joined-leaves : (ns ns' : List Node) (pairs : List Pair) (low high : ℕ) (u w : Word) → low < high → high < length ns → node_at ns low ≡ Leaf u → node_at ns high ≡ Leaf w → u ≡ w → ns' ≡ set ns high (Same low) → Joined ns pairs low high ns' pairs true
joined-leaves ns ns' pairs low high u w lt h el eh same e = subst (λ m. Joined ns pairs low high m pairs true) (sym e) (λ v. (
  λ s. (let p : v high ≡ v low = says-set ns v high (Same low) h s.0 in
      let q : v low ≡ word u = says-at (set ns high (Same low)) v low (Leaf u) s.0 (node-other ns high low (Same low) (λ q. omega (arith, q, lt)) ∙ el) in
      (solves-unset ns v high (Same low) h s.0 (subst (Says v (v high)) (sym eh) (p ∙ q ∙ ap word same)), s.1, sym p)),
  λ s. (solves-set ns v high (Same low) h s.0 (sym s.2), s.1),
))

-- both are applications
pub joined-applications : (ns ns' : List Node) (pairs pairs' : List Pair) (low high f a g b : ℕ) → low < high → high < length ns → node_at ns low ≡ Apply f a → node_at ns high ≡ Apply g b → ns' ≡ set ns high (Same low)
    → pairs' ≡ (pairs ++ record { left = f; right = g } ∷ []) ++ record { left = a; right = b } ∷ [] → Joined ns pairs low high ns' pairs' true
joined-applications ns ns' pairs pairs' low high f a g b lt h el eh e ep =
    subst (λ m. Joined ns pairs low high m pairs' true) (sym e) (subst (λ q. Joined ns pairs low high (set ns high (Same low)) q true) (sym ep) (λ v. (λ s. there v s, λ s. back v s)))
  where
    one : Pair
    one = record { left = f; right = g }

    two : Pair
    two = record { left = a; right = b }

    there : (v : ℕ → Ty) → Solves (node_at (set ns high (Same low))) v × Agrees v ((pairs ++ one ∷ []) ++ two ∷ []) → Solves (node_at ns) v × Agrees v pairs × (v low ≡ v high)
    there v s =
        let p : v high ≡ v low = says-set ns v high (Same low) h s.0 in
        let q : v low ≡ applied (v f) (v a) = says-at (set ns high (Same low)) v low (Apply f a) s.0 (node-other ns high low (Same low) (λ q. omega (arith, q, lt)) ∙ el) in
        let last = agrees-fewer v (pairs ++ one ∷ []) two s.1 in
        let first = agrees-fewer v pairs one last.0 in
        (solves-unset ns v high (Same low) h s.0 (subst (Says v (v high)) (sym eh) (p ∙ q ∙ ap₂ applied first.1 last.1)), first.0, sym p)

    back : (v : ℕ → Ty) → Solves (node_at ns) v × Agrees v pairs × (v low ≡ v high) → Solves (node_at (set ns high (Same low))) v × Agrees v ((pairs ++ one ∷ []) ++ two ∷ [])
    back v s =
        let p : v low ≡ applied (v f) (v a) = says-at ns v low (Apply f a) s.0 el in
        let q : v high ≡ applied (v g) (v b) = says-at ns v high (Apply g b) s.0 eh in
        let all : applied (v f) (v a) ≡ applied (v g) (v b) = sym p ∙ s.2 ∙ q in
        let fs : v f ≡ v g = cc in
        let as' : v a ≡ v b = cc in
        (solves-set ns v high (Same low) h s.0 (sym s.2), agrees-more v (pairs ++ one ∷ []) two (agrees-more v pairs one s.1 fs) as')

-- there is no common type
pub clash-part : (ns : List Node) (low high : ℕ) → IsPart (node_at ns) low high → (v : ℕ → Ty) → Solves (node_at ns) v → v low ≡ v high → ⊥
clash-part ns low high part v s e = omega (arith, part v s, ap size e)

pub clash-taken : (ns : List Node) (low high : ℕ) → IsPart (node_at ns) high low → (v : ℕ → Ty) → Solves (node_at ns) v → v low ≡ v high → ⊥
clash-taken ns low high part v s e = omega (arith, part v s, ap size e)

pub clash-words : (ns : List Node) (low high : ℕ) (u w : Word) → node_at ns low ≡ Leaf u → node_at ns high ≡ Leaf w → (u ≡ w → ⊥) → (v : ℕ → Ty) → Solves (node_at ns) v → v low ≡ v high → ⊥
clash-words ns low high u w el eh d v s e =
    let p : v low ≡ word u = says-at ns v low (Leaf u) s el in
    let q : v high ≡ word w = says-at ns v high (Leaf w) s eh in
    let all : word u ≡ word w = sym p ∙ e ∙ q in
    let same : u ≡ w = cc in d same

pub clash-left : (ns : List Node) (low high f a : ℕ) (w : Word) → node_at ns low ≡ Apply f a → node_at ns high ≡ Leaf w → (v : ℕ → Ty) → Solves (node_at ns) v → v low ≡ v high → ⊥
clash-left ns low high f a w el eh v s e =
    let p : v low ≡ applied (v f) (v a) = says-at ns v low (Apply f a) s el in
    let q : v high ≡ word w = says-at ns v high (Leaf w) s eh in
    let all : applied (v f) (v a) ≡ word w = sym p ∙ e ∙ q in cc

pub clash-right : (ns : List Node) (low high g b : ℕ) (u : Word) → node_at ns low ≡ Leaf u → node_at ns high ≡ Apply g b → (v : ℕ → Ty) → Solves (node_at ns) v → v low ≡ v high → ⊥
clash-right ns low high g b u el eh v s e =
    let p : v low ≡ word u = says-at ns v low (Leaf u) s el in
    let q : v high ≡ applied (v g) (v b) = says-at ns v high (Apply g b) s eh in
    let all : word u ≡ applied (v g) (v b) = sym p ∙ e ∙ q in cc

-- how many nodes stand for no other one
counted : (x : Node) → IsRoot x → cond {A = ℕ} (is_root x) 1 0 ≡ 1
counted Free r = refl
counted (Leaf w) r = refl
counted (Apply f a) r = refl
counted (Same j) r = absurd r

pub roots-pointed : (ns : List Node) (low high : ℕ) → high < length ns → IsRoot (node_at ns high) → roots (set ns high (Same low)) + 1 ≡ roots ns
roots-pointed ns low high h root =
    let m = sum_by-set (λ x. cond {A = ℕ} (is_root x) 1 0) ns high (Same low) Free h in
    omega (arith, m, counted (node_at ns high) root)

pub roots-taken : (ns : List Node) (low high : ℕ) → low < high → high < length ns → IsRoot (node_at ns low) → IsRoot (node_at ns high) → roots (set (set ns low (node_at ns high)) high (Same low)) + 1 ≡ roots ns
roots-taken ns low high lt h rl rh =
    let x = node_at ns high in
    let lin : low < length ns = omega (arith, lt, h) in
    let m = sum_by-set (λ y. cond {A = ℕ} (is_root y) 1 0) ns low x Free lin in
    let same : node_at (set ns low x) high ≡ x = node-other ns low high x (λ q. omega (arith, q, lt)) in
    let n = roots-pointed (set ns low x) low high (omega (arith, h, length-set ns low x)) (subst IsRoot (sym same) rh) in
    omega (arith, m, n, counted (node_at ns low) rl, counted x rh)
