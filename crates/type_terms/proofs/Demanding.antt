-- Demands are met one after another.
use Rattle.std.proofs.Common.{◌≡◌, ℕ, zero, suc, ◌<◌, List, [], ◌∷◌, length, map, Bool, true, false, Some, None, slice_get, refl, sym, ap₂, ◌∙◌, subst, arith}
use Rattle.type_graph.specs.declared.node.Node.{Node}
use Rattle.type_graph.specs.declared.node.Node.TheVariants.{Leaf, Apply}
use Rattle.type_graph.specs.declared.node.Word.TheVariants as words
use Rattle.type_graph.specs.Types.{Ty, word, applied}
use Rattle.type_graph.specs.Graph.{Solves, node_at}
use Rattle.type_graph.specs.Solved.{Below, Adds, Unified}
use Rattle.type_terms.specs.Typing.{IsAt}
use Rattle.type_terms.specs.Nodes.{Reads}
use Rattle.type_terms.specs.Read.{AreNodes}
use Rattle.type_terms.specs.Demands.{Demands, IsPair}
use Rattle.type_terms.proofs.Composing.{below-trans}
use Rattle.type_terms.proofs.Scopes.{at-there, at-only}

-- a demand may be said otherwise
pub same-demand : (ns ns' : List Node) (C D : (ℕ → Ty) → Type 0) (b : Bool) → ((v : ℕ → Ty) → C v → D v) → ((v : ℕ → Ty) → D v → C v) → Demands ns ns' C b → Demands ns ns' D b
same-demand ns ns' C D true f g m = record { longer = m.longer; back = m.back; sound = λ v s. f v (m.sound v s); complete = λ v s d. m.complete v s (g v d) }
same-demand ns ns' C D false f g m = λ v s d. m v s (g v d)

-- two nodes have one type
pub unified : (ns ns' : List Node) (left right : ℕ) (b : Bool) → length ns' ≡ length ns → Unified ns left right ns' b → Demands ns ns' (λ v. v left ≡ v right) b
unified ns ns' left right true len u = record { longer = omega (arith, len); back = λ v s. ((u v).0 s).0; sound = λ v s. ((u v).0 s).1; complete = λ v s e. (v, (u v).1 (s, e), (λ k l. refl)) }
unified ns ns' left right false len u = u

-- a node has a type that another node is made for
pub equal-to : (ns ms ns' : List Node) (t : Ty) (n k : ℕ) (b : Bool) → n < length ns → Reads ns ms (λ v u. u ≡ t) k → length ns' ≡ length ms → Unified ms n k ns' b → Demands ns ns' (λ v. v n ≡ t) b
equal-to ns ms ns' t n k b h r len u = go b u
  where
    start : (v : ℕ → Ty) → Solves (node_at ns) v → v n ≡ t → (w : ℕ → Ty) × Solves (node_at ms) w × Below (length ns) v w × (w n ≡ w k)
    start v s e = let p = r.complete v t s refl in (p.0, p.1, p.2, p.2 n h ∙ e ∙ sym p.3)

    go : (b : Bool) → Unified ms n k ns' b → Demands ns ns' (λ v. v n ≡ t) b
    go true u = record {
      longer = omega (arith, r.longer, len);
      back = λ v s. r.back v ((u v).0 s).0;
      sound = λ v s. let p = (u v).0 s in p.1 ∙ r.sound v p.0;
      complete = λ v s e. let p = start v s e in (p.0, (u p.0).1 (p.1, p.3), p.2);
    }
    go false u = λ v s e. let p = start v s e in u p.0 p.1 p.3

-- what is read at a node has a type
pub read-demanded : (ns ms ns' : List Node) (J : (ℕ → Ty) → Ty → Type 0) (t : Ty) (n : ℕ) (b : Bool) → Reads ns ms J n → Demands ms ns' (λ v. v n ≡ t) b → Demands ns ns' (λ v. J v t) b
read-demanded ns ms ns' J t n true r m = record {
  longer = omega (arith, r.longer, m.longer);
  back = λ v s. r.back v (m.back v s);
  sound = λ v s. subst (J v) (m.sound v s) (r.sound v (m.back v s));
  complete = λ v s j.
      let p = r.complete v t s j in
      let q = m.complete p.0 p.1 p.3 in
      (q.0, q.1, below-trans (length ns) (length ms) v p.0 q.0 r.longer p.2 q.2);
}
read-demanded ns ms ns' J t n false r m = λ v s j. let p = r.complete v t s j in m p.0 p.1 p.3

-- the type of lists of propositions
pub list-node : (ns ms ls ns' : List Node) (a b n : ℕ) → Adds ns (Leaf words.List) a ms → Adds ms (Leaf words.Prop) b ls → Adds ls (Apply a b) n ns'
    → Reads ns ns' (λ v t. t ≡ applied (word words.List) (word words.Prop)) n
list-node ns ms ls ns' a b n x y z = record {
  longer = omega (arith, x.longer, y.longer, z.longer);
  place = omega (arith, z.longer, z.place);
  back = λ v s. (x.back v (y.back v (z.back v s).0).0).0;
  sound = λ v s. let r = z.back v s in let q = y.back v r.0 in let p = x.back v q.0 in r.1 ∙ ap₂ applied p.1 q.1;
  complete = λ v t s e.
      let p = x.on v (word words.List) s refl in
      let q = y.on p.0 (word words.Prop) p.1 refl in
      let al : a < length ms = omega (arith, x.longer, x.place) in
      let r = z.on q.0 t q.1 (e ∙ ap₂ applied (sym (q.2 a al ∙ p.3)) (sym q.3)) in
      (r.0, r.1, below-trans (length ns) (length ls) v q.0 r.0 (omega (arith, x.longer, y.longer)) (below-trans (length ns) (length ms) v p.0 q.0 (omega (arith, x.longer)) p.2 q.2) r.2, r.3);
}

-- the nodes of a list that are there
pub within-nodes : (ns : List Node) (ks : List ℕ) (i n : ℕ) → slice_get ks i ≡ Some n → AreNodes ns ks → n < length ns
within-nodes ns [] i n e a = absurd (let c : None ≡ Some n = e in cc)
within-nodes ns (k ∷ ks) zero n e a = let c : Some k ≡ Some n = e in let d : k ≡ n = cc in let h : k < length ns = a 0 0 (omega arith) in omega (arith, h, d)
within-nodes ns (k ∷ ks) (suc i) n e a = within-nodes ns ks i n e (λ j d l. a (suc j) d (omega (arith, l)))

-- a variable has a type
pub at-demanded : (ns ns' : List Node) (ks : List ℕ) (i n : ℕ) (t : Ty) (b : Bool) → slice_get ks i ≡ Some n → Demands ns ns' (λ v. v n ≡ t) b → Demands ns ns' (λ v. IsAt (map v ks) i t) b
at-demanded ns ns' ks i n t b e m =
    same-demand ns ns' (λ v. v n ≡ t) (λ v. IsAt (map v ks) i t) b (λ v h. subst (IsAt (map v ks) i) h (at-there ks i n v e)) (λ v h. sym (at-only ks i n v t e h)) m

-- both variables of a pair have one type
pub pair-demanded : (ns ns' : List Node) (ks : List ℕ) (i j n m : ℕ) (b : Bool) → slice_get ks i ≡ Some n → slice_get ks j ≡ Some m → Demands ns ns' (λ v. v n ≡ v m) b → Demands ns ns' (IsPair ks i j) b
pair-demanded ns ns' ks i j n m b e f d =
    same-demand ns ns' (λ v. v n ≡ v m) (IsPair ks i j) b (λ v h. (v n, at-there ks i n v e, subst (IsAt (map v ks) j) (sym h) (at-there ks j m v f)))
    (λ v h. sym (at-only ks i n v h.0 e h.1) ∙ at-only ks j m v h.0 f h.2) d
