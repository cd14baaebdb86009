-- Instances are made part by part.
use Rattle.std.proofs.Common.{◌≡◌, ℕ, zero, suc, ◌+◌, ◌<◌, ◌≤◌, ◌++◌, List, [], ◌∷◌, length, map, take, get_or, refl, sym, ap, ap₂, ◌∙◌, subst, arith, length-append}
use Rattle.std.proofs.lemmas.List.{take_more, length-map, map-append}
use Rattle.std.proofs.lemmas.List.Elements.{All-push}
use Rattle.type_graph.specs.declared.node.Node.{Node}
use Rattle.type_graph.specs.declared.node.Node.TheVariants.{Free, Leaf, Apply}
use Rattle.type_graph.specs.declared.node.Word.{Word}
use Rattle.type_graph.specs.declared.node.Word.TheVariants as words
use Rattle.type_graph.specs.Types.{Ty, word, applied}
use Rattle.type_graph.specs.Graph.{Solves, node_at}
use Rattle.type_graph.specs.Solved.{Below, Adds}
use Rattle.type_terms.specs.declared.scheme.Scheme.{Scheme, fold-roll-Scheme}
use Rattle.type_terms.specs.declared.scheme.Scheme.TheVariants as scheme
use Rattle.type_terms.specs.declared.scheme.Scheme.TheVariants.{rolls-Variable, rolls-Leaf, rolls-Apply}
use Rattle.type_terms.specs.declared.scheme.Scheme.TheOpen.{Scheme-F}
use Rattle.type_terms.specs.declared.scheme.Polytype.{Polytype}
use Rattle.type_terms.specs.Schemes.{instance, instance_at, type_at, IsInstanceOf}
use Rattle.type_terms.specs.Nodes.{Reads}
use Rattle.type_terms.specs.Read.{AreNodes}
use Rattle.type_terms.specs.FreeNodes.{Frees}
use Rattle.type_terms.specs.inside.Instances.{IsOver}
use Rattle.type_terms.proofs.Composing.{below-trans}
use Rattle.type_terms.proofs.Scopes.{map-below}
use Rattle.type_terms.proofs.Readings.{nodes-more}

-- the forms of instances
pub of-variable : (f : ℕ → Ty) (i : ℕ) → instance f (scheme.Variable i) ≡ f i
of-variable f i = ap (instance f) (sym (rolls-Variable i)) ∙ fold-roll-Scheme Ty (instance_at f) (Scheme-F.Variable i)

pub of-leaf : (f : ℕ → Ty) (w : Word) → instance f (scheme.Leaf w) ≡ word w
of-leaf f w = ap (instance f) (sym (rolls-Leaf w)) ∙ fold-roll-Scheme Ty (instance_at f) (Scheme-F.Leaf w)

pub of-apply : (f : ℕ → Ty) (a b : Scheme) → instance f (scheme.Apply a b) ≡ applied (instance f a) (instance f b)
of-apply f a b = ap (instance f) (sym (rolls-Apply a b)) ∙ fold-roll-Scheme Ty (instance_at f) (Scheme-F.Apply a b)

-- a determined type
pub same-type : (ns ns' : List Node) (F G : (ℕ → Ty) → Ty) (n : ℕ) → ((v : ℕ → Ty) → F v ≡ G v) → Reads ns ns' (λ v t. t ≡ F v) n → Reads ns ns' (λ v t. t ≡ G v) n
same-type ns ns' F G n e r = record { longer = r.longer; place = r.place; back = r.back; sound = λ v s. r.sound v s ∙ e v; complete = λ v t s h. r.complete v t s (h ∙ sym (e v)) }

over-local : (ns : List Node) (nodes : List ℕ) (s : Scheme) (v w : ℕ → Ty) → AreNodes ns nodes → Below (length ns) v w → instance (type_at (map w nodes)) s ≡ instance (type_at (map v nodes)) s
over-local ns nodes s v w a b = ap (λ (ts : List Ty). instance (type_at ts) s) (map-below (length ns) nodes v w a b)

-- an application
pub built : (ns ms ls ns' : List Node) (nodes : List ℕ) (a b u : Scheme) (x y n : ℕ) → AreNodes ns nodes → u ≡ scheme.Apply a b → Reads ns ms (IsOver nodes a) x → Reads ms ls (IsOver nodes b) y → Adds ls (Apply x y) n ns' → Reads ns ns' (IsOver nodes u) n
built ns ms ls ns' nodes a b u x y n is e ra rb z = record {
  longer = omega (arith, ra.longer, rb.longer, z.longer);
  place = omega (arith, z.longer, z.place);
  back = λ v s. ra.back v (rb.back v (z.back v s).0);
  sound = λ v s.
      let p = z.back v s in
      let q = rb.back v p.0 in
      p.1 ∙ ap₂ applied (ra.sound v q) (rb.sound v p.0) ∙ sym (form v);
  complete = λ v t s h.
      let p = ra.complete v (instance (type_at (map v nodes)) a) s refl in
      let q = rb.complete p.0 (instance (type_at (map v nodes)) b) p.1 (sym (over-local ns nodes b v p.0 is p.2)) in
      let r = z.on q.0 t q.1 (h ∙ form v ∙ ap₂ applied (sym (q.2 x ra.place ∙ p.3)) (sym q.3)) in
      (r.0, r.1, below-trans (length ns) (length ls) v q.0 r.0 (omega (arith, ra.longer, rb.longer)) (below-trans (length ns) (length ms) v p.0 q.0 ra.longer p.2 q.2) r.2, r.3);
}
  where
    form : (v : ℕ → Ty) → instance (type_at (map v nodes)) u ≡ applied (instance (type_at (map v nodes)) a) (instance (type_at (map v nodes)) b)
    form v = ap (instance (type_at (map v nodes))) e ∙ of-apply (type_at (map v nodes)) a b

-- a variable
pub variable-there : (ns : List Node) (nodes : List ℕ) (i : ℕ) (u : Scheme) (n : ℕ) → AreNodes ns nodes → u ≡ scheme.Variable i → i < length nodes → n ≡ get_or nodes i n → Reads ns ns (IsOver nodes u) n
variable-there ns nodes i u n is e h at = record {
  longer = omega arith;
  place = (let l : get_or nodes i n < length ns = is i n h in omega (arith, at, l));
  back = λ v s. s;
  sound = λ v s. sym (form v);
  complete = λ v t s g. (v, s, (λ k l. refl), sym (g ∙ form v));
}
  where
    mapped : (ks : List ℕ) (i d : ℕ) (v : ℕ → Ty) → i < length ks → type_at (map v ks) i ≡ v (get_or ks i d)
    mapped [] i d v h = absurd (omega (arith, h))
    mapped (k ∷ ks) zero d v h = refl
    mapped (k ∷ ks) (suc i) d v h = mapped ks i d v (omega (arith, h))

    form : (v : ℕ → Ty) → instance (type_at (map v nodes)) u ≡ v n
    form v = ap (instance (type_at (map v nodes))) e ∙ of-variable (type_at (map v nodes)) i ∙ mapped nodes i n v h ∙ ap v (sym at)

pub variable-past : (ns ns' : List Node) (nodes : List ℕ) (i : ℕ) (u : Scheme) (n : ℕ) → u ≡ scheme.Variable i → length nodes ≤ i → Adds ns (Leaf words.Int) n ns' → Reads ns ns' (IsOver nodes u) n
variable-past ns ns' nodes i u n e h x = record {
  longer = omega (arith, x.longer);
  place = omega (arith, x.longer, x.place);
  back = λ v s. (x.back v s).0;
  sound = λ v s. (x.back v s).1 ∙ sym (form v);
  complete = λ v t s g. x.on v t s (g ∙ form v);
}
  where
    past : (ts : List Ty) (i : ℕ) → length ts ≤ i → type_at ts i ≡ word words.Int
    past [] i h = refl
    past (t ∷ ts) zero h = absurd (omega (arith, h))
    past (t ∷ ts) (suc i) h = past ts i (omega (arith, h))

    form : (v : ℕ → Ty) → instance (type_at (map v nodes)) u ≡ word words.Int
    form v = ap (instance (type_at (map v nodes))) e ∙ of-variable (type_at (map v nodes)) i ∙ past (map v nodes) i (omega (arith, h, length-map nodes v))

-- a word
pub leaf-there : (ns ns' : List Node) (nodes : List ℕ) (w : Word) (u : Scheme) (n : ℕ) → u ≡ scheme.Leaf w → Adds ns (Leaf w) n ns' → Reads ns ns' (IsOver nodes u) n
leaf-there ns ns' nodes w u n e x = record {
  longer = omega (arith, x.longer);
  place = omega (arith, x.longer, x.place);
  back = λ v s. (x.back v s).0;
  sound = λ v s. (x.back v s).1 ∙ sym (form v);
  complete = λ v t s g. x.on v t s (g ∙ form v);
}
  where
    form : (v : ℕ → Ty) → instance (type_at (map v nodes)) u ≡ word w
    form v = ap (instance (type_at (map v nodes))) e ∙ of-leaf (type_at (map v nodes)) w

-- new nodes, one by one: after i of them, the first i types are met
pub record Freed (ns : List Node) (i : ℕ) (nodes : List ℕ) (ms : List Node) : Type 0 where
  pub longer : length ns ≤ length ms
  pub each : length nodes ≡ i
  pub nodes_in : AreNodes ms nodes
  pub back : (v : ℕ → Ty) → Solves (node_at ms) v → Solves (node_at ns) v
  pub on : (v : ℕ → Ty) (ts : List Ty) → Solves (node_at ns) v → i ≤ length ts → (w : ℕ → Ty) × Solves (node_at ms) w × Below (length ns) v w × (map w nodes ≡ take i ts)

pub freed-first : (ns : List Node) (nodes : List ℕ) → nodes ≡ [] → Freed ns 0 nodes ns
freed-first ns nodes e = record {
  longer = omega arith;
  each = ap length e;
  nodes_in = λ k d h. absurd (omega (arith, h, ap length e));
  back = λ v s. s;
  on = λ v ts s h. (v, s, (λ k l. refl), ap (map v) e);
}

pub freed-next : (ns ms ms' : List Node) (i : ℕ) (nodes nodes' : List ℕ) (n : ℕ) → Freed ns i nodes ms → Adds ms Free n ms' → nodes' ≡ nodes ++ n ∷ [] → Freed ns (i + 1) nodes' ms'
freed-next ns ms ms' i nodes nodes' n f x e = record {
  longer = omega (arith, f.longer, x.longer);
  each = omega (arith, ap length e, length-append nodes (n ∷ []), f.each);
  nodes_in = subst (AreNodes ms') (sym e) (All-push (λ k. k < length ms') nodes n (nodes-more ms ms' nodes (omega (arith, x.longer)) f.nodes_in) (omega (arith, x.longer, x.place)));
  back = λ v s. f.back v (x.back v s).0;
  on = λ v ts s h.
      let t = type_at ts i in
      let p = f.on v ts s (omega (arith, h)) in
      let q = x.on p.0 t p.1 tt in (
        q.0,
        q.1,
        below-trans (length ns) (length ms) v p.0 q.0 f.longer p.2 q.2,
        ap (map q.0) e ∙ map-append q.0 nodes (n ∷ []) ∙ ap₂ (λ (xs ys : List Ty). xs ++ ys) (map-below (length ms) nodes p.0 q.0 f.nodes_in q.2 ∙ p.3) (ap (λ y. y ∷ []) q.3)
            ∙ sym (take_more ts i (word words.Int) (omega (arith, h))),
      );
}

take-all : (ts : List Ty) (n : ℕ) → length ts ≡ n → take n ts ≡ ts
take-all ts n e = ap (λ k. take k ts) (sym e) ∙ go ts
  where
    go : (ts : List Ty) → take (length ts) ts ≡ ts
    go [] = refl
    go (t ∷ ts) = ap (λ us. t ∷ us) (go ts)

pub freed-all : (ns ms : List Node) (count : ℕ) (nodes : List ℕ) → Freed ns count nodes ms → Frees ns count nodes ms
freed-all ns ms count nodes f = record {
  longer = f.longer;
  each = f.each;
  nodes_in = f.nodes_in;
  back = f.back;
  on = λ v ts s h. let p = f.on v ts s (omega (arith, h)) in (p.0, p.1, p.2, p.3 ∙ take-all ts count h);
}

-- an occurrence
pub instanced : (ns ms ns' : List Node) (p : Polytype) (nodes : List ℕ) (n : ℕ) → Frees ns p.variables nodes ms → Reads ms ns' (IsOver nodes p.scheme) n → Reads ns ns' (λ v t. IsInstanceOf p t) n
instanced ns ms ns' p nodes n f r = record {
  longer = omega (arith, f.longer, r.longer);
  place = r.place;
  back = λ v s. f.back v (r.back v s);
  sound = λ v s. record { types = map v nodes; each = length-map nodes v ∙ f.each; is = r.sound v s };
  complete = λ v t s i.
      let a = f.on v i.types s i.each in
      let b = r.complete a.0 t a.1 (i.is ∙ ap (λ (ts : List Ty). instance (type_at ts) p.scheme) (sym a.3)) in
      (b.0, b.1, below-trans (length ns) (length ms) v a.0 b.0 f.longer a.2 b.2, b.3);
}

pub any : (xs : List ℕ) (i d e : ℕ) → i < length xs → get_or xs i d ≡ get_or xs i e
any [] i d e h = absurd (omega (arith, h))
any (x ∷ xs) zero d e h = refl
any (x ∷ xs) (suc i) d e h = any xs i d e (omega (arith, h))
