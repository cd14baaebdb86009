-- Nodes in which nothing can change.
use Rattle.std.proofs.Common.{◌≡◌, ℕ, zero, suc, ◌<◌, ◌≤◌, ◌-◌, Bool, true, false, not, ◌&&◌, ◌||◌, List, [], ◌∷◌, ◌++◌, map, length, drop, cond, nat_eq, Option, Some, None, IfSome, refl, sym, ap, ap₂, ◌∙◌, arith, length-drop, subst}
use Rattle.std.specs.List.{list_all}
use mathlib.Core.Path.{fun_ext}
use Rattle.level_terms.specs.declared.node.Node.{Node}
use Rattle.level_terms.specs.declared.node.Node.TheVariants.{Con, Int, Str, Level, Lam, App, Var}
use Rattle.level_terms.specs.declared.node.TermId.{TermId}
use Rattle.level_terms.specs.declared.node.Change.{Change}
use Rattle.level_terms.specs.declared.node.HeapMark.{HeapMark}
use Rattle.level_terms.specs.Graph.{Graph, Assigned}
use Rattle.level_terms.specs.Layer.{Layer, layer_of, over}
use Rattle.level_terms.specs.Laws.{IsPlace, ArePlaces}
use Rattle.level_terms.specs.Growth.{Grows}
use Rattle.level_terms.specs.Undo.{undone, IsWithin}
use Rattle.level_terms.specs.Reached.{Tree, Leaf, Hole, One, Two, plant, reaches, grown, layer_tree, node_tree, trees_of, tree, IsUnreached}
use Rattle.level_terms.specs.Reading.{read, enter, layer_term, node_term, values_of}
use Rattle.level_terms.specs.GroundNormal.{Look, layer_look, look_at, ground_normal, IsGroundNormal, is_lam, is_ground_normal}
use Rattle.level_terms.proofs.LocalLemmas.{and_left, and_right}
use Rattle.level_terms.proofs.MarkLemmas.{look-older, look-oldest}
use Rattle.level_terms.proofs.ReadingLemmas.{built-value}
use Rattle.level_terms.proofs.SubLemmas.{Reader}
use Rattle.level_terms.proofs.CoverLemmas.{places-enter, covers-node_term}
use Rattle.level_terms.proofs.NodeLemmas.{built-node_term}
use Rattle.ref_terms.specs.terms.Term as term
use Rattle.ref_terms.specs.terms.Term.{Term, Head, At}
use Rattle.ref_terms.specs.terms.Index.{ren, up, next, shift}
use Rattle.ref_terms.specs.terms.Eta.{eta, lam, lam_of}
use Rattle.ref_terms.specs.terms.Apply.{apply, fill}
use Rattle.ref_terms.specs.terms.Built.{IsBuilt}
use Rattle.ref_terms.specs.terms.Occurs.{occurs}
use Rattle.ref_terms.specs.terms.Instance.{inst_all, valued}
use Rattle.ref_terms.specs.unification.Spine.{apply_all}
use Rattle.ref_terms.specs.lemmas.EtaLemmas.{eta-some}
use Rattle.ref_terms.specs.lemmas.OccursLemmas.{fill_at}

-- it stays so whatever a call may change
pub ground_normal-grown : (g h : Graph) (r s : List Change) (t : ℕ) → Grows g h r s → t < length g.nodes → ground_normal h.nodes t ≡ ground_normal g.nodes t
ground_normal-grown g h r s t w l = ap (λ (ns : List Node). ground_normal ns t) w.nodes ∙ ap (λ (x : Look). x.is_fixed) (look-older w.new_nodes g.nodes t l)

-- and where the node isn't dropped
pub ground_normal-undone : (m : HeapMark) (g : Graph) (t : ℕ) → IsWithin m g → t < m.nodes → ground_normal (undone m g).nodes t ≡ ground_normal g.nodes t
ground_normal-undone m g t w l =
    let there : t < length (drop (length g.nodes - m.nodes) g.nodes) = omega (arith, l, w.nodes, length-drop (length g.nodes - m.nodes) g.nodes) in
    ap (λ (x : Look). x.is_fixed) (look-oldest g.nodes (length g.nodes - m.nodes) t there)

-- no variable stands in the tree
abbrev Bare : Tree → Type 0
Bare Leaf = Unit {0}
Bare (Hole v) = ⊥
Bare (One a) = Bare a
Bare (Two a b) = Bare a × Bare b

abbrev AllBare : List Tree → Type 0
AllBare [] = Unit {0}
AllBare (x ∷ xs) = Bare x × AllBare xs

bare-grown : (a : Tree) (xs : List Tree) → Bare a → AllBare xs → Bare (grown a xs)
bare-grown a [] w v = w
bare-grown a (x ∷ xs) w v = (v.0, bare-grown a xs w v.1)

bare-parts : (f : ℕ → Look) (g : ℕ → Tree) → ((k : ℕ) → (f k).is_fixed ≡ true → Bare (g k)) → (ts : List TermId) → list_all (λ (x : Look). x.is_fixed) (map (λ t. f t.index) ts) ≡ true → AllBare (map (λ t. g t.index) ts)
bare-parts f g w [] e = tt
bare-parts f g w (t ∷ ts) e = (w t.index (and_left _ _ e), bare-parts f g w ts (and_right _ _ e))

bare-node : (f : ℕ → Look) (g : ℕ → Tree) → ((k : ℕ) → (f k).is_fixed ≡ true → Bare (g k)) → (n : Node) → (layer_look (layer_of f n)).is_fixed ≡ true → Bare (layer_tree (layer_of g n))
bare-node f g w (Con c) e = tt
bare-node f g w (Int c) e = tt
bare-node f g w (Str c) e = tt
bare-node f g w (Level l) e = tt
bare-node f g w (Lam d b) e = w b.index e
bare-node f g w (App h ts) e = let more = and_right _ _ e in bare-grown (g h.index) (map (λ t. g t.index) ts) (w h.index (and_left _ _ more)) (bare-parts f g w ts (and_right _ _ more))
bare-node f g w (Var v) e = absurd (let k : false ≡ true = e in cc)

bare-tree : (nodes : List Node) (t : ℕ) → ground_normal nodes t ≡ true → Bare (node_tree nodes t)
bare-tree [] t e = tt
bare-tree (n ∷ older) t e = go (nat_eq (length older) t) (λ k q. bare-tree older k q) e
  where
    go : (b : Bool) → ((k : ℕ) → ground_normal older k ≡ true → Bare (node_tree older k)) → (cond b (layer_look (layer_of (look_at older) n)) (look_at older t)).is_fixed ≡ true → Bare (cond b (layer_tree (layer_of (node_tree older) n)) (node_tree older t))
    go true before q = bare-node (look_at older) (node_tree older) before n q
    go false before q = before t q

or_none : (a b : Bool) → a ≡ false → b ≡ false → (a || b) ≡ false
or_none false b p q = q
or_none true b p q = p

bare-plant : (u : ℕ → Tree) (v : ℕ) (a : Tree) → Bare a → reaches v (plant u a) ≡ false
bare-plant u v Leaf w = refl
bare-plant u v (Hole x) w = absurd w
bare-plant u v (One a) w = bare-plant u v a w
bare-plant u v (Two a b) w = or_none _ _ (bare-plant u v a w.0) (bare-plant u v b w.1)

bare-reaches : (v : ℕ) (a : Tree) → Bare a → reaches v a ≡ false
bare-reaches v Leaf w = refl
bare-reaches v (Hole x) w = absurd w
bare-reaches v (One a) w = bare-reaches v a w
bare-reaches v (Two a b) w = or_none _ _ (bare-reaches v a w.0) (bare-reaches v b w.1)

-- no variable is reached from it
pub ground_normal-unreached : (g : Graph) (t v : ℕ) → IsGroundNormal g t → IsUnreached g v t
unfolding tree
ground_normal-unreached g t v e = bare-plant (trees_of g.nodes g.assigned) v (node_tree g.nodes t) (bare-tree g.nodes t e)

-- its reading is the term of the nodes alone
own_values : (h : Head) → valued (λ v. At (term.Var v)) h ≡ At h
own_values (term.Var v) = refl
own_values (term.Con c) = refl
own_values (term.Int c) = refl
own_values (term.Str c) = refl
own_values (term.Name c) = refl
own_values (term.Bound c) = refl

places-built : (t : Term) → IsPlace t → IsBuilt t
places-built (At h) w = tt
places-built (term.Lam b) w = absurd w
places-built (term.App f a) w = absurd w

pub ground_normal-node_term : (g : Graph) (t : ℕ) (env : ℕ → Term) → IsGroundNormal g t → ArePlaces env → read g t env ≡ node_term g.nodes g.depths t env
unfolding read
ground_normal-node_term g t env e p =
    covers-node_term g.nodes g.depths t env p (values_of g.nodes g.depths g.assigned) (λ v. At (term.Var v)) (built-value g.nodes g.depths g.assigned) (λ v. tt)
    (λ v q. absurd (let k : false ≡ true = sym (bare-reaches v (node_tree g.nodes t) (bare-tree g.nodes t e)) ∙ q in cc))
    ∙ ap (λ (r : Head → Term). fill r (node_term g.nodes g.depths t env)) (fun_ext own_values)
    ∙ fill_at (node_term g.nodes g.depths t env) (built-node_term g.nodes g.depths t env (λ i. places-built (env i) (p i)))

-- and so doesn't hang on what is assigned
pub ground_normal-reads : (g : Graph) (bs : List Assigned) (t : ℕ) (env : ℕ → Term) → IsGroundNormal g t → ArePlaces env → read (record g { assigned = bs }) t env ≡ read g t env
ground_normal-reads g bs t env e p = ground_normal-node_term (record g { assigned = bs }) t env e p ∙ sym (ground_normal-node_term g t env e p)

-- renaming indices and contracting keep a term that is so
and_both : (a b : Bool) → a ≡ true → b ≡ true → (a && b) ≡ true
and_both true b p q = q
and_both false b p q = p

is_lam-ren : (f : ℕ → ℕ) (t : Term) → is_lam (ren f t) ≡ is_lam t
is_lam-ren f (term.Lam b) = refl
is_lam-ren f (At h) = refl
is_lam-ren f (term.App g a) = refl

ground-ren : (f : ℕ → ℕ) (t : Term) → is_ground_normal (ren f t) ≡ is_ground_normal t
ground-ren f (term.Lam b) = ground-ren (up f) b
ground-ren f (At (term.Var v)) = refl
ground-ren f (At (term.Con c)) = refl
ground-ren f (At (term.Int c)) = refl
ground-ren f (At (term.Str c)) = refl
ground-ren f (At (term.Name c)) = refl
ground-ren f (At (term.Bound c)) = refl
ground-ren f (term.App g a) = λ i. not (is_lam-ren f g i) && (ground-ren f g i && ground-ren f a i)

ground-lam : (b : Term) → is_ground_normal b ≡ true → is_ground_normal (lam b) ≡ true
ground-lam b e = go (eta b) (eta-some b)
  where
    go : (o : Option Term) → IfSome o (λ u. b ≡ term.App (shift u) (At (term.Bound zero))) → is_ground_normal (lam_of o b) ≡ true
    go None h = e
    go (Some u) h =
        let whole : is_ground_normal (term.App (shift u) (At (term.Bound zero))) ≡ true = sym (ap is_ground_normal h) ∙ e in
        sym (ground-ren next u) ∙ and_left _ _ (and_right _ _ whole)

place-ground : (t : Term) → IsPlace t → is_ground_normal t ≡ true
place-ground (At (term.Name n)) w = refl
place-ground (At (term.Bound i)) w = refl
place-ground (At (term.Con c)) w = absurd w
place-ground (At (term.Int n)) w = absurd w
place-ground (At (term.Str s)) w = absurd w
place-ground (At (term.Var v)) w = absurd w
place-ground (term.Lam b) w = absurd w
place-ground (term.App f a) w = absurd w

place-plain : (t : Term) → IsPlace t → is_lam t ≡ false
place-plain (At h) w = refl
place-plain (term.Lam b) w = absurd w
place-plain (term.App f a) w = absurd w

-- what a node reads as, where neither a variable nor an applied abstraction stands in it
abbrev IsKept : Look → Reader → Type 0
IsKept x r = x.is_fixed ≡ true → (env : ℕ → Term) → ArePlaces env → (is_ground_normal (r env) ≡ true) × (x.is_lam ≡ false → is_lam (r env) ≡ false)

abbrev AllGround : List Term → Type 0
AllGround [] = Unit {0}
AllGround (x ∷ xs) = (is_ground_normal x ≡ true) × AllGround xs

apply-plain : (f a : Term) → is_lam f ≡ false → apply f a ≡ term.App f a
apply-plain (term.Lam b) a e = absurd (let k : true ≡ false = e in cc)
apply-plain (At h) a e = refl
apply-plain (term.App f b) a e = refl

ground-apply_all : (f : Term) (xs : List Term) → is_lam f ≡ false → is_ground_normal f ≡ true → AllGround xs → (is_ground_normal (apply_all f xs) ≡ true) × (is_lam (apply_all f xs) ≡ false)
ground-apply_all f [] p e w = (e, p)
ground-apply_all f (x ∷ xs) p e w =
    let one = apply-plain f x p in
    ground-apply_all (apply f x) xs (ap is_lam one) (ap is_ground_normal one ∙ and_both _ _ (ap not p) (and_both _ _ e w.0)) w.1

kept-parts : (f : ℕ → Look) (r : ℕ → Reader) → ((k : ℕ) → IsKept (f k) (r k)) → (env : ℕ → Term) → ArePlaces env → (ts : List TermId) → list_all (λ (x : Look). x.is_fixed) (map (λ t. f t.index) ts) ≡ true → AllGround (map (λ q. q env) (map (λ t. r t.index) ts))
kept-parts f r w env p [] e = tt
kept-parts f r w env p (t ∷ ts) e = ((w t.index (and_left _ _ e) env p).0, kept-parts f r w env p ts (and_right _ _ e))

not_true : (a : Bool) → not a ≡ true → a ≡ false
not_true false e = refl
not_true true e = sym e

kept-node : (depths : List ℕ) (f : ℕ → Look) (r : ℕ → Reader) → ((k : ℕ) → IsKept (f k) (r k)) → (n : Node) → IsKept (layer_look (layer_of f n)) (layer_term depths (layer_of r n))
kept-node depths f r w (Con c) e env p = (refl, λ q. refl)
kept-node depths f r w (Int c) e env p = (refl, λ q. refl)
kept-node depths f r w (Str c) e env p = (refl, λ q. refl)
kept-node depths f r w (Level l) e env p = (place-ground (env l) (p l), λ q. place-plain (env l) (p l))
kept-node depths f r w (Lam d b) e env p = (ground-lam (r b.index (enter d env)) (w b.index e (enter d env) (places-enter d env p)).0, λ q. absurd (let k : true ≡ false = q in cc))
kept-node depths f r w (App h ts) e env p =
    let more = and_right _ _ e in
    let head = w h.index (and_left _ _ more) env p in
    let both = ground-apply_all (r h.index env) (map (λ q. q env) (map (λ t. r t.index) ts)) (head.1 (not_true _ (and_left _ _ e))) head.0 (kept-parts f r w env p ts (and_right _ _ more)) in
    (both.0, λ q. both.1)
kept-node depths f r w (Var v) e env p = absurd (let k : false ≡ true = e in cc)

kept-term : (nodes : List Node) (depths : List ℕ) (t : ℕ) → IsKept (look_at nodes t) (node_term nodes depths t)
kept-term [] depths t = λ e env p. absurd (let k : false ≡ true = e in cc)
kept-term (n ∷ older) depths t = go (nat_eq (length older) t) (λ k. kept-term older depths k)
  where
    go : (b : Bool) → ((k : ℕ) → IsKept (look_at older k) (node_term older depths k)) → IsKept (cond b (layer_look (layer_of (look_at older) n)) (look_at older t)) (cond b (layer_term depths (layer_of (node_term older depths) n)) (node_term older depths t))
    go true before = kept-node depths (look_at older) (node_term older depths) before n
    go false before = before t

-- neither a variable nor a stuck abstraction stands in what it reads as
pub ground_normal-term : (g : Graph) (t : ℕ) (env : ℕ → Term) → IsGroundNormal g t → ArePlaces env → is_ground_normal (read g t env) ≡ true
ground_normal-term g t env e p = ap is_ground_normal (ground_normal-node_term g t env e p) ∙ (kept-term g.nodes g.depths t e env p).0

-- no variable occurs in a term that is so
pub ground_normal-occurs : (v : ℕ) (t : Term) → is_ground_normal t ≡ true → occurs v t ≡ false
ground_normal-occurs v (term.Lam b) e = ground_normal-occurs v b e
ground_normal-occurs v (At (term.Var x)) e = absurd (let k : false ≡ true = e in cc)
ground_normal-occurs v (At (term.Con c)) e = refl
ground_normal-occurs v (At (term.Int c)) e = refl
ground_normal-occurs v (At (term.Str c)) e = refl
ground_normal-occurs v (At (term.Name c)) e = refl
ground_normal-occurs v (At (term.Bound c)) e = refl
ground_normal-occurs v (term.App f a) e = let more = and_right _ _ e in or_none _ _ (ground_normal-occurs v f (and_left _ _ more)) (ground_normal-occurs v a (and_right _ _ more))
