-- The bits beside the nodes.
use Rattle.std.proofs.Common.{◌≡◌, ℕ, zero, suc, ◌<◌, ◌≤◌, ◌-◌, Bool, true, false, not, ◌&&◌, List, [], ◌∷◌, ◌++◌, map, length, reverse, take, drop, cond, nat_eq, Some, None, slice_get, refl, sym, ap, ap₂, ◌∙◌, arith, length-append, length-drop, ltb-true}
use Rattle.std.proofs.lemmas.List.{reverse-append, length-reverse, take-append-drop, length-take-le}
use Rattle.std.specs.List.{list_all}
use Rattle.level_terms.specs.declared.node.Node.{Node}
use Rattle.level_terms.specs.declared.node.Node.TheVariants.{Con, Int, Str, Level, Lam, App, Var}
use Rattle.level_terms.specs.declared.node.TermId.{TermId}
use Rattle.level_terms.specs.Graph.{node_at}
use Rattle.level_terms.specs.Layer.{layer_of, application}
use Rattle.level_terms.specs.Sound.{AllMade, AllOlder}
use Rattle.level_terms.specs.GroundNormal.{Look, layer_look, look_at, ground_normal}
use Rattle.level_terms.proofs.FoldLemmas.{over-at, over-older, names_older}
use Rattle.level_terms.proofs.LocalLemmas.{step_down}
use Rattle.level_terms.proofs.UndoLemmas.{reverse-take}
use Rattle.level_terms.proofs.ViewLemmas.{slice_get-snoc}

-- a node is looked at by its parts
pub look-node : (variables : ℕ) (nodes : List Node) → AllMade variables nodes → (t : ℕ) (n : Node) → node_at nodes t ≡ Some n → look_at nodes t ≡ layer_look (layer_of (look_at nodes) n)
look-node variables nodes made t n e = over-at layer_look (record { is_lam = false; is_fixed = false }) nodes t n (names_older variables nodes made) e

pub look-lam : (variables : ℕ) (nodes : List Node) → AllMade variables nodes → (t d : ℕ) (b : TermId) → node_at nodes t ≡ Some (Lam d b) → true ≡ (look_at nodes t).is_lam
look-lam variables nodes made t d b e = sym (ap (λ (x : Look). x.is_lam) (look-node variables nodes made t (Lam d b) e))

pub look-other : (variables : ℕ) (nodes : List Node) → AllMade variables nodes → (t : ℕ) (n : Node) → node_at nodes t ≡ Some n → ((d : ℕ) (b : TermId) → n ≡ Lam d b → ⊥) → false ≡ (look_at nodes t).is_lam
look-other variables nodes made t n e other = sym (ap (λ (x : Look). x.is_lam) (look-node variables nodes made t n e) ∙ none n other)
  where
    none : (n : Node) → ((d : ℕ) (b : TermId) → n ≡ Lam d b → ⊥) → (layer_look (layer_of (look_at nodes) n)).is_lam ≡ false
    none (Lam d b) h = absurd (h d b refl)
    none (App k ts) h = refl
    none (Con c) h = refl
    none (Int c) h = refl
    none (Str c) h = refl
    none (Level c) h = refl
    none (Var v) h = refl

-- the bits of an application's parts
looks-all : (nodes : List Node) (ts : List TermId) → list_all (λ t. ground_normal nodes t.index) ts ≡ list_all (λ (x : Look). x.is_fixed) (map (λ t. look_at nodes t.index) ts)
looks-all nodes [] = refl
looks-all nodes (t ∷ ts) = ap (λ (b : Bool). ground_normal nodes t.index && b) (looks-all nodes ts)

pub fixed-app : (nodes : List Node) (h : ℕ) (ts : List TermId) → (look_at nodes h).is_lam ≡ false → ground_normal nodes h ≡ true
    → list_all (λ t. ground_normal nodes t.index) ts ≡ (layer_look (application (look_at nodes h) (map (λ t. look_at nodes t.index) ts))).is_fixed
fixed-app nodes h ts p q =
    looks-all nodes ts
    ∙ sym (ap₂ (λ (a b : Bool). not a && (b && list_all (λ (x : Look). x.is_fixed) (map (λ t. look_at nodes t.index) ts))) p q)

-- an application of an abstraction, and one of a node that may change
pub applied-lam : (nodes : List Node) (h : ℕ) (ts : List TermId) → (look_at nodes h).is_lam ≡ true → false ≡ (layer_look (application (look_at nodes h) (map (λ t. look_at nodes t.index) ts))).is_fixed
applied-lam nodes h ts p = sym (ap (λ (a : Bool). not a && (ground_normal nodes h && list_all (λ (x : Look). x.is_fixed) (map (λ t. look_at nodes t.index) ts))) p)

pub applied-open : (nodes : List Node) (h : ℕ) (ts : List TermId) → (look_at nodes h).is_lam ≡ false → ground_normal nodes h ≡ false → false ≡ (layer_look (application (look_at nodes h) (map (λ t. look_at nodes t.index) ts))).is_fixed
applied-open nodes h ts p q = sym (ap₂ (λ (a b : Bool). not a && (b && list_all (λ (x : Look). x.is_fixed) (map (λ t. look_at nodes t.index) ts))) p q)

-- the bit of a new node
pub bits-push : (nodes : List Node) (bits : List Bool) (n : Node) (b : Bool) → length bits ≡ length nodes
    → ((t : ℕ) → t < length nodes → slice_get bits t ≡ Some (ground_normal (reverse nodes) t))
    → b ≡ (layer_look (layer_of (look_at (reverse nodes)) n)).is_fixed
    → (t : ℕ) → t < length (nodes ++ n ∷ []) → slice_get (bits ++ b ∷ []) t ≡ Some (ground_normal (reverse (nodes ++ n ∷ [])) t)
bits-push nodes bits n b long each e t h =
    slice_get-snoc bits b t
    ∙ ap (λ k. cond (nat_eq k t) (Some b) (slice_get bits t)) (long ∙ sym (length-reverse nodes))
    ∙ go (nat_eq (length (reverse nodes)) t) refl
    ∙ ap (λ (ns : List Node). Some (ground_normal ns t)) (sym (reverse-append nodes (n ∷ [])))
  where
    go : (x : Bool) → nat_eq (length (reverse nodes)) t ≡ x → cond x (Some b) (slice_get bits t) ≡ Some (cond x (layer_look (layer_of (look_at (reverse nodes)) n)) (look_at (reverse nodes) t)).is_fixed
    go true q = ap Some e
    go false q = each t (let l : t < suc (length (reverse nodes)) = omega (arith, h, length-append nodes (n ∷ []), length-reverse nodes) in let k : t < length (reverse nodes) = step_down (length (reverse nodes)) t q l in omega (arith, k, length-reverse nodes))

-- the bits of the nodes that stay
slice_get-take : {A : Type 0} (xs : List A) (m t : ℕ) → t < m → slice_get (take m xs) t ≡ slice_get xs t
slice_get-take xs zero t h = absurd (omega (arith, h))
slice_get-take [] (suc m) t h = refl
slice_get-take (x ∷ xs) (suc m) zero h = refl
slice_get-take (x ∷ xs) (suc m) (suc t) h = slice_get-take xs m t (omega (arith, h))

pub look-older : (new nodes : List Node) (t : ℕ) → t < length nodes → look_at (new ++ nodes) t ≡ look_at nodes t
look-older new nodes t h = over-older layer_look (record { is_lam = false; is_fixed = false }) new nodes t h

pub look-oldest : (nodes : List Node) (k t : ℕ) → t < length (drop k nodes) → look_at (drop k nodes) t ≡ look_at nodes t
look-oldest nodes k t h = sym (look-older (take k nodes) (drop k nodes) t h) ∙ ap (λ (ns : List Node). look_at ns t) (take-append-drop k nodes)

pub bits-take : (nodes : List Node) (bits : List Bool) (m : ℕ) → m ≤ length nodes
    → ((t : ℕ) → t < length nodes → slice_get bits t ≡ Some (ground_normal (reverse nodes) t))
    → (t : ℕ) → t < length (take m nodes) → slice_get (take m bits) t ≡ Some (ground_normal (reverse (take m nodes)) t)
bits-take nodes bits m le each t h =
    let below : t < m = omega (arith, h, length-take-le m nodes le) in
    let there : t < length (drop (length nodes - m) (reverse nodes)) = omega (arith, below, le, length-drop (length nodes - m) (reverse nodes), length-reverse nodes) in
    slice_get-take bits m t below
    ∙ each t (omega (arith, below, le))
    ∙ ap (λ (x : Look). Some x.is_fixed) (sym (look-oldest (reverse nodes) (length nodes - m) t there))
    ∙ ap (λ (ns : List Node). Some (ground_normal ns t)) (sym (reverse-take m nodes le))
