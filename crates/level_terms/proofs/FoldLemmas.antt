-- Folds over the nodes of a heap.
use Rattle.std.proofs.Common.{◌≡◌, ℕ, ◌<◌, List, [], ◌∷◌, ◌++◌, map, length, cond, nat_eq, Bool, true, false, Some, None, refl, sym, ap, ap₂, ◌∙◌, arith, length-append, lt_trans, ne_eqb, eqb-true, subst}
use Rattle.level_terms.specs.declared.node.Node.{Node}
use Rattle.level_terms.specs.declared.node.Node.TheVariants.{Con, Lam, App, Var}
use Rattle.level_terms.specs.declared.node.TermId.{TermId}
use Rattle.level_terms.specs.Graph.{node_at}
use Rattle.level_terms.specs.Layer.{Layer, abstraction, application, layer_of, over}
use Rattle.level_terms.specs.Sound.{AllOlder, IsMade, AllMade}
use mathlib.Core.Path.{fun_ext}

-- the nodes that a node names
abbrev pub parts_of : Node → List TermId
parts_of (Lam d b) = b ∷ []
parts_of (App h ts) = h ∷ ts
parts_of _ = []

-- each node names older ones alone
abbrev pub NamesOlder : List Node → Type 0
NamesOlder [] = Unit {0}
NamesOlder (n ∷ older) = AllOlder (length older) (parts_of n) × NamesOlder older

-- a variable's node has one of so many variables
abbrev pub IsKnown : ℕ → Node → Type 0
IsKnown variables (Var v) = v.index < variables
IsKnown variables _ = Unit {0}

-- so each node
abbrev pub AllKnown : ℕ → List Node → Type 0
AllKnown variables [] = Unit {0}
AllKnown variables (n ∷ older) = IsKnown variables n × AllKnown variables older

-- the parts of a node that can be made are older
pub made_parts : (older : List Node) (variables : ℕ) (n : Node) → IsMade older variables n → AllOlder (length older) (parts_of n)
made_parts older variables (Lam d b) w = (w, tt)
made_parts older variables (App h ts) w = (w.0, w.2)
made_parts older variables (Con c) w = tt
made_parts older variables _ w = tt

-- and a variable in it is known
pub made_known : (older : List Node) (variables : ℕ) (n : Node) → IsMade older variables n → IsKnown variables n
made_known older variables (Var v) w = w
made_known older variables (Con c) w = tt
made_known older variables _ w = tt

-- so of all nodes
pub names_older : (variables : ℕ) (nodes : List Node) → AllMade variables nodes → NamesOlder nodes
names_older variables [] w = tt
names_older variables (n ∷ older) w = (made_parts older variables n w.0, names_older variables older w.1)

-- and the variables of all nodes are known
pub all_known : (variables : ℕ) (nodes : List Node) → AllMade variables nodes → AllKnown variables nodes
all_known variables [] w = tt
all_known variables (n ∷ older) w = (made_known older variables n w.0, all_known variables older w.1)

-- older nodes mean what they meant
pub over-older : {A : Type 0} (step : Layer A → A) (none : A) (new nodes : List Node) (t : ℕ) → t < length nodes → over step none (new ++ nodes) t ≡ over step none nodes t
over-older step none [] nodes t h = refl
over-older step none (n ∷ new) nodes t h =
    let not_here : nat_eq (length (new ++ nodes)) t ≡ false = ne_eqb (length (new ++ nodes)) t (omega (arith, length-append new nodes)) in
    rw not_here (over-older step none new nodes t h)

-- two steps that agree on nodes with known variables give the same fold
pub over-steps : {A : Type 0} (p q : Layer A → A) (none : A) (k : ℕ) → ((f : ℕ → A) (n : Node) → IsKnown k n → p (layer_of f n) ≡ q (layer_of f n)) → (nodes : List Node) → AllKnown k nodes → (t : ℕ) → over p none nodes t ≡ over q none nodes t
over-steps p q none k e [] w t = refl
over-steps p q none k e (n ∷ older) w t =
    let same = fun_ext (over-steps p q none k e older w.1) in
    ap₂ (cond (nat_eq (length older) t))
    (ap (λ f. p (layer_of f n)) same ∙ e (over q none older) n w.0)
    (over-steps p q none k e older w.1 t)

-- what a node's layer is hangs on its parts alone
map-agree : {A : Type 0} (f g : ℕ → A) (m : ℕ) → ((k : ℕ) → k < m → f k ≡ g k) → (ts : List TermId) → AllOlder m ts → map (λ t. f t.index) ts ≡ map (λ t. g t.index) ts
map-agree f g m e [] w = refl
map-agree {A} f g m e (t ∷ ts) w = ap₂ (λ (x : A) (xs : List A). x ∷ xs) (e t.index w.0) (map-agree f g m e ts w.1)

pub layer-agree : {A : Type 0} (f g : ℕ → A) (m : ℕ) → ((k : ℕ) → k < m → f k ≡ g k) → (n : Node) → AllOlder m (parts_of n) → layer_of f n ≡ layer_of g n
layer-agree {A} f g m e (Lam d b) w = let k : A → Layer A = λ x. abstraction d x in ap k (e b.index w.0)
layer-agree {A} f g m e (App h ts) w = let k : A → List A → Layer A = λ x xs. application x xs in ap₂ k (e h.index w.0) (map-agree f g m e ts w.1)
layer-agree f g m e (Con c) w = refl
layer-agree f g m e _ w = refl

over-older_one : {A : Type 0} (step : Layer A → A) (none : A) (n : Node) (nodes : List Node) (t : ℕ) → t < length nodes → over step none (n ∷ nodes) t ≡ over step none nodes t
over-older_one step none n nodes t h = let no : nat_eq (length nodes) t ≡ false = ne_eqb (length nodes) t (omega (arith, h)) in rw no refl

pub node_at-below : (nodes : List Node) (t : ℕ) (n : Node) → node_at nodes t ≡ Some n → t < length nodes
node_at-below [] t n e = absurd (let k : None ≡ Some n = e in cc)
node_at-below (m ∷ nodes) t n e = go (nat_eq (length nodes) t) refl e (λ q. node_at-below nodes t n q)
  where
    go : (b : Bool) → nat_eq (length nodes) t ≡ b → cond b (Some m) (node_at nodes t) ≡ Some n → (node_at nodes t ≡ Some n → t < length nodes) → t < length (m ∷ nodes)
    go true q e h = let k : length nodes ≡ t = eqb-true _ _ q in omega (arith, k)
    go false q e h = let k : t < length nodes = h e in omega (arith, k)

-- a node's parts are older than it
pub parts_older : (nodes : List Node) (t : ℕ) (n : Node) → NamesOlder nodes → node_at nodes t ≡ Some n → AllOlder t (parts_of n)
parts_older [] t n w e = absurd (let k : None ≡ Some n = e in cc)
parts_older (m ∷ nodes) t n w e = go (nat_eq (length nodes) t) refl e (λ q. parts_older nodes t n w.1 q)
  where
    go : (b : Bool) → nat_eq (length nodes) t ≡ b → cond b (Some m) (node_at nodes t) ≡ Some n → (node_at nodes t ≡ Some n → AllOlder t (parts_of n)) → AllOlder t (parts_of n)
    go true q e h = let k : length nodes ≡ t = eqb-true _ _ q in let same : m ≡ n = cc in subst (λ z. AllOlder t (parts_of z)) same (subst (λ z. AllOlder z (parts_of m)) k w.0)
    go false q e h = h e

-- the fold at a node is a step over the fold at its parts
pub over-at : {A : Type 0} (step : Layer A → A) (none : A) (nodes : List Node) (t : ℕ) (n : Node) → NamesOlder nodes → node_at nodes t ≡ Some n → over step none nodes t ≡ step (layer_of (over step none nodes) n)
over-at step none [] t n w e = absurd (let k : None ≡ Some n = e in cc)
over-at {A} step none (m ∷ nodes) t n w e = go (nat_eq (length nodes) t) refl e (λ q. over-at step none nodes t n w.1 q)
  where
    more : (k : ℕ) → k < length nodes → over step none nodes k ≡ over step none (m ∷ nodes) k
    more k h = sym (over-older_one step none m nodes k h)

    go : (b : Bool) → nat_eq (length nodes) t ≡ b → cond b (Some m) (node_at nodes t) ≡ Some n → (node_at nodes t ≡ Some n → over step none nodes t ≡ step (layer_of (over step none nodes) n)) → cond b (step (layer_of (over step none nodes) m)) (over step none nodes t) ≡ step (layer_of (over step none (m ∷ nodes)) n)
    go true q e h = let same : m ≡ n = cc in ap step (layer-agree (over step none nodes) (over step none (m ∷ nodes)) (length nodes) more m w.0) ∙ ap (λ z. step (layer_of (over step none (m ∷ nodes)) z)) same
    go false q e h = let below : t < length nodes = node_at-below nodes t n e in h e ∙ ap step (layer-agree (over step none nodes) (over step none (m ∷ nodes)) t (λ k lt. more k (lt_trans lt below)) n (parts_older nodes t n w.1 e))
