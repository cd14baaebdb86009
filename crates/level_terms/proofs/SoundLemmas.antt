-- Sound heaps stay sound.
use Rattle.std.proofs.Common.{◌≡◌, ℕ, suc, ◌<◌, ◌≤◌, ◌-◌, zero, Bool, false, List, [], ◌∷◌, ◌++◌, length, drop, take, nat_lt, slice_index, None, refl, sym, ap₂, ◌∙◌, arith, length-append, subst}
use Rattle.std.proofs.Math.ListN.{get_or-append}
use Rattle.std.proofs.lemmas.List.{take-append-drop, length-take-le, length-drop, append-nil}
use mathlib.Core.Path.{fun_ext}
use Rattle.level_terms.specs.declared.node.Node.{Node}
use Rattle.level_terms.specs.declared.node.Node.TheVariants.{Con, Lam, App, Var}
use Rattle.level_terms.specs.declared.node.HeapMark.{HeapMark}
use Rattle.level_terms.specs.Graph.{Graph, Assigned, value_in}
use Rattle.level_terms.specs.Layer.{layer_of}
use Rattle.level_terms.specs.Valid.{layer_valid, valid, IsValid, AllValid}
use Rattle.level_terms.specs.Reached.{Tree, Leaf, plant, put, reaches, layer_tree, node_tree, trees_of, tree, IsUnreached, NoCycle}
use Rattle.level_terms.specs.Sound.{IsMade, AllMade, AllAssigned, IsSound}
use Rattle.level_terms.specs.Undo.{undone, IsWithin, IsClosed}
use Rattle.level_terms.proofs.FoldLemmas.{IsKnown, all_known, over-older, over-steps}

-- validity of a node that was there
valid-node : (depths more : List ℕ) (f : ℕ → ℕ → Bool) (n : Node) → IsKnown (length depths) n → layer_valid (depths ++ more) (layer_of f n) ≡ layer_valid depths (layer_of f n)
valid-node depths more f (Var v) w = let e = get_or-append depths more 0 v.index w in λ i depth. nat_lt (e i) (suc depth)
valid-node depths more f (Con c) w = refl
valid-node depths more f _ w = refl

pub valid-grown : (new nodes : List Node) (depths more : List ℕ) → AllMade (length depths) nodes → (t : ℕ) → t < length nodes → valid (new ++ nodes) (depths ++ more) t ≡ valid nodes depths t
unfolding valid
valid-grown new nodes depths more w t h =
    over-older (layer_valid (depths ++ more)) (λ depth. false) new nodes t h
    ∙ over-steps (layer_valid (depths ++ more)) (layer_valid depths) (λ depth. false) (length depths) (valid-node depths more) nodes (all_known (length depths) nodes w) t

value-grown : (new nodes : List Node) (depths more : List ℕ) → AllMade (length depths) nodes → (a : Assigned) → a.value < length nodes → a.variable < length depths →
    valid (new ++ nodes) (depths ++ more) a.value (slice_index (depths ++ more) a.variable) ≡ valid nodes depths a.value (slice_index depths a.variable)
value-grown new nodes depths more w a h k = ap₂ (λ (f : ℕ → Bool) (d : ℕ). f d) (valid-grown new nodes depths more w a.value h) (get_or-append depths more 0 a.variable k)

all_valid-grown : (new nodes : List Node) (depths more : List ℕ) → AllMade (length depths) nodes → (bs : List Assigned) → AllAssigned (length nodes) (length depths) bs → AllValid nodes depths bs → AllValid (new ++ nodes) (depths ++ more) bs
all_valid-grown new nodes depths more w [] k v = tt
all_valid-grown new nodes depths more w (a ∷ older) k v = (value-grown new nodes depths more w a k.0 k.1 ∙ v.0, all_valid-grown new nodes depths more w older k.2 v.1)

all_valid-back : (new nodes : List Node) (depths more : List ℕ) → AllMade (length depths) nodes → (bs : List Assigned) → AllAssigned (length nodes) (length depths) bs → AllValid (new ++ nodes) (depths ++ more) bs → AllValid nodes depths bs
all_valid-back new nodes depths more w [] k v = tt
all_valid-back new nodes depths more w (a ∷ older) k v = (sym (value-grown new nodes depths more w a k.0 k.1) ∙ v.0, all_valid-back new nodes depths more w older k.2 v.1)

-- trees of values that were there
trees-grown : (new nodes : List Node) (k : ℕ) (bs : List Assigned) → AllAssigned (length nodes) k bs → (v : ℕ) → trees_of (new ++ nodes) bs v ≡ trees_of nodes bs v
unfolding trees_of
trees-grown new nodes k [] w v = refl
trees-grown new nodes k (a ∷ older) w v =
    let same = fun_ext (trees-grown new nodes k older w.2) in
    ap₂ (λ (u : ℕ → Tree) (x : Tree). plant (put a.variable (plant u x)) (u v)) same (over-older layer_tree Leaf new nodes a.value w.0)

reached-grown : (new nodes : List Node) (k : ℕ) (a : Assigned) (older : List Assigned) → a.value < length nodes → AllAssigned (length nodes) k older →
    reaches a.variable (plant (trees_of (new ++ nodes) older) (node_tree (new ++ nodes) a.value)) ≡ reaches a.variable (plant (trees_of nodes older) (node_tree nodes a.value))
reached-grown new nodes k a older h w = ap₂ (λ (u : ℕ → Tree) (x : Tree). reaches a.variable (plant u x)) (fun_ext (trees-grown new nodes k older w)) (over-older layer_tree Leaf new nodes a.value h)

no_cycle-grown : (new nodes : List Node) (k : ℕ) (bs : List Assigned) → AllAssigned (length nodes) k bs → NoCycle nodes bs → NoCycle (new ++ nodes) bs
no_cycle-grown new nodes k [] w v = tt
no_cycle-grown new nodes k (a ∷ older) w v = (v.0, reached-grown new nodes k a older w.0 w.2 ∙ v.1, no_cycle-grown new nodes k older w.2 v.2)

no_cycle-back : (new nodes : List Node) (k : ℕ) (bs : List Assigned) → AllAssigned (length nodes) k bs → NoCycle (new ++ nodes) bs → NoCycle nodes bs
no_cycle-back new nodes k [] w v = tt
no_cycle-back new nodes k (a ∷ older) w v = (v.0, sym (reached-grown new nodes k a older w.0 w.2) ∙ v.1, no_cycle-back new nodes k older w.2 v.2)

made-more : (older : List Node) (j k : ℕ) → j ≤ k → (n : Node) → IsMade older j n → IsMade older k n
made-more older j k h (Var v) w = omega (arith, h, w)
made-more older j k h (Lam d b) w = w
made-more older j k h (App t ts) w = w
made-more older j k h (Con c) w = w
made-more older j k h _ w = w

all_made-more : (j k : ℕ) → j ≤ k → (nodes : List Node) → AllMade j nodes → AllMade k nodes
all_made-more j k h [] w = tt
all_made-more j k h (n ∷ older) w = (made-more older j k h n w.0, all_made-more j k h older w.1)

assigned-more : (m n j k : ℕ) → m ≤ n → j ≤ k → (bs : List Assigned) → AllAssigned m j bs → AllAssigned n k bs
assigned-more m n j k g h [] w = tt
assigned-more m n j k g h (a ∷ older) w = (omega (arith, g, w.0), omega (arith, h, w.1), assigned-more m n j k g h older w.2)

pub sound-node : (g h : Graph) (n : Node) → h ≡ record g { nodes = n ∷ g.nodes } → IsSound g → IsMade g.nodes (length g.depths) n → IsSound h
sound-node g h n e s made = subst IsSound (sym e) (record {
  made = (made, s.made);
  assigned = assigned-more (length g.nodes) (suc (length g.nodes)) (length g.depths) (length g.depths) (omega arith) (omega arith) g.assigned s.assigned;
  valid = subst (λ ds. AllValid (n ∷ g.nodes) ds g.assigned) (append-nil g.depths) (all_valid-grown (n ∷ []) g.nodes g.depths [] s.made g.assigned s.assigned s.valid);
  acyclic = no_cycle-grown (n ∷ []) g.nodes (length g.depths) g.assigned s.assigned s.acyclic;
})

pub sound-variable : (g h : Graph) (d : ℕ) → h ≡ record g { depths = g.depths ++ d ∷ [] } → IsSound g → IsSound h
sound-variable g h d e s =
    let more : length g.depths ≤ length (g.depths ++ d ∷ []) = omega (arith, length-append g.depths (d ∷ [])) in
    subst IsSound (sym e) (record {
      made = all_made-more (length g.depths) (length (g.depths ++ d ∷ [])) more g.nodes s.made;
      assigned = assigned-more (length g.nodes) (length g.nodes) (length g.depths) (length (g.depths ++ d ∷ [])) (omega arith) more g.assigned s.assigned;
      valid = all_valid-grown [] g.nodes g.depths (d ∷ []) s.made g.assigned s.assigned s.valid;
      acyclic = s.acyclic;
    })

pub sound-assigned : (g h : Graph) (v t : ℕ) → h ≡ record g { assigned = record { variable = v; value = t } ∷ g.assigned } → IsSound g → t < length g.nodes → v < length g.depths → value_in g.assigned v ≡ None → IsValid g t (slice_index g.depths v) → IsUnreached g v t → IsSound h
unfolding tree
sound-assigned g h v t e s node known free is_valid unreached = subst IsSound (sym e) (record {
  made = s.made;
  assigned = (node, known, s.assigned);
  valid = (is_valid, s.valid);
  acyclic = (free, unreached, s.acyclic);
})

valid-drop : (nodes : List Node) (depths : List ℕ) (k : ℕ) (bs : List Assigned) → AllValid nodes depths bs → AllValid nodes depths (drop k bs)
valid-drop nodes depths zero bs w = w
valid-drop nodes depths (suc k) [] w = tt
valid-drop nodes depths (suc k) (a ∷ bs) w = valid-drop nodes depths k bs w.1

no_cycle-drop : (nodes : List Node) (k : ℕ) (bs : List Assigned) → NoCycle nodes bs → NoCycle nodes (drop k bs)
no_cycle-drop nodes zero bs w = w
no_cycle-drop nodes (suc k) [] w = tt
no_cycle-drop nodes (suc k) (a ∷ bs) w = no_cycle-drop nodes k bs w.2

-- what stays after undoing is sound
pub sound-undone : (m : HeapMark) (g : Graph) → IsSound g → IsWithin m g → IsClosed m g → IsSound (undone m g)
sound-undone m g s w c =
    let k = length g.nodes - m.nodes in
    let nodes = drop k g.nodes in
    let depths = take m.variables g.depths in
    let kept = drop (length g.assigned - m.entries) g.assigned in
    let long : length nodes ≡ m.nodes = omega (arith, length-drop k g.nodes, w.nodes) in
    let deep : length depths ≡ m.variables = length-take-le m.variables g.depths w.variables in
    let made : AllMade (length depths) nodes = subst (λ n. AllMade n nodes) (sym deep) c.nodes in
    let assigned : AllAssigned (length nodes) (length depths) kept = subst (λ n. AllAssigned n (length depths) kept) (sym long) (subst (λ n. AllAssigned m.nodes n kept) (sym deep) c.assigned) in
    let parts = sym (take-append-drop k g.nodes) in
    let levels = sym (take-append-drop m.variables g.depths) in
    record {
      made = made;
      assigned = assigned;
      valid = all_valid-back (take k g.nodes) nodes depths (drop m.variables g.depths) made kept assigned
          (subst (λ ns. AllValid ns (depths ++ drop m.variables g.depths) kept) parts (subst (λ ds. AllValid g.nodes ds kept) levels (valid-drop g.nodes g.depths (length g.assigned - m.entries) g.assigned s.valid)));
      acyclic = no_cycle-back (take k g.nodes) nodes (length depths) kept assigned
          (subst (λ ns. NoCycle ns kept) parts (no_cycle-drop g.nodes (length g.assigned - m.entries) g.assigned s.acyclic));
    }
