-- New nodes and variables change no reading.
use Rattle.std.proofs.Common.{◌≡◌, ℕ, zero, suc, ◌<◌, List, [], ◌∷◌, ◌++◌, length, slice_index, refl, ap, ap₂, ◌∙◌}
use Rattle.std.proofs.Math.ListN.{get_or-append}
use mathlib.Core.Path.{fun_ext}
use Rattle.level_terms.specs.declared.node.Node.{Node}
use Rattle.level_terms.specs.declared.node.Node.TheVariants.{Con, Var}
use Rattle.level_terms.specs.Graph.{Graph, Assigned}
use Rattle.level_terms.specs.Layer.{layer_of}
use Rattle.level_terms.specs.Reading.{layer_term, levels, node_term, closed_term, values_of, read, enter}
use Rattle.level_terms.specs.Sound.{AllMade, AllAssigned, IsSound}
use Rattle.level_terms.proofs.FoldLemmas.{IsKnown, all_known, over-older, over-steps}
use Rattle.ref_terms.specs.terms.Term as term
use Rattle.ref_terms.specs.terms.Term.{Term}
use Rattle.ref_terms.specs.terms.Eta.{lam}
use Rattle.ref_terms.specs.unification.Spine.{apply_all}
use Rattle.ref_terms.specs.terms.Instance.{inst_all, inst}

-- a term for each choice of what the levels stand for
abbrev Reader : Type 0
Reader = (ℕ → Term) → Term

-- new variables change no node's term
node-more : (depths more : List ℕ) (f : ℕ → Reader) (n : Node) → IsKnown (length depths) n → layer_term (depths ++ more) (layer_of f n) ≡ layer_term depths (layer_of f n)
node-more depths more f (Var v) w = let e = get_or-append depths more 0 v.index w in λ i env. apply_all (term.At (term.Var v.index)) (levels (e i) env)
node-more depths more f (Con c) w = refl
node-more depths more f _ w = refl

pub node_term-grown : (new nodes : List Node) (depths more : List ℕ) → AllMade (length depths) nodes → (t : ℕ) → t < length nodes → node_term (new ++ nodes) (depths ++ more) t ≡ node_term nodes depths t
node_term-grown new nodes depths more w t h =
    over-older (layer_term (depths ++ more)) (λ env. term.At (term.Con 0)) new nodes t h
    ∙ over-steps (layer_term (depths ++ more)) (layer_term depths) (λ env. term.At (term.Con 0)) (length depths) (node-more depths more) nodes (all_known (length depths) nodes w) t

closed_term-grown : (g : Graph) (new : List Node) (more : List ℕ) → IsSound g → (t : ℕ) → t < length g.nodes → (d k : ℕ) (env : ℕ → Term) → closed_term (new ++ g.nodes) (g.depths ++ more) d k t env ≡ closed_term g.nodes g.depths d k t env
closed_term-grown g new more s t h d zero env = ap (λ r. r env) (node_term-grown new g.nodes g.depths more s.made t h)
closed_term-grown g new more s t h d (suc k) env = ap lam (closed_term-grown g new more s t h (suc d) k (enter d env))

values-grown : (g : Graph) (new : List Node) (more : List ℕ) → IsSound g → (a : List Assigned) → AllAssigned (length g.nodes) (length g.depths) a → (v : ℕ) → values_of (new ++ g.nodes) (g.depths ++ more) a v ≡ values_of g.nodes g.depths a v
unfolding values_of
values-grown g new more s [] w v = refl
values-grown g new more s (a ∷ older) w v =
    let same = fun_ext (values-grown g new more s older w.2) in
    let depth = get_or-append g.depths more 0 a.variable w.1 in
    let value = ap (λ k. closed_term (new ++ g.nodes) (g.depths ++ more) 0 k a.value (λ i. term.At (term.Bound i))) depth ∙ closed_term-grown g new more s a.value w.0 0 (slice_index g.depths a.variable) (λ i. term.At (term.Bound i)) in
    ap₂ (inst a.variable) (ap₂ inst_all same value) (ap (λ u. u v) same)

pub makers_keep_readings : (g : Graph) (new : List Node) (more : List ℕ) (t : ℕ) (env : ℕ → Term) → IsSound g → t < length g.nodes →
    read (record g { nodes = new ++ g.nodes; depths = g.depths ++ more }) t env ≡ read g t env
unfolding read
makers_keep_readings g new more t env s h = ap₂ inst_all (fun_ext (values-grown g new more s g.assigned s.assigned)) (ap (λ r. r env) (node_term-grown new g.nodes g.depths more s.made t h))
