use Rattle.std.proofs.Common.{◌≡◌, ◌<◌, ◌++◌, Bool, List, Some, [], ◌∷◌, sym, ap, ◌∙◌, reverse, subst, map, length, slice_get, arith}
use Rattle.std.proofs.lemmas.List.{reverse-append}
use Rattle.level_terms.specs.Sound.{IsMade}
use Rattle.level_terms.specs.declared.node.Node.{Node}
use Rattle.level_terms.specs.Graph.{Graph}
use Rattle.level_terms.specs.Layer.{layer_of}
use Rattle.level_terms.specs.GroundNormal.{look_at, layer_look, ground_normal}
use Rattle.level_terms.proofs.MarkLemmas.{bits-push}
use Rattle.level_terms.specs.HeapView.{graph_of, assigned_all}
use Rattle.level_terms.proofs.GrowthLemmas.{grows-refl, grows-node, grows-same}
use Rattle.level_terms.proofs.SoundLemmas.{sound-node}
use Rattle.level_terms.proofs.heap.Heap.add.Goals as goal

pub returns-then-index-clause-grows : goal.returns-then-index-clause-grows
returns-then-index-clause-grows c = grows-refl c.args.self.now []

pub returns-in_err-reserve-clause-grows : goal.returns-in_err-reserve-clause-grows
returns-in_err-reserve-clause-grows c = grows-same c.args.self.now _ [] c.self.view_is

pub returns-in_err-push-clause-grows : goal.returns-in_err-push-clause-grows
returns-in_err-push-clause-grows c =
    grows-same c.args.self.now _ [] (rw (c.in_err-push.ensures.items) c.self.view_is)

pub invariant_of-self-2 : goal.invariant_of-self-2
invariant_of-self-2 c =
    let nodes = ap reverse c.in_ok-push.ensures.items ∙ reverse-append c.self.inside.nodes.items (c.args.node ∷ []) in
    record {
      consistent = record {
        values = c.self.invariant.consistent.values;
        count = c.self.invariant.consistent.count;
        room = c.self.invariant.consistent.room;
        few = c.self.invariant.consistent.few;
        once = c.self.invariant.consistent.once;
      };
      marked = record {
        many = omega (arith, c.self.invariant.marked.many, c.push_reserved.ensures.len, c.in_ok-reserve.ensures.len, c.in_ok-push.ensures.len);
        bits = λ t h.
            let bit = c.is_fixed-fixed.ensures ∙ ap (λ (g : Graph). (layer_look (layer_of (look_at g.nodes) c.args.node)).is_fixed) (sym c.self.view_is) in
            let kept = c.push_reserved.ensures.items ∙ ap (λ (bs : List Bool). bs ++ c.is_fixed-fixed.result ∷ []) c.in_ok-reserve.ensures.items in
            ap (λ (bs : List Bool). slice_get bs t) kept
            ∙ bits-push c.self.inside.nodes.items c.self.inside.fixed.items c.args.node c.is_fixed-fixed.result (omega (arith, c.self.invariant.marked.many, c.self.inside.nodes.ok, c.self.inside.fixed.ok)) c.self.invariant.marked.bits bit t
            (subst (λ (ns : List Node). t < length ns) c.in_ok-push.ensures.items h)
            ∙ ap (λ (ns : List Node). Some (ground_normal (reverse ns) t)) (sym c.in_ok-push.ensures.items);
      };
      sound = sound-node (graph_of c.self.inside) _ c.args.node
          (λ i. record { nodes = nodes i; depths = map (λ x. x.depth) c.self.inside.cells.items; assigned = assigned_all c.self.inside.bindings.items })
          c.self.invariant.sound
          (subst (λ g. IsMade g.nodes (length g.depths) c.args.node) (sym c.self.view_is) c.requires);
    }

pub returns-clause-grows : goal.returns-clause-grows
returns-clause-grows c =
    let nodes = ap reverse c.in_ok-push.ensures.items ∙ reverse-append c.self.inside.nodes.items (c.args.node ∷ []) in
    grows-node c.args.self.now _ c.args.node (rw (← c.self.view_is) (λ i. record { nodes = nodes i; depths = map (λ x. x.depth) c.self.inside.cells.items; assigned = assigned_all c.self.inside.bindings.items }))
