-- Going back to marks.
use Rattle.std.proofs.Common.{◌≡◌, ◌≤◌, ◌-◌, List, length, sym, ap, ◌∙◌, arith, subst, length-drop, length-append}
use Rattle.std.proofs.lemmas.List.{take-take, length-take-le}
use Rattle.level_terms.specs.declared.node.HeapMark.{HeapMark}
use Rattle.level_terms.specs.declared.node.Change.{Change}
use Rattle.level_terms.specs.Graph.{Graph}
use Rattle.level_terms.specs.Growth.{Grows}
use Rattle.level_terms.specs.Sound.{AllMade, AllAssigned}
use Rattle.level_terms.specs.Undo as heap
use Rattle.level_terms.proofs.GrowthLemmas as growth
use Rattle.search_moves.specs.declared.frame.Mark.{Mark}
use Rattle.search_moves.specs.World.{World, undone, mark_of, oldest, IsWithin}
use Rattle.search_moves.specs.Saved.{Keeps}
use Rattle.search_moves.specs.Moves.{LeavesRest}
use Rattle.search_moves.proofs.ListLemmas.{oldest-length, oldest-all, oldest-append, oldest-oldest}

-- the earlier mark of two isn't past the heap either
heap-below : (a b : HeapMark) (g : Graph) → heap.IsWithin b g → heap.IsWithin a (heap.undone b g) → (a.nodes ≤ b.nodes) × (a.variables ≤ b.variables) × (a.entries ≤ b.entries)
heap-below a b g v w = (
  omega (arith, w.nodes, v.nodes, length-drop (length g.nodes - b.nodes) g.nodes),
  omega (arith, w.variables, v.variables, length-take-le b.variables g.depths v.variables),
  omega (arith, w.entries, v.entries, length-drop (length g.assigned - b.entries) g.assigned),
)

heap-within : (a b : HeapMark) (g : Graph) → heap.IsWithin b g → heap.IsWithin a (heap.undone b g) → heap.IsWithin a g
heap-within a b g v w =
    let le = heap-below a b g v w in
    record { nodes = omega (arith, le.0, v.nodes); variables = omega (arith, le.1, v.variables); entries = omega (arith, le.2, v.entries) }

pub heap-twice : (a b : HeapMark) (g : Graph) → heap.IsWithin b g → heap.IsWithin a (heap.undone b g) → heap.undone a (heap.undone b g) ≡ heap.undone a g
heap-twice a b g v w =
    let le = heap-below a b g v w in
    let nodes = oldest-oldest a.nodes b.nodes g.nodes le.0 v.nodes in
    let depths = take-take a.variables b.variables g.depths le.1 in
    let assigned = oldest-oldest a.entries b.entries g.assigned le.2 v.entries in
    λ i. record { nodes = nodes i; depths = depths i; assigned = assigned i }

-- going back to a mark, and then to an earlier one, is going back to the earlier one
pub undone-twice : (a b : Mark) (w : World) → IsWithin b w → IsWithin a (undone b w) → undone a (undone b w) ≡ undone a w
undone-twice a b w v u =
    let heap = heap-twice a.heap b.heap w.heap v.heap u.heap in
    let frames = oldest-oldest a.frames b.frames w.frames (omega (arith, u.frames, oldest-length b.frames w.frames v.frames)) v.frames in
    let path = oldest-oldest a.path b.path w.path (omega (arith, u.path, oldest-length b.path w.path v.path)) v.path in
    let log = oldest-oldest a.store.events b.store.events w.log (omega (arith, u.log, oldest-length b.store.events w.log v.log)) v.log in
    λ i. record { heap = heap i; frames = frames i; path = path i; log = log i; query = w.query; base = w.base }

pub within-twice : (a b : Mark) (w : World) → IsWithin b w → IsWithin a (undone b w) → IsWithin a w
within-twice a b w v u = record {
  heap = heap-within a.heap b.heap w.heap v.heap u.heap;
  frames = omega (arith, u.frames, v.frames, oldest-length b.frames w.frames v.frames);
  path = omega (arith, u.path, v.path, oldest-length b.path w.path v.path);
  log = omega (arith, u.log, v.log, oldest-length b.store.events w.log v.log);
}

-- going back to now is nothing
pub undone-now : (w : World) → undone (mark_of w) w ≡ w
undone-now w =
    let heap = growth.undo_now w.heap in
    let frames = oldest-all w.frames in
    let path = oldest-all w.path in
    let log = oldest-all w.log in
    λ i. record { heap = heap i; frames = frames i; path = path i; log = log i; query = w.query; base = w.base }

pub within-now : (w : World) → IsWithin (mark_of w) w
within-now w = record { heap = record { nodes = omega arith; variables = omega arith; entries = omega arith }; frames = omega arith; path = omega arith; log = omega arith }

-- what stays names nothing that is dropped, wherever going back leaves the same
pub closed-same : (m : HeapMark) (g h : Graph) → heap.undone m h ≡ heap.undone m g → heap.IsClosed m g → heap.IsClosed m h
closed-same m g h e c = record {
  nodes = subst (λ z. AllMade m.variables z.nodes) (sym e) c.nodes;
  assigned = subst (λ z. AllAssigned m.nodes m.variables z.assigned) (sym e) c.assigned;
}

pub keeps-trans : (m : Mark) (u v w : World) → Keeps m u v → Keeps m v w → Keeps m u w
keeps-trans m u v w a b = record { within = b.within; same = b.same ∙ a.same }

-- a growth of the heap keeps each mark
pub growth-keeps : (w w' : World) (s t : List Change) (m : Mark) → Grows w.heap w'.heap s t → LeavesRest w w' → IsWithin m w → Keeps m w w'
growth-keeps w w' s t m g r v =
    let heap = growth.ignores_growth w.heap w'.heap s t m.heap g v.heap in
    let log = ap (oldest m.store.events) r.later.is ∙ oldest-append r.later.more w.log m.store.events v.log in
    record {
      within = record {
        heap = growth-within w.heap w'.heap s t m.heap g v.heap;
        frames = omega (arith, v.frames, ap length r.frames);
        path = omega (arith, v.path, ap length r.path);
        log = omega (arith, v.log, ap length r.later.is, length-append r.later.more w.log);
      };
      same = λ i. record { heap = heap i; frames = oldest m.frames (r.frames i); path = oldest m.path (r.path i); log = log i; query = r.query i; base = r.base i };
    }
  where
    growth-within : (g h : Graph) (s t : List Change) (m : HeapMark) → Grows g h s t → heap.IsWithin m g → heap.IsWithin m h
    growth-within g h s t m w v = record {
      nodes = omega (arith, v.nodes, ap length w.nodes, length-append w.new_nodes g.nodes);
      variables = omega (arith, v.variables, ap length w.depths, length-append g.depths w.new_depths);
      entries = omega (arith, v.entries, ap length w.assigned, length-append w.new_assigned g.assigned);
    }
