use Rattle.std.proofs.Common.{◌≡◌, ◌≤◌, ◌-◌, ◌+◌, length, reverse, map, drop, vec_len}
use Rattle.level_terms.specs.Growth.{changes_of}
use Rattle.level_terms.specs.HeapView.{IsConsistent, IsMarked, assigned_all}
use Rattle.level_terms.proofs.heap.Heap.undo.Given as goal

abbrev pub invariant-loop-self : goal.invariant-loop-self
invariant-loop-self l = record {
  consistent : IsConsistent l.self-inside;
  marked : IsMarked l.self-inside;
  nodes : reverse l.self-inside.nodes.items ≡ l.fn.self.nodes;
  depths : map (λ c. c.depth) l.self-inside.cells.items ≡ l.fn.self.depths;
  assigned : assigned_all l.self-inside.bindings.items ≡ drop (length l.fn.self.assigned - vec_len l.self-inside.bindings) l.fn.self.assigned;
  few : vec_len l.self-inside.bindings ≤ length l.fn.self.assigned;
  many : l.m.entries ≤ vec_len l.self-inside.bindings;
  own : l.trail.entries ≡ changes_of (assigned_all l.self-inside.bindings.items);
  spare : l.trail.spare + length l.trail.entries ≡ l.fn.trail.spare + length l.fn.trail.entries;
}

abbrev pub decreases-loop-self : goal.decreases-loop-self
decreases-loop-self l = vec_len l.self-inside.bindings
