use Rattle.std.proofs.Common.{◌≡◌, ◌≤◌, ◌++◌, length, map, reverse, drop, []}
use Rattle.level_terms.specs.Graph.{node_at}
use Rattle.level_terms.specs.Reading.{read}
use Rattle.level_terms.specs.Growth.{Grows}
use Rattle.beta_fragment.specs.Names.{renamed}
use Rattle.beta_fragment.specs.HeadForm.{AllValidAt, all_read}
use Rattle.beta_fragment.specs.inside.Spine.{args_in}
use Rattle.beta_fragment.proofs.head.push_args.Given as goal

abbrev pub invariant-loop-i : goal.invariant-loop-i
invariant-loop-i l = record {
  within : l.i ≤ length (args_in (node_at l.fn.heap.nodes l.t.index));
  reads : all_read l.heap (reverse l.args.items) ≡ map (λ a. read l.fn.heap a.index (renamed l.levels)) (drop l.i (args_in (node_at l.fn.heap.nodes l.t.index))) ++ all_read l.fn.heap (reverse l.fn.args.items);
  valid : AllValidAt l.heap (reverse l.args.items) l.depth;
  variables : l.heap.depths ≡ l.fn.heap.depths;
  grows : Grows l.fn.heap l.heap [] [];
}

abbrev pub decreases-loop-i : goal.decreases-loop-i
decreases-loop-i l = l.i
