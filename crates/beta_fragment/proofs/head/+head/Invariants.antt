use Rattle.std.proofs.Common.{◌≡◌, ◌*◌, ◌<◌, ◌+◌, length, [], reverse}
use Rattle.level_terms.specs.Reading.{read}
use Rattle.level_terms.specs.Valid.{IsValid}
use Rattle.level_terms.specs.Growth.{Grows}
use Rattle.level_terms.specs.Reached.{tree, tree_size}
use Rattle.beta_fragment.specs.Names.{names}
use Rattle.beta_fragment.specs.Moves.{IsMove}
use Rattle.beta_fragment.proofs.StandLemmas.{Stands}
use Rattle.beta_fragment.proofs.head.+head.Given as goal

abbrev pub invariant-whnf_within-loop-puts : goal.invariant-whnf_within-loop-puts
invariant-whnf_within-loop-puts l = record {
  spine : Stands l.heap l.depth l.to (reverse l.puts.items) (read l.fn.heap l.fn.t.index names) l.head.index l.levels l.args.items;
  long : l.to ≡ l.depth + length l.puts.items;
  moves : IsMove l.levels l.fixed l.to;
  valid : IsValid l.heap l.head.index (length l.levels);
  there : l.head.index < length l.fn.heap.nodes;
  variables : l.heap.depths ≡ l.fn.heap.depths;
  grows : Grows l.fn.heap l.heap [] [];
}

abbrev pub decreases-whnf_within-loop-puts : goal.decreases-whnf_within-loop-puts
decreases-whnf_within-loop-puts l = tree_size (tree l.fn.heap l.head.index)

abbrev pub decreases-whnf_within : goal.decreases-whnf_within
decreases-whnf_within l = 2 * l.nesting + 1

abbrev pub decreases-takes_first : goal.decreases-takes_first
decreases-takes_first l = 2 * l.nesting
