use Rattle.std.proofs.Common.{◌≡◌, [], take}
use Rattle.level_terms.specs.Growth.{Grows}
use Rattle.level_terms.specs.Reading.{read}
use Rattle.beta_fragment.specs.Names.{names}
use Rattle.beta_fragment.specs.inside.Standing.{ArePut}
use Rattle.beta_fragment.proofs.standing.put_each.Given as goal

abbrev pub invariant-loop-t : goal.invariant-loop-t
invariant-loop-t l = record {
  put : ArePut l.fn.heap l.heap l.depth (read l.fn.heap l.put.index names) (take l.t-index l.ts) l.list;
  variables : l.heap.depths ≡ l.fn.heap.depths;
  grows : Grows l.fn.heap l.heap [] [];
}
