use Rattle.std.proofs.Common.{◌≡◌, ◌++◌, drop, map, []}
use Rattle.ref_terms.specs.terms.Apply.{fill}
use Rattle.level_terms.specs.Growth.{Grows}
use Rattle.beta_fragment.specs.HeadForm.{all_read, AllValidAt}
use Rattle.beta_fragment.specs.Instantiation.{put_names}
use Rattle.hyp_clause.proofs.instance.instances_of.Given as goal

abbrev pub invariant-loop-i : goal.invariant-loop-i
invariant-loop-i l = record {
  reads : all_read l.heap l.instances.items ++ map (fill (put_names l.from (all_read l.fn.heap l.puts))) (all_read l.fn.heap (drop l.i l.terms)) ≡ map (fill (put_names l.from (all_read l.fn.heap l.puts))) (all_read l.fn.heap l.terms);
  valid : AllValidAt l.heap l.instances.items l.to;
  variables : l.heap.depths ≡ l.fn.heap.depths;
  grows : Grows l.fn.heap l.heap [] [];
}
