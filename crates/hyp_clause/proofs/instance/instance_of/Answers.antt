use Rattle.std.proofs.Common.{rules, ◌≡◌, [], length}
use Rattle.level_terms.proofs.GrowthLemmas.{grows-refl}
use Rattle.hyp_clause.proofs.InstanceLemmas.{none-put, none-valid}
use Rattle.hyp_clause.proofs.instance.instance_of.Goals as goal

pub returns-then-is_empty-clause-reads : goal.returns-then-is_empty-clause-reads
returns-then-is_empty-clause-reads c =
    let none : length c.args.puts.now ≡ 0 = search rules in
    none-put c.args.heap.now c.args.t.index c.args.from c.args.puts.now none

pub returns-then-is_empty-clause-valid : goal.returns-then-is_empty-clause-valid
returns-then-is_empty-clause-valid c =
    let none : length c.args.puts.now ≡ 0 = search rules in
    none-valid c.args.heap.now c.args.t.index c.args.from c.args.to (length c.args.puts.now) none c.requires.low c.requires.valid

pub returns-then-is_empty-clause-grows : goal.returns-then-is_empty-clause-grows
returns-then-is_empty-clause-grows c = grows-refl c.args.heap.now []
