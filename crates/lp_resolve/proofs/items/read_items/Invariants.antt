use Rattle.std.proofs.Common.{[], flat_map, take}
use Rattle.lp_resolve.specs.ProgramTexts.{item_texts}
use Rattle.lp_resolve.specs.ProgramReading.{item_lines, item_clauses, item_rules}
use Rattle.lp_resolve.proofs.PutLemmas.{HaveTexts, HavePut}
use Rattle.lp_resolve.proofs.items.read_items.Given as goal

abbrev pub invariant-loop-item : goal.invariant-loop-item
invariant-loop-item l = record {
  texts : HaveTexts item_texts l.initial.symbols l.symbols (take l.item-index l.items);
  lines : HavePut (λ later. flat_map (item_lines later)) l.symbols [] (take l.item-index l.items) l.lists.lines;
  clauses : HavePut (λ later. flat_map (item_clauses later)) l.symbols [] (take l.item-index l.items) l.lists.clauses;
  rules : HavePut (λ later. flat_map (item_rules later)) l.symbols [] (take l.item-index l.items) l.lists.rules;
}
