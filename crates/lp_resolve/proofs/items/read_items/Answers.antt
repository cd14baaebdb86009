use Rattle.std.proofs.Common.{◌∙◌, [], ap, sym, flat_map, take}
use Rattle.std.proofs.lemmas.List.{take_all}
use Rattle.lp_resolve.specs.ProgramTexts.{item_texts}
use Rattle.lp_resolve.specs.ProgramReading.{item_lines, item_clauses, item_rules}
use Rattle.lp_resolve.proofs.BeginsLemmas.{begins-refl}
use Rattle.lp_resolve.proofs.ReadsAsLemmas.{flat_map_last}
use Rattle.lp_resolve.proofs.PutLemmas.{have_texts-more, have_put-more}
use Rattle.lp_resolve.proofs.items.read_items.Goals as goal

pub loop-item-preserved : goal.loop-item-preserved
loop-item-preserved c = record {
  texts = have_texts-more c.args.items.now c.loop-item.item-index c.item-item.result c.loop-item-test.true c.item-item.is
      item_texts c.args.symbols.now c.loop-item.symbols c.read_item.new.symbols c.loop-item.invariant.texts c.in_ok-read_item.ensures.begins c.in_ok-read_item.ensures.table;
  lines = have_put-more c.args.items.now c.loop-item.item-index c.item-item.result c.loop-item-test.true c.item-item.is
      (λ later. flat_map (item_lines later)) c.loop-item.symbols c.read_item.new.symbols [] c.loop-item.lists.lines c.read_item.new.lists.lines
      (λ later. item_lines later c.item-item.result)
      (λ later. sym (flat_map_last (item_lines later) (take c.loop-item.item-index c.args.items.now) c.item-item.result))
      c.loop-item.invariant.lines c.in_ok-read_item.ensures.begins c.in_ok-read_item.ensures.lines;
  clauses = have_put-more c.args.items.now c.loop-item.item-index c.item-item.result c.loop-item-test.true c.item-item.is
      (λ later. flat_map (item_clauses later)) c.loop-item.symbols c.read_item.new.symbols [] c.loop-item.lists.clauses c.read_item.new.lists.clauses
      (λ later. item_clauses later c.item-item.result)
      (λ later. sym (flat_map_last (item_clauses later) (take c.loop-item.item-index c.args.items.now) c.item-item.result))
      c.loop-item.invariant.clauses c.in_ok-read_item.ensures.begins c.in_ok-read_item.ensures.clauses;
  rules = have_put-more c.args.items.now c.loop-item.item-index c.item-item.result c.loop-item-test.true c.item-item.is
      (λ later. flat_map (item_rules later)) c.loop-item.symbols c.read_item.new.symbols [] c.loop-item.lists.rules c.read_item.new.lists.rules
      (λ later. item_rules later c.item-item.result)
      (λ later. sym (flat_map_last (item_rules later) (take c.loop-item.item-index c.args.items.now) c.item-item.result))
      c.loop-item.invariant.rules c.in_ok-read_item.ensures.begins c.in_ok-read_item.ensures.rules;
}

pub returns-clause-lines : goal.returns-clause-lines
returns-clause-lines c =
    c.loop-item.invariant.lines.is c.loop-item.symbols (begins-refl c.loop-item.symbols)
    ∙ ap (flat_map (item_lines c.loop-item.symbols)) (take_all c.loop-item.item-index c.args.items.now c.loop-item-test.false)

pub returns-clause-clauses : goal.returns-clause-clauses
returns-clause-clauses c =
    c.loop-item.invariant.clauses.is c.loop-item.symbols (begins-refl c.loop-item.symbols)
    ∙ ap (flat_map (item_clauses c.loop-item.symbols)) (take_all c.loop-item.item-index c.args.items.now c.loop-item-test.false)

pub returns-clause-rules : goal.returns-clause-rules
returns-clause-rules c =
    c.loop-item.invariant.rules.is c.loop-item.symbols (begins-refl c.loop-item.symbols)
    ∙ ap (flat_map (item_rules c.loop-item.symbols)) (take_all c.loop-item.item-index c.args.items.now c.loop-item-test.false)
