use Rattle.std.proofs.Common.{[]}
use Rattle.level_terms.specs.Reading.{read}
use Rattle.level_terms.proofs.GrowthLemmas.{grows-refl}
use Rattle.beta_fragment.specs.Names.{names}
use Rattle.std.proofs.Common.{ap, ◌∙◌, ◌++◌, List, ℕ}
use Rattle.ref_terms.specs.texts.Text.{symbol}
use Rattle.ref_terms.specs.texts.Answer.{term_line}
use Rattle.goal_run.proofs.LineLemmas.{value-written}
use Rattle.goal_run.proofs.page.write_value.Goals as goal

pub returns-in_err-push_slice-clause-grows : goal.returns-in_err-push_slice-clause-grows
returns-in_err-push_slice-clause-grows c = grows-refl c.args.heap.now []

pub returns-in_err-push_slice-2-clause-grows : goal.returns-in_err-push_slice-2-clause-grows
returns-in_err-push_slice-2-clause-grows c = grows-refl c.args.heap.now []

pub returns-in_err-push_slice-3-clause-grows : goal.returns-in_err-push_slice-3-clause-grows
returns-in_err-push_slice-3-clause-grows c = grows-refl c.args.heap.now []

pub returns-clause-writes : goal.returns-clause-writes
returns-clause-writes c =
    let table = c.args.symbols.now in
    value-written c.args.text.now c.push_slice.new.self c.push_slice-2.new.self c.push_slice-3.new.self c.print_term.new.out c.push_slice-4.new.self c.args.namer.now c.print_term.new.namer
    (symbol table c.args.name.0) (term_line table (read c.args.heap.now c.args.term.index names))
    c.in_ok-push_slice.ensures.ok (c.in_ok-push_slice-2.ensures.ok ∙ ap (λ (t : List ℕ). c.push_slice.new.self ++ t) c.symbol_text.ensures) c.in_ok-push_slice-3.ensures.ok c.in_ok-print_term.ensures.text c.in_ok-print_term.ensures.seen c.in_ok-push_slice-4.ensures.ok
