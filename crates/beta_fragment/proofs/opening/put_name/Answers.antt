use Rattle.std.proofs.Common.{◌+◌, ◌∙◌, [], ap, ap₂, subst, IfSome}
use Rattle.std.proofs.lemmas.Result.{IfOk-weaker}
use Rattle.level_terms.specs.Reading.{read}
use Rattle.level_terms.proofs.GrowthLemmas.{grows-trans}
use Rattle.level_terms.proofs.ValidLemmas.{growth_keeps_valid}
use Rattle.ref_terms.specs.terms.Term.{Term}
use Rattle.ref_terms.specs.terms.Apply.{fill}
use Rattle.beta_fragment.specs.Names.{names}
use Rattle.beta_fragment.specs.Moves.{put_name, Puts}
use Rattle.level_terms.specs.Values.{value_of}
use Rattle.level_terms.proofs.ReadLemmas.{valid-below, grown-reads}
use Rattle.beta_fragment.proofs.FilledLemmas.{puts-reads}
use Rattle.beta_fragment.proofs.opening.put_name.Goals as goal

pub returns-in-Some-clause-reads : goal.returns-in-Some-clause-reads
returns-in-Some-clause-reads c =
    puts-reads c.args.heap.now c.put_node.new.heap c.args.depth c.args.t c.args.put c.in-Some.r c.requires.put c.requires.valid
    (subst (λ o. IfSome o (λ r. Puts c.args.heap.now (read c.args.heap.now c.args.put.index) c.args.depth c.args.t.index (c.args.depth + 1) (value_of c.put_node.new.heap r))) c.in-Some.is c.in_ok-r.ensures.puts)

pub reduced-requires-clause-put : goal.reduced-requires-clause-put
reduced-requires-clause-put c = growth_keeps_valid c.args.heap.now c.put_node.new.heap [] [] c.args.put.index c.args.depth c.is_sound.ensures c.put_node.ensures.grows (valid-below c.args.heap.now c.args.put.index c.args.depth c.requires.put) c.requires.put

pub reduced-requires-clause-valid : goal.reduced-requires-clause-valid
reduced-requires-clause-valid c = growth_keeps_valid c.args.heap.now c.put_node.new.heap [] [] c.args.t.index (c.args.depth + 1) c.is_sound.ensures c.put_node.ensures.grows (valid-below c.args.heap.now c.args.t.index (c.args.depth + 1) c.requires.valid) c.requires.valid

pub returns-clause-reads : goal.returns-clause-reads
returns-clause-reads c =
    let same = grown-reads c.args.heap.now c.put_node.new.heap c.is_sound.ensures c.put_node.ensures.grows c.args.put.index (valid-below c.args.heap.now c.args.put.index c.args.depth c.requires.put) in
    let body = grown-reads c.args.heap.now c.put_node.new.heap c.is_sound.ensures c.put_node.ensures.grows c.args.t.index (valid-below c.args.heap.now c.args.t.index (c.args.depth + 1) c.requires.valid) in
    IfOk-weaker c.reduced.result _ _
    (λ r e. e ∙ ap₂ (λ (s b : Term). fill (put_name c.args.depth s) b) (ap (λ f. f names) same) (ap (λ f. f names) body))
    c.reduced.ensures.reads

pub returns-clause-grows : goal.returns-clause-grows
returns-clause-grows c = grows-trans c.args.heap.now c.put_node.new.heap c.reduced.new.heap [] [] [] c.put_node.ensures.grows c.reduced.ensures.grows
