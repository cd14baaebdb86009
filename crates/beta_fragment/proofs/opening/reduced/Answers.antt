use Rattle.std.proofs.Common.{refl, []}
use Rattle.std.proofs.lemmas.Result.{IfOk-weaker}
use Rattle.level_terms.proofs.GrowthLemmas.{grows-refl}
use Rattle.beta_fragment.specs.inside.Cells.{terms_of, term_at}
use Rattle.beta_fragment.proofs.FilledLemmas.{reduced-quotable, reduced-reads}
use Rattle.beta_fragment.proofs.opening.reduced.Goals as goal

pub returns-in_err-inner-clause-grows : goal.returns-in_err-inner-clause-grows
returns-in_err-inner-clause-grows c = grows-refl c.args.heap.now []

pub returns-in_err-number-clause-grows : goal.returns-in_err-number-clause-grows
returns-in_err-number-clause-grows c = grows-refl c.args.heap.now []

pub quoted-requires-clause-closed : goal.quoted-requires-clause-closed
quoted-requires-clause-closed c =
    (reduced-quotable c.args.heap.now c.args.depth c.in_ok-inner.inner c.args.t.index c.own-levels.result c.own-levels.result (term_at (terms_of c.evaluated.new.cells) c.in_ok-number.number) c.is_sound.ensures c.requires.valid c.in_ok-inner.ensures c.own-levels.ensures.count c.own-levels.ensures.own refl c.in_ok-number.ensures.reads.term c.in_ok-number.ensures.variables).closed

pub quoted-requires-clause-names : goal.quoted-requires-clause-names
quoted-requires-clause-names c =
    (reduced-quotable c.args.heap.now c.args.depth c.in_ok-inner.inner c.args.t.index c.own-levels.result c.own-levels.result (term_at (terms_of c.evaluated.new.cells) c.in_ok-number.number) c.is_sound.ensures c.requires.valid c.in_ok-inner.ensures c.own-levels.ensures.count c.own-levels.ensures.own refl c.in_ok-number.ensures.reads.term c.in_ok-number.ensures.variables).low

pub returns-clause-reads : goal.returns-clause-reads
returns-clause-reads c = IfOk-weaker c.quoted.result _ _
    (λ r e. reduced-reads c.args.heap.now c.quoted.new.heap c.args.depth c.in_ok-inner.inner c.args.t c.args.put r c.own-levels.result c.own-levels.result (term_at (terms_of c.evaluated.new.cells) c.in_ok-number.number) c.requires.valid c.in_ok-inner.ensures c.own-levels.ensures.own refl c.in_ok-number.ensures.reads.term e)
    c.quoted.ensures.reads
