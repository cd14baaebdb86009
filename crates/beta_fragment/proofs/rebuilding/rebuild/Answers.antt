use Rattle.std.proofs.Common.{◌≡◌, [], refl, ap, ◌∙◌}
use Rattle.std.proofs.lemmas.Result.{IfOk-weaker}
use Rattle.level_terms.proofs.GrowthLemmas.{grows-refl}
use Rattle.ref_terms.specs.terms.Occurs.{occurs}
use Rattle.beta_fragment.specs.inside.Cells.{terms_of, term_at}
use Rattle.beta_fragment.proofs.RebuildLemmas.{rebuilt-quotable, kept-reads, rebuilt-reads}
use Rattle.beta_fragment.proofs.rebuilding.rebuild.Goals as goal

pub returns-in_err-number-clause-grows : goal.returns-in_err-number-clause-grows
returns-in_err-number-clause-grows c = grows-refl c.args.heap.now []

pub quoted-requires-clause-closed : goal.quoted-requires-clause-closed
quoted-requires-clause-closed c =
    (rebuilt-quotable c.args.heap.now c.args.depth c.args.t.index c.own-levels.result (term_at (terms_of c.evaluated.new.cells) c.in_ok-number.number) c.is_sound.ensures c.requires.valid c.own-levels.ensures.count c.own-levels.ensures.own c.in_ok-number.ensures.reads.term c.in_ok-number.ensures.variables).closed

pub quoted-requires-clause-names : goal.quoted-requires-clause-names
quoted-requires-clause-names c =
    (rebuilt-quotable c.args.heap.now c.args.depth c.args.t.index c.own-levels.result (term_at (terms_of c.evaluated.new.cells) c.in_ok-number.number) c.is_sound.ensures c.requires.valid c.own-levels.ensures.count c.own-levels.ensures.own c.in_ok-number.ensures.reads.term c.in_ok-number.ensures.variables).low

pub returns-clause-reads : goal.returns-clause-reads
returns-clause-reads c = IfOk-weaker c.quoted.result _ _
    (λ r e. rebuilt-reads c.args.heap.now c.args.depth c.args.t.index c.own-levels.result (term_at (terms_of c.evaluated.new.cells) c.in_ok-number.number) _ c.is_sound.ensures c.requires.valid c.own-levels.ensures.count c.own-levels.ensures.own c.in_ok-number.ensures.reads.term c.in_ok-number.ensures.variables e)
    c.quoted.ensures.reads

pub returns-clause-unreached : goal.returns-clause-unreached
returns-clause-unreached c = IfOk-weaker c.quoted.result _ _
    (λ r w v absent. w refl v (ap (occurs v) (kept-reads c.args.heap.now c.args.depth c.args.t.index c.own-levels.result (term_at (terms_of c.evaluated.new.cells) c.in_ok-number.number) c.requires.valid c.own-levels.ensures.own c.in_ok-number.ensures.reads.term) ∙ absent))
    c.quoted.ensures.unreached
