use Rattle.std.proofs.Common.{◌∙◌, sym, ap₂}
use Rattle.clause_index.specs.declared.lists.Group.TheVariants.{Every, Loose, Keyed}
use Rattle.clause_index.specs.inside.Runs.{run_in, merged}
use Rattle.clause_index.proofs.NumberLemmas.{run-numbers, merged-nil, every-numbers, keyed-numbers}
use Rattle.clause_index.proofs.index.Index.candidates_from.Goals as goal

pub returns-then-fits_every : goal.returns-then-fits_every
returns-then-fits_every c = λ p w.
    merged-nil (run_in c.args.self.now.lists c.run_from.result)
    ∙ run-numbers p c.args.self.now (Every c.args.pred) c.args.from c.run_from.result w c.run_from.ensures
    ∙ every-numbers p c.args.pred c.args.key c.args.from (sym c.fits_every.ensures ∙ c.if-fits_every.true)

pub returns : goal.returns
returns c = λ p w.
    ap₂ merged (run-numbers p c.args.self.now (Keyed c.args.pred c.args.key) c.args.from c.run_from-2.result w c.run_from-2.ensures)
    (run-numbers p c.args.self.now (Loose c.args.pred) c.args.from c.run_from-3.result w c.run_from-3.ensures)
    ∙ keyed-numbers p c.args.pred c.args.key c.args.from (sym c.fits_every.ensures ∙ c.if-fits_every.false)
