use Rattle.std.proofs.Common.{sym, ap, ◌∙◌, subst}
use Rattle.beta_fragment.specs.Names.{names}
use Rattle.level_terms.specs.Reading.{read}
use Rattle.pattern_unify.specs.inside.Sides.{shape_at, IsSideAt}
use Rattle.pattern_unify.specs.declared.side.Side.{Side}
use Rattle.pattern_unify.proofs.SideLemmas.{form-shape, form-side}
use Rattle.pattern_unify.proofs.side.side_of.Goals as goal

pub returns-clause-shape : goal.returns-clause-shape
returns-clause-shape c =
    form-shape c.whnf.new.heap c.args.mark.index c.args.depth (read c.args.heap.now c.args.t.index names) c.in_ok-form.form c.in_ok-form.ensures.form
    ∙ ap (shape_at c.whnf.new.heap) (sym c.side_in.ensures)

pub returns-clause-side : goal.returns-clause-side
returns-clause-side c =
    subst (λ (s : Side). IsSideAt c.whnf.new.heap c.args.mark.index c.args.depth s) (sym c.side_in.ensures)
    (form-side c.whnf.new.heap c.args.mark.index c.args.depth (read c.args.heap.now c.args.t.index names) c.in_ok-form.form c.in_ok-form.ensures.form)
