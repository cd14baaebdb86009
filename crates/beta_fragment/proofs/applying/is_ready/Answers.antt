use Rattle.std.proofs.Common.{◌≡◌, length, refl, sym, ap, ◌∙◌, arith}
use Rattle.ref_terms.specs.terms.Ready.{ready}
use Rattle.beta_fragment.specs.inside.Cells.{terms_of, term_at, cell_term}
use Rattle.beta_fragment.proofs.TakingLaws.{ready-app}
use Rattle.beta_fragment.proofs.applying.is_ready.Goals as goal

pub loop-f-init : goal.loop-f-init
loop-f-init c = record { there = c.requires; same = refl }

pub loop-f-preserved : goal.loop-f-preserved
loop-f-preserved c =
    let there = c.loop-f.invariant.there in
    let parts = c.in-App.ensures.parts in
    let low = parts.0 in
    record {
      there = omega (arith, there, low);
      same = sym (ap ready c.in-App.ensures.term ∙ ready-app (term_at (terms_of c.args.cells.now) c.in-App.f) _) ∙ c.loop-f.invariant.same;
    }

pub returns : goal.returns
returns c = sym c.loop-f.invariant.same ∙ ap ready c.get-2.ensures.term ∙ c.is_ready_cell.ensures (terms_of c.args.cells.now)
