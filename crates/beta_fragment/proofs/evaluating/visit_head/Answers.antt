use Rattle.std.proofs.Common.{sym, ◌∙◌}
use Rattle.ref_terms.specs.terms.Term.{At}
use Rattle.beta_fragment.specs.inside.Cells.{terms_of}
use Rattle.beta_fragment.specs.HeadForm.{rigid_head}
use Rattle.beta_fragment.specs.inside.Evaluation.{entries_env}
use Rattle.beta_fragment.proofs.EvaluationLemmas.{steps-done, kept-done, rigid-open, entries-places}
use Rattle.beta_fragment.proofs.evaluating.visit_head.Goals as goal

pub returns-clause-steps : goal.returns-clause-steps
returns-clause-steps c = λ work es u.
    steps-done c.args.heap.now work c.args.node es u (terms_of c.args.cells.now) (terms_of c.kept_cell.new.cells) c.args.done.now.items c.push.new.self.items c.in_ok-r.r
    c.in_ok-push.ensures.items c.in_ok-r.ensures.gains c.requires.done
    (λ can. c.in_ok-r.ensures.kept.term ∙ sym (c.requires.reads (entries_env es u) (entries-places es u)))

pub returns-clause-done : goal.returns-clause-done
returns-clause-done c =
    kept-done c.args.heap.now (terms_of c.args.cells.now) (terms_of c.kept_cell.new.cells) c.args.done.now.items c.push.new.self.items c.in_ok-r.r (At (rigid_head c.args.head))
    c.in_ok-push.ensures.items c.in_ok-r.ensures.gains c.requires.done c.in_ok-r.ensures.kept (rigid-open c.args.heap.now c.args.head)
