use Rattle.ref_terms.specs.terms.Term as term
use Rattle.beta_fragment.specs.inside.Cells.{terms_of}
use Rattle.beta_fragment.proofs.KeptLemmas.{added-kept, added-gains}
use Rattle.beta_fragment.proofs.TakingSteps.{pushed-there, done-there, kept-steps}
use Rattle.std.proofs.Common.{reverse}
use Rattle.beta_fragment.proofs.taking.visit_other_index.Goals as goal

pub returns-in_err-push-clause-gains : goal.returns-in_err-push-clause-gains
returns-in_err-push-clause-gains c = added-gains (terms_of c.args.cells.now) (terms_of c.add.new.self) (term.At (term.Bound c.args.j)) c.in_ok-r.ensures.added

pub returns-clause-gains : goal.returns-clause-gains
returns-clause-gains c = added-gains (terms_of c.args.cells.now) (terms_of c.add.new.self) (term.At (term.Bound c.args.j)) c.in_ok-r.ensures.added

pub returns-clause-done : goal.returns-clause-done
returns-clause-done c =
    let kept = added-kept (terms_of c.args.cells.now) (terms_of c.add.new.self) (term.At (term.Bound c.args.j)) c.in_ok-r.r c.in_ok-r.ensures.number c.in_ok-r.ensures.added in
    let gains = added-gains (terms_of c.args.cells.now) (terms_of c.add.new.self) (term.At (term.Bound c.args.j)) c.in_ok-r.ensures.added in
    pushed-there (terms_of c.add.new.self) c.args.done.now.items c.push.new.self.items c.in_ok-r.r c.in_ok-push.ensures.items kept.there
    (done-there (terms_of c.args.cells.now) (terms_of c.add.new.self) (reverse c.args.done.now.items) gains c.requires.done)

pub returns-clause-steps : goal.returns-clause-steps
returns-clause-steps c = λ work.
    let kept = added-kept (terms_of c.args.cells.now) (terms_of c.add.new.self) (term.At (term.Bound c.args.j)) c.in_ok-r.r c.in_ok-r.ensures.number c.in_ok-r.ensures.added in
    let gains = added-gains (terms_of c.args.cells.now) (terms_of c.add.new.self) (term.At (term.Bound c.args.j)) c.in_ok-r.ensures.added in
    kept-steps c.args.put (terms_of c.args.cells.now) (terms_of c.add.new.self) work c.args.done.now.items c.push.new.self.items c.args.part c.args.under c.in_ok-r.r (term.At (term.Bound c.args.j)) gains c.requires.done c.requires.becomes kept c.in_ok-push.ensures.items
