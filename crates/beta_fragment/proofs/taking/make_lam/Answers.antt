use Rattle.std.proofs.Common.{length, reverse, subst}
use Rattle.ref_terms.specs.terms.Term as term
use Rattle.beta_fragment.specs.inside.Cells.{terms_of, term_at}
use Rattle.beta_fragment.specs.inside.Taking.{AllThere}
use Rattle.beta_fragment.proofs.KeptLemmas.{added-kept, added-gains}
use Rattle.beta_fragment.proofs.TakingSteps.{pushed, pushed-there, done-there, makes-lam}
use Rattle.beta_fragment.proofs.taking.make_lam.Goals as goal

pub returns-clause-gains : goal.returns-clause-gains
returns-clause-gains c = added-gains (terms_of c.args.cells.now) (terms_of c.add.new.self) (term.Lam (term_at (terms_of c.args.cells.now) c.in-Some.body)) c.in_ok-r-in-Some.ensures.added

pub returns-clause-done : goal.returns-clause-done
returns-clause-done c =
    let body = term.Lam (term_at (terms_of c.args.cells.now) c.in-Some.body) in
    let kept = added-kept (terms_of c.args.cells.now) (terms_of c.add.new.self) body c.in_ok-r-in-Some.r c.in_ok-r-in-Some.ensures.number c.in_ok-r-in-Some.ensures.added in
    let gains = added-gains (terms_of c.args.cells.now) (terms_of c.add.new.self) body c.in_ok-r-in-Some.ensures.added in
    let first = subst (AllThere (length (terms_of c.args.cells.now))) (pushed c.pop.new.self.items c.args.done.now.items c.in-Some.body c.in-Some.ensures.items) c.requires.done in
    pushed-there (terms_of c.add.new.self) c.pop.new.self.items c.push.new.self.items c.in_ok-r-in-Some.r c.in_ok-push-in-Some.ensures.items kept.there
    (done-there (terms_of c.args.cells.now) (terms_of c.add.new.self) (reverse c.pop.new.self.items) gains first.1)

pub returns-clause-steps : goal.returns-clause-steps
returns-clause-steps c = λ work.
    let body = term.Lam (term_at (terms_of c.args.cells.now) c.in-Some.body) in
    let kept = added-kept (terms_of c.args.cells.now) (terms_of c.add.new.self) body c.in_ok-r-in-Some.r c.in_ok-r-in-Some.ensures.number c.in_ok-r-in-Some.ensures.added in
    let gains = added-gains (terms_of c.args.cells.now) (terms_of c.add.new.self) body c.in_ok-r-in-Some.ensures.added in
    makes-lam (terms_of c.args.cells.now) (terms_of c.add.new.self) work c.args.done.now.items c.pop.new.self.items c.push.new.self.items c.in-Some.body c.in_ok-r-in-Some.r gains c.requires.done kept c.in-Some.ensures.items c.in_ok-push-in-Some.ensures.items
