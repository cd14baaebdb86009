use Rattle.std.proofs.Common.{List, ℕ, ◌≡◌, ◌∷◌, ◌∙◌, ap, length, reverse, subst}
use Rattle.ref_terms.specs.terms.Term as term
use Rattle.beta_fragment.specs.inside.Cells.{terms_of, term_at}
use Rattle.beta_fragment.specs.inside.Taking.{AllThere}
use Rattle.beta_fragment.proofs.KeptLemmas.{added-kept, added-gains}
use Rattle.beta_fragment.proofs.TakingSteps.{pushed, pushed-there, done-there, makes-app}
use Rattle.beta_fragment.proofs.taking.make_app.Goals as goal

pub returns-clause-gains : goal.returns-clause-gains
returns-clause-gains c = added-gains (terms_of c.args.cells.now) (terms_of c.add.new.self) (term.App (term_at (terms_of c.args.cells.now) c.in-Some-Some.f) (term_at (terms_of c.args.cells.now) c.in-Some-Some.a)) c.in_ok-r-in-Some-Some.ensures.added

pub returns-clause-done : goal.returns-clause-done
returns-clause-done c =
    let whole = term.App (term_at (terms_of c.args.cells.now) c.in-Some-Some.f) (term_at (terms_of c.args.cells.now) c.in-Some-Some.a) in
    let kept = added-kept (terms_of c.args.cells.now) (terms_of c.add.new.self) whole c.in_ok-r-in-Some-Some.r c.in_ok-r-in-Some-Some.ensures.number c.in_ok-r-in-Some-Some.ensures.added in
    let gains = added-gains (terms_of c.args.cells.now) (terms_of c.add.new.self) whole c.in_ok-r-in-Some-Some.ensures.added in
    let two : reverse c.args.done.now.items ≡ c.in-Some-Some.a ∷ c.in-Some-Some.f ∷ reverse c.pop-2.new.self.items =
    pushed c.pop.new.self.items c.args.done.now.items c.in-Some-Some.a c.in-Some-Some.ensures.items ∙ ap (λ (ds : List ℕ). c.in-Some-Some.a ∷ ds) (pushed c.pop-2.new.self.items c.pop.new.self.items c.in-Some-Some.f c.in-Some-Some.ensures'.items) in
    let first = subst (AllThere (length (terms_of c.args.cells.now))) two c.requires.done in
    pushed-there (terms_of c.add.new.self) c.pop-2.new.self.items c.push.new.self.items c.in_ok-r-in-Some-Some.r c.in_ok-push-in-Some-Some.ensures.items kept.there
    (done-there (terms_of c.args.cells.now) (terms_of c.add.new.self) (reverse c.pop-2.new.self.items) gains first.1.1)

pub returns-clause-steps : goal.returns-clause-steps
returns-clause-steps c = λ work.
    let whole = term.App (term_at (terms_of c.args.cells.now) c.in-Some-Some.f) (term_at (terms_of c.args.cells.now) c.in-Some-Some.a) in
    let kept = added-kept (terms_of c.args.cells.now) (terms_of c.add.new.self) whole c.in_ok-r-in-Some-Some.r c.in_ok-r-in-Some-Some.ensures.number c.in_ok-r-in-Some-Some.ensures.added in
    let gains = added-gains (terms_of c.args.cells.now) (terms_of c.add.new.self) whole c.in_ok-r-in-Some-Some.ensures.added in
    makes-app (terms_of c.args.cells.now) (terms_of c.add.new.self) work c.args.done.now.items c.pop.new.self.items c.pop-2.new.self.items c.push.new.self.items c.in-Some-Some.f c.in-Some-Some.a c.in_ok-r-in-Some-Some.r gains c.requires.done kept c.in-Some-Some.ensures.items c.in-Some-Some.ensures'.items c.in_ok-push-in-Some-Some.ensures.items
