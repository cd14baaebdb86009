use Rattle.std.proofs.Common.{subst, None, Some}
use Rattle.beta_fragment.specs.inside.Cells.{terms_of, term_at, IsKeptIfAny}
use Rattle.beta_fragment.specs.inside.Taking.{replaced, with_first}
use Rattle.beta_fragment.proofs.TakingLaws.{opened-image}
use Rattle.beta_fragment.proofs.taking.opened_term.Goals as goal

pub unreachable-requires : goal.unreachable-requires
unreachable-requires c =
    let some = opened-image (term_at (terms_of c.args.cells.now) c.args.arg) (term_at (terms_of c.args.cells.now) c.args.body) in
    subst (IsKeptIfAny (terms_of c.taken.new.cells) None) some
    (subst (λ o. IsKeptIfAny (terms_of c.taken.new.cells) o (replaced (with_first (term_at (terms_of c.args.cells.now) c.args.arg)) (term_at (terms_of c.args.cells.now) c.args.body))) c.in-None.is c.in_ok-r.ensures.taken)

pub returns-clause-opened : goal.returns-clause-opened
returns-clause-opened c =
    let some = opened-image (term_at (terms_of c.args.cells.now) c.args.arg) (term_at (terms_of c.args.cells.now) c.args.body) in
    subst (IsKeptIfAny (terms_of c.taken.new.cells) (Some c.in-Some.r)) some
    (subst (λ o. IsKeptIfAny (terms_of c.taken.new.cells) o (replaced (with_first (term_at (terms_of c.args.cells.now) c.args.arg)) (term_at (terms_of c.args.cells.now) c.args.body))) c.in-Some.is c.in_ok-r.ensures.taken)
