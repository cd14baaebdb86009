use Rattle.std.proofs.Common.{◌≡◌, length, replicate, false, unwrap_or, sym, ap, ◌∙◌}
use Rattle.std.proofs.Common.{◌∷◌, Option, MatchOption}
use Rattle.ref_terms.specs.unification.Unification.{unify}
use Rattle.ref_terms.specs.search.Program.{Program}
use Rattle.ref_terms.specs.search.Next.{retry}
use Rattle.search_moves.specs.declared.frame.Left.TheVariants.{Call as LeftCall}
use Rattle.search_moves.specs.declared.machine.Event.{Event}
use Rattle.search_moves.specs.World.{code_nodes}
use Rattle.search_moves.specs.Reading.{left_at}
use Rattle.search_moves.specs.Machine.{branch_of, alternatives_of, HasMoved}
use Rattle.search_moves.proofs.MoveLemmas.{if-ok}
use Rattle.search_moves.proofs.machine.Machine.go_on_with.Goals as goal

pub try_later-requires-clause-call : goal.try_later-requires-clause-call
try_later-requires-clause-call g c = record { first = c.requires.first; args = c.requires.valid; head = c.requires.head; arguments = c.requires.arguments }

pub try_later-requires-in-None-clause-call : goal.try_later-requires-in-None-clause-call
try_later-requires-in-None-clause-call g c = record { first = c.requires.first; args = c.requires.valid; head = c.requires.head; arguments = c.requires.arguments }

pub returns-in-Some-clause-moved : goal.returns-in-Some-clause-moved
returns-in-Some-clause-moved g c =
    let old = c.args.self.now in
    let new = c.try_later.new.self in
    let left = LeftCall c.args.c c.args.later.now in
    if-ok c.try_later.result _
    (λ (o : Option Event). (p : Program) → g.C.Clauses.stands (code_nodes old.world) c.args.code.now p → MatchOption o (retry unify p (left_at p (branch_of old) left ∷ alternatives_of p old) ≡ retry unify p (alternatives_of p new)) (λ e. HasMoved p (retry unify p (left_at p (branch_of old) left ∷ alternatives_of p old)) e new))
    (λ o h p stands. h p stands (sym (ap (λ x. unwrap_or x (replicate (length c.args.args.now) false)) (c.in-Some.ensures _ p stands))))
    c.try_later.ensures.moved

pub returns-in_ok-outputs-in-None-clause-moved : goal.returns-in_ok-outputs-in-None-clause-moved
returns-in_ok-outputs-in-None-clause-moved g c =
    let old = c.args.self.now in
    let new = c.try_later-in-None.new.self in
    let left = LeftCall c.args.c c.args.later.now in
    if-ok c.try_later-in-None.result _
    (λ (o : Option Event). (p : Program) → g.C.Clauses.stands (code_nodes old.world) c.args.code.now p → MatchOption o (retry unify p (left_at p (branch_of old) left ∷ alternatives_of p old) ≡ retry unify p (alternatives_of p new)) (λ e. HasMoved p (retry unify p (left_at p (branch_of old) left ∷ alternatives_of p old)) e new))
    (λ o h p stands. h p stands (c.as_slice.ensures.value ∙ c.in_ok-outputs-in-None.ensures ∙ sym (ap (λ x. unwrap_or x (replicate (length c.args.args.now) false)) (c.in-None.ensures _ p stands))))
    c.try_later-in-None.ensures.moved
