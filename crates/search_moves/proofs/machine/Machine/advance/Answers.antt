use Rattle.std.proofs.Common.{◌≡◌, sym, ◌∙◌}
use Rattle.ref_terms.specs.search.Program.{Program}
use Rattle.search_moves.specs.declared.machine.Event.{Event}
use Rattle.search_moves.specs.World.{code_nodes}
use Rattle.ref_terms.specs.search.State.{Failure, stops, faults}
use Rattle.ref_terms.specs.search.Next.{next, retry}
use Rattle.ref_terms.specs.unification.Unification.{unify}
use Rattle.search_moves.specs.declared.machine.Event.TheVariants as event
use Rattle.search_moves.specs.Machine.{state_of, alternatives_of, HasMoved}
use Rattle.search_moves.proofs.MoveLemmas.{if-ok, moved-as, next-answered, next-failed, next-exhausted, next-broken, exhausted, broken}
use Rattle.search_moves.proofs.machine.Machine.advance.Goals as goal

pub returns-in-Answered-clause-moved : goal.returns-in-Answered-clause-moved
returns-in-Answered-clause-moved g c =
    let old = c.args.self.now in
    let new = c.retry.new.self in
    if-ok c.retry.result
    (λ (e : Event). (p : Program) → g.C.Clauses.stands (code_nodes old.world) c.args.code.now p → HasMoved p (retry unify p (alternatives_of p old)) e new)
    (λ (e : Event). (p : Program) → g.C.Clauses.stands (code_nodes old.world) c.args.code.now p → g.R.Rules.stands (code_nodes old.world) c.args.rules.now p → p.symbols ≡ c.args.symbols.now → HasMoved p (next unify p (state_of p old)) e new)
    (λ e h p stands rules known. moved-as p (next unify p (state_of p old)) (retry unify p (alternatives_of p old)) e new (next-answered p old (sym c.phase.ensures ∙ c.in-Answered.is)) (h p stands))
    c.retry.ensures.moved

pub returns-in-Failed-clause-moved : goal.returns-in-Failed-clause-moved
returns-in-Failed-clause-moved g c =
    let old = c.args.self.now in
    let new = c.retry-in-Failed.new.self in
    if-ok c.retry-in-Failed.result
    (λ (e : Event). (p : Program) → g.C.Clauses.stands (code_nodes old.world) c.args.code.now p → HasMoved p (retry unify p (alternatives_of p old)) e new)
    (λ (e : Event). (p : Program) → g.C.Clauses.stands (code_nodes old.world) c.args.code.now p → g.R.Rules.stands (code_nodes old.world) c.args.rules.now p → p.symbols ≡ c.args.symbols.now → HasMoved p (next unify p (state_of p old)) e new)
    (λ e h p stands rules known. moved-as p (next unify p (state_of p old)) (retry unify p (alternatives_of p old)) e new (next-failed p old (sym c.phase.ensures ∙ c.in-Failed.is)) (h p stands))
    c.retry-in-Failed.ensures.moved

pub returns-in-Exhausted-clause-moved : goal.returns-in-Exhausted-clause-moved
returns-in-Exhausted-clause-moved g c = λ p stands rules known.
    let old = c.args.self.now in
    let is = sym c.phase.ensures ∙ c.in-Exhausted.is in
    moved-as p (next unify p (state_of p old)) (stops Failure) event.Failure old (next-exhausted p old is) (exhausted p old is)

pub returns-in-Broken-clause-moved : goal.returns-in-Broken-clause-moved
returns-in-Broken-clause-moved g c = λ p stands rules known.
    let old = c.args.self.now in
    let is = sym c.phase.ensures ∙ c.in-Broken.is in
    moved-as p (next unify p (state_of p old)) (faults c.in-Broken.e) (event.Fault c.in-Broken.e) old (next-broken p old c.in-Broken.e is) (broken p old c.in-Broken.e is)
