use Rattle.std.proofs.Common.{◌≡◌, ◌∙◌, ◌∷◌, refl, sym, subst}
use Rattle.level_terms.specs.Valid.{IsValid}
use Rattle.ref_terms.specs.search.Branch.{with_goals}
use Rattle.search_moves.specs.declared.frame.Frame.{Frame}
use Rattle.search_moves.specs.Reading.{goal_in}
use Rattle.search_moves.specs.World.{IsContextAt}
use Rattle.search_moves.specs.Machine.{branch_of}
use Rattle.search_moves.proofs.QuantifierMoves.{exists-moved}
use Rattle.search_moves.proofs.machine.Machine.exists.Goals as goal

pub put-requires-clause-term : goal.put-requires-clause-term
put-requires-clause-term c =
    subst (λ h. IsValid h c.in_ok-opened.opened.term.index c.in_ok-opened.opened.depth) (sym c.take.ensures.heap)
    (subst (λ (f : Frame). IsValid c.applied_to_variable.new.self.world.heap f.term.index f.depth) (sym c.in_ok-opened.ensures) c.in_ok-term.ensures.valid)

pub put-requires-clause-context : goal.put-requires-clause-context
put-requires-clause-context c =
    subst (λ h. IsContextAt h c.in_ok-opened.opened.depth c.in_ok-opened.opened.context) (sym c.take.ensures.heap)
    (subst (λ (f : Frame). IsContextAt c.applied_to_variable.new.self.world.heap f.depth f.context) (sym c.in_ok-opened.ensures) c.applied_to_variable.ensures.first.context)

pub returns-clause-moved : goal.returns-clause-moved
returns-clause-moved c = λ p.
    let g : Frame = record c.args.goal.now { term = c.in_ok-term.term } in
    exists-moved p c.args.self.now c.applied_to_variable.new.self c.take.new.self c.put.new.self c.args.goal.now g c.args.f.index c.requires.first c.applied_to_variable.ensures.first c.in_ok-term.ensures.branch
    c.in_ok-term.ensures.reads refl refl refl c.take.ensures.heap c.take.ensures.branch
    (subst (λ (f : Frame). branch_of c.put.new.self ≡ with_goals (goal_in c.take.new.self.world.heap f ∷ (branch_of c.take.new.self).goals) (branch_of c.take.new.self)) c.in_ok-opened.ensures c.in_ok-put.ensures.branch)
    (c.put.ensures.alternatives p ∙ c.take.ensures.alternatives p ∙ c.applied_to_variable.ensures.alternatives p) (c.put.ensures.phase ∙ c.take.ensures.phase ∙ c.applied_to_variable.ensures.phase ∙ c.requires.running)
