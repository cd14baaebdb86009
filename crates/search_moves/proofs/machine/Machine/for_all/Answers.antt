use Rattle.std.proofs.Common.{◌≤◌, ◌∙◌, refl, sym, subst, arith}
use Rattle.level_terms.specs.Valid.{IsValid}
use Rattle.search_moves.specs.declared.frame.Frame.{Frame}
use Rattle.search_moves.specs.World.{IsContextAt}
use Rattle.search_moves.proofs.OwnLemmas.{context-deeper}
use Rattle.search_moves.proofs.QuantifierMoves.{for_all-moved}
use Rattle.search_moves.proofs.machine.Machine.for_all.Goals as goal

pub put-requires-clause-term : goal.put-requires-clause-term
put-requires-clause-term c =
    subst (λ h. IsValid h c.in_ok-term.term.index c.in_ok-depth.depth) (sym c.take.ensures.heap)
    (subst (IsValid c.applied_to_level.new.self.world.heap c.in_ok-term.term.index) (sym c.in_ok-depth.ensures) c.in_ok-term.ensures.valid)

pub put-requires-clause-context : goal.put-requires-clause-context
put-requires-clause-context c =
    let deeper : c.args.goal.now.depth ≤ c.in_ok-depth.depth = omega (arith, c.in_ok-depth.ensures) in
    subst (λ h. IsContextAt h c.in_ok-depth.depth c.in_ok-context.context) (sym c.take.ensures.heap)
    (subst (IsContextAt c.applied_to_level.new.self.world.heap c.in_ok-depth.depth) (sym c.in_ok-context.ensures)
    (context-deeper c.applied_to_level.new.self.world.heap c.args.goal.now.depth c.in_ok-depth.depth c.args.goal.now.context deeper c.applied_to_level.ensures.first.context))

pub returns-clause-moved : goal.returns-clause-moved
returns-clause-moved c = λ p.
    let g : Frame = record { depth = c.in_ok-depth.depth; barrier = c.args.goal.now.barrier; term = c.in_ok-term.term; next = c.args.goal.now.next; context = c.in_ok-context.context } in
    for_all-moved p c.args.self.now c.applied_to_level.new.self c.take.new.self c.put.new.self c.args.goal.now g c.args.f.index c.requires.first c.applied_to_level.ensures.first c.applied_to_level.ensures.branch
    c.in_ok-term.ensures.reads c.in_ok-depth.ensures refl c.in_ok-context.ensures c.take.ensures.heap c.take.ensures.branch c.in_ok-put.ensures.branch
    (c.put.ensures.alternatives p ∙ c.take.ensures.alternatives p ∙ c.applied_to_level.ensures.alternatives p) (c.put.ensures.phase ∙ c.take.ensures.phase ∙ c.applied_to_level.ensures.phase ∙ c.requires.running)
