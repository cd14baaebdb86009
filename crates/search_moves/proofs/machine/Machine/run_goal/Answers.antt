use Rattle.std.proofs.Common.{◌≡◌, None, List, sym, subst}
use Rattle.level_terms.specs.declared.node.Node.{Node}
use Rattle.ref_terms.specs.search.Program.{Program}
use Rattle.ref_terms.specs.search.Next.{next}
use Rattle.ref_terms.specs.unification.Unification.{unify}
use Rattle.goal_form.specs.Kinds.{kind_in}
use Rattle.sequent_rules.specs.Instances.{first_of}
use Rattle.search_moves.specs.declared.machine.Event.{Event}
use Rattle.search_moves.specs.World.{code_nodes}
use Rattle.search_moves.specs.Machine.{branch_of, state_of, move_of, HasMoved}
use Rattle.search_moves.proofs.MoveLemmas.{if-ok, goal-moved}
use Rattle.search_moves.proofs.machine.Machine.run_goal.Goals as goal

pub move_by-requires-clause-code : goal.move_by-requires-clause-code
move_by-requires-clause-code g c = (c.requires.code.0, subst (λ (ns : List Node). g.C.Clauses.stands ns c.args.code.now c.requires.code.0) (sym c.kind.ensures.code) c.requires.code.1)

pub returns-clause-moved : goal.returns-clause-moved
returns-clause-moved g c =
    let old = c.args.self.now in
    let m = c.kind.new.self in
    let new = c.move_by.new.self in
    let f = c.args.goal.now in
    let k = c.in_ok-kind.kind in
    if-ok c.move_by.result
    (λ (e : Event). (p : Program) → g.C.Clauses.stands (code_nodes m.world) c.args.code.now p → p.symbols ≡ c.args.symbols.now → HasMoved p (move_of p m f (kind_in m.world.heap k)) e new)
    (λ (e : Event). (p : Program) → g.C.Clauses.stands (code_nodes old.world) c.args.code.now p → p.symbols ≡ c.args.symbols.now → first_of p.rules (branch_of old) ≡ None → HasMoved p (next unify p (state_of p old)) e new)
    (λ e h p stands known none. goal-moved p old m new f (kind_in m.world.heap k) e none c.requires.asleep c.requires.running c.requires.first c.kind.ensures.first c.kind.ensures.goal c.kind.ensures.branch (c.kind.ensures.alternatives p) (sym c.in_ok-kind.ensures.kind.0)
    (h p (subst (λ (ns : List Node). g.C.Clauses.stands ns c.args.code.now p) (sym c.kind.ensures.code) stands) known))
    c.move_by.ensures.moved
