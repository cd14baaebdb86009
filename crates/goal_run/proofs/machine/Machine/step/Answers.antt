use Rattle.std.proofs.Common.{ap, subst, sym}
use Rattle.search_moves.specs.World.{code_nodes}
use Rattle.goal_run.specs.inside.Code.{IsCodeFor}
use Rattle.goal_run.specs.Machine.{Machine, Runs}
use Rattle.goal_run.proofs.CodeLemmas.{laid-out, moved-for, if-ok}
use Rattle.goal_run.proofs.machine.Machine.step.Goals as goal

pub returns-clause-moved : goal.returns-clause-moved
returns-clause-moved c = if-ok c.step.result _ _
    (λ e h p runs symbols.
    let stands = laid-out (code_nodes c.self.inside.moves.world) c.self.inside.code p c.self.invariant.laid_out (subst (λ (m : Machine). Runs m p) (sym c.self.view_is) runs) in
    moved-for c.self.inside.moves c.args.self.now.moves _ p e (ap (λ (m : Machine). m.moves) c.self.view_is) (h p stands stands symbols))
    c.step.ensures.moved

pub returns-clause-program : goal.returns-clause-program
returns-clause-program c = λ p runs.
    subst (λ ns. IsCodeFor ns c.self.inside.code.code p) (sym c.step.ensures.code)
    (subst (λ (m : Machine). Runs m p) (sym c.self.view_is) runs)
