use Rattle.std.proofs.Common.{length, reverse, sym, ap, ◌∙◌, subst}
use Rattle.search_moves.specs.World.{code_nodes}
use Rattle.search_moves.specs.Saved.{AllSaved, HasLeft}
use Rattle.search_moves.specs.Machine.{alternatives_of}
use Rattle.search_moves.proofs.CodeLemmas.{code-undone}
use Rattle.search_moves.proofs.MachineLemmas.{back-reads, newest-last}
use Rattle.search_moves.proofs.machine.Machine.back.Goals as goal

pub returns-in-Some-clause-some : goal.returns-in-Some-clause-some
returns-in-Some-clause-some c = λ p.
    ap (alternatives_of p) (sym c.self.view_is)
    ∙ back-reads p c.self.inside.stage c.undo.new.self c.self.inside.choices c.pop.new.self c.in-Some.saved c.in-Some.ensures.newest c.self.invariant.saved c.undo.ensures

pub returns-in-Some-clause-left : goal.returns-in-Some-clause-left
returns-in-Some-clause-left c =
    let a = c.in-Some.saved in
    let known = subst (AllSaved c.self.inside.stage) (ap reverse c.in-Some.ensures.newest ∙ newest-last c.pop.new.self a) c.self.invariant.saved in
    subst (λ z. HasLeft z a.first a.left) (sym c.undo.ensures) known.0.left

pub returns-in-Some-clause-fewer : goal.returns-in-Some-clause-fewer
returns-in-Some-clause-fewer c =
    let a = c.in-Some.saved in
    ap (λ m. length m.saved) (sym c.self.view_is) ∙ ap length (ap reverse c.in-Some.ensures.newest ∙ newest-last c.pop.new.self a)

pub returns-in-Some-clause-code : goal.returns-in-Some-clause-code
returns-in-Some-clause-code c =
    let a = c.in-Some.saved in
    let known = subst (AllSaved c.self.inside.stage) (ap reverse c.in-Some.ensures.newest ∙ newest-last c.pop.new.self a) c.self.invariant.saved in
    ap code_nodes c.undo.ensures ∙ code-undone a.mark c.self.inside.stage a.first known.0.within known.0.fine ∙ ap (λ m. code_nodes m.world) c.self.view_is
