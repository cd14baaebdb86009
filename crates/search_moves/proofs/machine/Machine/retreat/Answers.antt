use Rattle.std.proofs.Common.{reverse, ap, ◌∙◌}
use Rattle.search_moves.specs.declared.frame.Saved.{Saved}
use Rattle.search_moves.specs.declared.frame.Left.TheVariants.{Side}
use Rattle.search_moves.specs.World.{undone, code_nodes}
use Rattle.search_moves.specs.Reading.{alternatives_in}
use Rattle.search_moves.proofs.CodeLemmas.{code-undone}
use Rattle.search_moves.proofs.SavedLemmas.{popped-reads}
use Rattle.search_moves.proofs.machine.Machine.retreat.Goals as goal

pub returns-clause-alternatives : goal.returns-clause-alternatives
returns-clause-alternatives c = λ p.
    let a : Saved = record { mark = c.args.mark; first = c.args.first; left = Side } in
    ap (λ w. alternatives_in p w (reverse c.self.inside.choices)) c.undo.ensures
    ∙ ap (λ m. alternatives_in p (undone c.args.mark m.world) m.saved) c.self.view_is
    ∙ popped-reads p c.args.self.now.world a c.args.self.now.saved c.requires

pub returns-clause-code : goal.returns-clause-code
returns-clause-code c =
    ap code_nodes c.undo.ensures ∙ ap (λ m. code_nodes (undone c.args.mark m.world)) c.self.view_is
    ∙ code-undone c.args.mark c.args.self.now.world c.args.first c.requires.0.within c.requires.0.fine
