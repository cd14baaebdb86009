use Rattle.std.proofs.Common.{length, Some, ap, ◌∙◌}
use Rattle.level_terms.proofs.MarkLemmas.{look-lam, look-other}
use Rattle.level_terms.proofs.heap.Heap.is_lam.Goals as goal

pub returns-in-Lam : goal.returns-in-Lam
returns-in-Lam c = look-lam (length c.args.self.now.depths) c.args.self.now.nodes c.is_sound.ensures.made c.args.t.index c.in-Lam.depth c.in-Lam.body (c.view.ensures ∙ ap Some c.in-Lam.is)

pub returns-in_default : goal.returns-in_default
returns-in_default c = look-other (length c.args.self.now.depths) c.args.self.now.nodes c.is_sound.ensures.made c.args.t.index c.view.result.now c.view.ensures (λ d b e. c.in_default.not-Lam d b e)
