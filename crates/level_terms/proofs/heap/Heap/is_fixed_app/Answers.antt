use Rattle.std.proofs.Common.{sym, ◌∙◌}
use Rattle.level_terms.proofs.MarkLemmas.{fixed-app, applied-lam, applied-open}
use Rattle.level_terms.proofs.heap.Heap.is_fixed_app.Goals as goal

pub returns-then-is_lam : goal.returns-then-is_lam
returns-then-is_lam c = applied-lam c.args.self.now.nodes c.args.head.index c.args.args.now (sym c.is_lam.ensures ∙ c.if-is_lam.true)

pub returns-then-is_ground_normal : goal.returns-then-is_ground_normal
returns-then-is_ground_normal c = c.are_fixed.ensures ∙ fixed-app c.args.self.now.nodes c.args.head.index c.args.args.now (sym c.is_lam.ensures ∙ c.if-is_lam.false) (sym c.is_ground_normal.ensures ∙ c.if-is_ground_normal.true)

pub returns : goal.returns
returns c = applied-open c.args.self.now.nodes c.args.head.index c.args.args.now (sym c.is_lam.ensures ∙ c.if-is_lam.false) (sym c.is_ground_normal.ensures ∙ c.if-is_ground_normal.false)
