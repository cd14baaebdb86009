use Rattle.std.proofs.Common.{length, reverse}
use Rattle.beta_fragment.specs.inside.Cells.{terms_of}
use Rattle.beta_fragment.proofs.TakingSteps.{part-steps, raised-steps}
use Rattle.beta_fragment.proofs.taking.visit_part.Goals as goal

pub returns-then-k-eq0-clause-steps : goal.returns-then-k-eq0-clause-steps
returns-then-k-eq0-clause-steps c =
    part-steps c.args.put (terms_of c.args.cells.now) (reverse c.args.work.now.items) c.args.done.now.items c.push.new.self.items c.args.part c.args.under c.args.p c.args.k c.requires.done c.requires.becomes c.if-k-eq0.true c.requires.there c.in_ok-push.ensures.items

pub returns-clause-steps : goal.returns-clause-steps
returns-clause-steps c =
    raised-steps c.args.put (terms_of c.args.cells.now) c.args.work.now.items c.push-2.new.self.items (reverse c.args.done.now.items) c.args.part c.args.under c.args.p c.args.k c.requires.is_part c.requires.head c.requires.becomes c.in_ok-push-2.ensures.items
