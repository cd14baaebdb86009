use Rattle.store_rows.proofs.waking.Desk.withdraw.Goals as goal

pub invariant_of-self : goal.invariant_of-self
invariant_of-self c = c.leave.ensures c.self.inside.heap c.self.invariant
