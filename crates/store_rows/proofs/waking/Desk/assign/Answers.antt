use Rattle.std.proofs.Common.{◌∙◌, ℕ, [], ap, sym, subst, drop}
use Rattle.level_terms.specs.Growth.{Grows}
use Rattle.level_terms.proofs.ConstantLemmas.{constant_valid, constant_unreached}
use Rattle.suspend.proofs.CallerLemmas.{after-making, growth-gains}
use Rattle.store_rows.proofs.waking.Desk.assign.Goals as goal

pub assign-requires-clause-valid : goal.assign-requires-clause-valid
assign-requires-clause-valid c = constant_valid c.self.inside.heap c.con.new.self c.in_ok-c.c.index (record { 0 = 40 }) _ c.in_ok-c.ensures.ok.0 c.in_ok-c.ensures.ok.1

pub assign-requires-clause-unreached : goal.assign-requires-clause-unreached
assign-requires-clause-unreached c = constant_unreached c.self.inside.heap c.con.new.self c.in_ok-c.c.index (record { 0 = 40 }) _ c.in_ok-c.ensures.ok.0 c.in_ok-c.ensures.ok.1

pub invariant_of-self-2 : goal.invariant_of-self-2
invariant_of-self-2 c =
    let made = after-making ℕ c.self.inside.heap c.con.new.self [] c.self.inside.store c.is_sound.ensures c.con.ensures.grows c.self.invariant in
    let entries = c.since.ensures ∙ ap (λ n. drop n c.assign.new.trail.entries) c.mark-noted.ensures in
    let gains = growth-gains c.con.new.self c.assign.new.self c.reserve.new.self.entries c.assign.new.trail.entries c.assign.ensures.grows in
    c.follow.ensures.keyed c.con.new.self c.is_sound-2.ensures (subst (Grows c.con.new.self c.assign.new.self []) (sym entries) gains) made
