use Rattle.std.proofs.Common.{◌≡◌, ◌+◌, ◌*◌, ◌<◌, ◌≤◌, List, length, reverse, vec_capacity, set, arith, sym, ◌∙◌, ap, refl}
use Rattle.std.proofs.lemmas.List.{length-reverse}
use Rattle.agenda.specs.declared.Change.{Change}
use Rattle.agenda.specs.Log.{Changes, touched}
use Rattle.agenda.specs.inside.Kept.{IsKept, rank_after, puts}
use Rattle.agenda.proofs.KeptLemmas.{rank-is, kept-reach, kept-puts, kept-along, touched-puts, adds-by_log, later-by_log}
use Rattle.agenda.proofs.Agenda.touch.Goals as goal

pub invariant_of-self-in_err-room_for : goal.invariant_of-self-in_err-room_for
invariant_of-self-in_err-room_for c =
    kept-reach c.self.inside.rules c.self.inside.count (vec_capacity c.self.inside.log) (vec_capacity c.self.inside.log) (reverse c.self.inside.log.items)
    c.self.inside.ranks c.reach.new.self c.reach.ensures.never_less c.reach.ensures.ranks (omega arith) c.self.invariant

pub invariant_of-self-in_err-reserve : goal.invariant_of-self-in_err-reserve
invariant_of-self-in_err-reserve c =
    kept-along c.self.inside.rules c.self.inside.count (vec_capacity c.reserve.new.self) (vec_capacity c.reserve.new.self) (reverse c.self.inside.log.items) (reverse c.reserve.new.self.items)
    c.reach.new.self c.reach.new.self (ap reverse c.reserve.ensures.items) refl refl
    (kept-reach c.self.inside.rules c.self.inside.count (vec_capacity c.self.inside.log) (vec_capacity c.reserve.new.self) (reverse c.self.inside.log.items)
    c.self.inside.ranks c.reach.new.self c.reach.ensures.never_less c.reach.ensures.ranks c.reserve.ensures.capacity c.self.invariant)

pub invariant_of-self-2 : goal.invariant_of-self-2
invariant_of-self-2 c =
    let kept : IsKept c.self.inside.rules (reverse c.self.inside.log.items) c.reach.new.self c.self.inside.count (vec_capacity c.reserve.new.self) =
    kept-reach c.self.inside.rules c.self.inside.count (vec_capacity c.self.inside.log) (vec_capacity c.reserve.new.self) (reverse c.self.inside.log.items)
    c.self.inside.ranks c.reach.new.self c.reach.ensures.never_less c.reach.ensures.ranks c.reserve.ensures.capacity c.self.invariant in
    let within : c.args.id < length c.reach.new.self = omega (arith, c.in-Some.ensures, c.in_ok-reach.ensures.ok) in
    let is : rank_after c.self.inside.rules (reverse c.self.inside.log.items) c.args.id ≡ c.rank-missing.result =
    sym (rank-is c.self.inside.rules c.self.inside.count (vec_capacity c.reserve.new.self) c.args.id (reverse c.self.inside.log.items) c.reach.new.self kept within) ∙ sym c.rank-missing.ensures in
    let room : length (reverse c.self.inside.log.items) + (2 * c.rank-missing.result + c.self.inside.count) ≤ vec_capacity c.reserve.new.self =
    omega (arith, c.in_ok-reserve.ensures.ok, c.in_ok-room_for.ensures, c.reserve.ensures.len, length-reverse c.self.inside.log.items, c.self.inside.log.ok.0) in
    kept-along c.self.inside.rules (c.self.inside.count + c.rank-missing.result) (vec_capacity c.reserve.new.self) (vec_capacity c.note_all.new.log)
    (puts c.rank-missing.result c.args.id (reverse c.self.inside.log.items)) (reverse c.note_all.new.log.items)
    (set c.reach.new.self c.args.id 0) c.set.new.self
    (c.note_all.ensures.log ∙ ap (λ (items : List Change). puts c.rank-missing.result c.args.id (reverse items)) c.reserve.ensures.items)
    c.set.ensures c.note_all.ensures.room
    (kept-puts c.self.inside.rules c.self.inside.count (vec_capacity c.reserve.new.self) c.rank-missing.result c.args.id (reverse c.self.inside.log.items) c.reach.new.self within is room kept)

pub returns-clause-log : goal.returns-clause-log
returns-clause-log c =
    let kept : IsKept c.self.inside.rules (reverse c.self.inside.log.items) c.reach.new.self c.self.inside.count (vec_capacity c.reserve.new.self) =
    kept-reach c.self.inside.rules c.self.inside.count (vec_capacity c.self.inside.log) (vec_capacity c.reserve.new.self) (reverse c.self.inside.log.items)
    c.self.inside.ranks c.reach.new.self c.reach.ensures.never_less c.reach.ensures.ranks c.reserve.ensures.capacity c.self.invariant in
    let within : c.args.id < length c.reach.new.self = omega (arith, c.in-Some.ensures, c.in_ok-reach.ensures.ok) in
    let is : rank_after c.self.inside.rules (reverse c.self.inside.log.items) c.args.id ≡ c.rank-missing.result =
    sym (rank-is c.self.inside.rules c.self.inside.count (vec_capacity c.reserve.new.self) c.args.id (reverse c.self.inside.log.items) c.reach.new.self kept within) ∙ sym c.rank-missing.ensures in
    c.note_all.ensures.log
    ∙ (ap (λ (items : List Change). puts c.rank-missing.result c.args.id (reverse items)) c.reserve.ensures.items
    ∙ (touched-puts c.self.inside.rules (length c.reach.new.self) c.rank-missing.result c.args.id (reverse c.self.inside.log.items) within is kept.stepwise
    ∙ ap (λ (agenda : Changes). touched agenda.rules c.args.id agenda.log) c.self.view_is))

pub returns-clause-pairs : goal.returns-clause-pairs
returns-clause-pairs c = adds-by_log c.args.self.now.rules c.args.id c.args.self.now.log (reverse c.note_all.new.log.items) (returns-clause-log c)

pub returns-clause-later : goal.returns-clause-later
returns-clause-later c = later-by_log c.args.self.now.rules c.args.id c.args.self.now.log (reverse c.note_all.new.log.items) (returns-clause-log c)
