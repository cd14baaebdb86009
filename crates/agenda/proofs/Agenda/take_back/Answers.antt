use Rattle.std.proofs.Common.{◌≡◌, ◌+◌, ◌-◌, ◌∷◌, reverse, vec_capacity, set, sym, ◌∙◌, ap, refl}
use Rattle.agenda.specs.declared.Change.{Change}
use Rattle.agenda.specs.declared.Change.TheVariants.{Put, Taken}
use Rattle.agenda.proofs.KeptLemmas.{kept-back_put, kept-back_taken, kept-along, reversed-push}
use Rattle.agenda.proofs.Agenda.take_back.Goals as goal

pub overflow_sub-self : goal.overflow_sub-self
overflow_sub-self c =
    let log : reverse c.self.inside.log.items ≡ Put c.in-Some-Put.rule c.in-Some-Put.number ∷ reverse c.pop.new.self.items =
    reversed-push c.pop.new.self.items c.self.inside.log.items c.in-Some-Put.field-0 c.in-Some-Put.ensures.items ∙ ap (λ (change : Change). change ∷ reverse c.pop.new.self.items) c.in-Some-Put.field-0-is in
    (kept-back_put c.self.inside.rules c.self.inside.count (vec_capacity c.self.inside.log) c.in-Some-Put.rule c.in-Some-Put.number (reverse c.pop.new.self.items) c.self.inside.ranks
    (kept-along c.self.inside.rules c.self.inside.count (vec_capacity c.self.inside.log) (vec_capacity c.self.inside.log) (reverse c.self.inside.log.items) (Put c.in-Some-Put.rule c.in-Some-Put.number ∷ reverse c.pop.new.self.items)
    c.self.inside.ranks c.self.inside.ranks (sym log) refl refl c.self.invariant)).2

pub invariant_of-self : goal.invariant_of-self
invariant_of-self c =
    let log : reverse c.self.inside.log.items ≡ Put c.in-Some-Put.rule c.in-Some-Put.number ∷ reverse c.pop.new.self.items =
    reversed-push c.pop.new.self.items c.self.inside.log.items c.in-Some-Put.field-0 c.in-Some-Put.ensures.items ∙ ap (λ (change : Change). change ∷ reverse c.pop.new.self.items) c.in-Some-Put.field-0-is in
    kept-along c.self.inside.rules (c.self.inside.count - 1) (vec_capacity c.self.inside.log) (vec_capacity c.pop.new.self) (reverse c.pop.new.self.items) (reverse c.pop.new.self.items)
    (set c.self.inside.ranks c.in-Some-Put.number (c.in-Some-Put.rule + 1)) c.set.new.self refl c.set.ensures c.in-Some-Put.ensures.capacity
    (kept-back_put c.self.inside.rules c.self.inside.count (vec_capacity c.self.inside.log) c.in-Some-Put.rule c.in-Some-Put.number (reverse c.pop.new.self.items) c.self.inside.ranks
    (kept-along c.self.inside.rules c.self.inside.count (vec_capacity c.self.inside.log) (vec_capacity c.self.inside.log) (reverse c.self.inside.log.items) (Put c.in-Some-Put.rule c.in-Some-Put.number ∷ reverse c.pop.new.self.items)
    c.self.inside.ranks c.self.inside.ranks (sym log) refl refl c.self.invariant)).3

pub invariant_of-self-in-Some-Taken : goal.invariant_of-self-in-Some-Taken
invariant_of-self-in-Some-Taken c =
    let log : reverse c.self.inside.log.items ≡ Taken c.in-Some-Taken.rule c.in-Some-Taken.number ∷ reverse c.pop.new.self.items =
    reversed-push c.pop.new.self.items c.self.inside.log.items c.in-Some-Taken.field-0 c.in-Some-Taken.ensures.items ∙ ap (λ (change : Change). change ∷ reverse c.pop.new.self.items) c.in-Some-Taken.field-0-is in
    kept-along c.self.inside.rules (c.self.inside.count + 1) (vec_capacity c.self.inside.log) (vec_capacity c.pop.new.self) (reverse c.pop.new.self.items) (reverse c.pop.new.self.items)
    (set c.self.inside.ranks c.in-Some-Taken.number c.in-Some-Taken.rule) c.set-in-Some-Taken.new.self refl c.set-in-Some-Taken.ensures c.in-Some-Taken.ensures.capacity
    (kept-back_taken c.self.inside.rules c.self.inside.count (vec_capacity c.self.inside.log) c.in-Some-Taken.rule c.in-Some-Taken.number (reverse c.pop.new.self.items) c.self.inside.ranks
    (kept-along c.self.inside.rules c.self.inside.count (vec_capacity c.self.inside.log) (vec_capacity c.self.inside.log) (reverse c.self.inside.log.items) (Taken c.in-Some-Taken.rule c.in-Some-Taken.number ∷ reverse c.pop.new.self.items)
    c.self.inside.ranks c.self.inside.ranks (sym log) refl refl c.self.invariant)).1
