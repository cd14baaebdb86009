use Rattle.std.proofs.Common.{◌≡◌, ◌+◌, ◌-◌, [], List, ◌∷◌, length, reverse, vec_capacity, set, arith, sym, ◌∙◌, ap, refl, ◌≤◌, inl, inr}
use Rattle.std.specs.Prelude.{is_some}
use Rattle.std.proofs.lemmas.List.{length-reverse}
use Rattle.agenda.specs.declared.Change.{Change}
use Rattle.agenda.specs.declared.Change.TheVariants.{Taken}
use Rattle.agenda.specs.Log.{pairs_of, pairs_after}
use Rattle.agenda.specs.inside.Ranks.{IsFirst}
use Rattle.agenda.proofs.KeptLemmas.{rank-is, kept-taken, kept-along, first-pair, no-pair, reversed-push}
use Rattle.agenda.proofs.Agenda.next_pair.Goals as goal

pub returns-in_err-first-clause-none : goal.returns-in_err-first-clause-none
returns-in_err-first-clause-none c =
    let empty : length c.self.inside.ranks ≡ 0 = c.in_err-first.ensures.none.0 refl in
    let none : pairs_after (reverse c.self.inside.log.items) ≡ [] =
    no-pair c.self.inside.rules c.self.inside.count (vec_capacity c.self.inside.log) (reverse c.self.inside.log.items) c.self.inside.ranks c.self.invariant
    (λ place within. absurd (omega (arith, within, empty))) in
    (λ _. ap pairs_of (sym c.self.view_is) ∙ none, λ _. ap is_some c.from_residual.ensures)

pub returns-then-first-self-clause-none : goal.returns-then-first-self-clause-none
returns-then-first-self-clause-none c =
    let high : c.self.inside.rules ≤ c.in_ok-first.first.rank = c.if-first-self.true in
    let none : pairs_after (reverse c.self.inside.log.items) ≡ [] =
    no-pair c.self.inside.rules c.self.inside.count (vec_capacity c.self.inside.log) (reverse c.self.inside.log.items) c.self.inside.ranks c.self.invariant
    (λ place within. elim (c.in_ok-first.ensures.first.least place within) [ inl less ↦ omega (arith, less, high) | inr tie ↦ omega (arith, tie.0, high) ]) in
    (λ _. ap pairs_of (sym c.self.view_is) ∙ none, λ _. refl)

pub push_reserved-requires : goal.push_reserved-requires
push_reserved-requires c =
    let first : IsFirst c.self.inside.ranks c.in_ok-first.first = c.in_ok-first.ensures.first in
    let taken = kept-taken c.self.inside.rules c.self.inside.count (vec_capacity c.self.inside.log) c.in_ok-first.first.rank c.in_ok-first.first.place
    (reverse c.self.inside.log.items) c.self.inside.ranks first.within c.if-first-self.false
    (sym (rank-is c.self.inside.rules c.self.inside.count (vec_capacity c.self.inside.log) c.in_ok-first.first.place (reverse c.self.inside.log.items) c.self.inside.ranks c.self.invariant first.within) ∙ first.rank)
    c.self.invariant in
    omega (arith, taken.0, c.self.invariant.room, length-reverse c.self.inside.log.items, c.self.inside.log.ok.0)

pub overflow_sub-self : goal.overflow_sub-self
overflow_sub-self c =
    let first : IsFirst c.self.inside.ranks c.in_ok-first.first = c.in_ok-first.ensures.first in
    let taken = kept-taken c.self.inside.rules c.self.inside.count (vec_capacity c.self.inside.log) c.in_ok-first.first.rank c.in_ok-first.first.place
    (reverse c.self.inside.log.items) c.self.inside.ranks first.within c.if-first-self.false
    (sym (rank-is c.self.inside.rules c.self.inside.count (vec_capacity c.self.inside.log) c.in_ok-first.first.place (reverse c.self.inside.log.items) c.self.inside.ranks c.self.invariant first.within) ∙ first.rank)
    c.self.invariant in
    taken.0

pub invariant_of-self : goal.invariant_of-self
invariant_of-self c =
    let first : IsFirst c.self.inside.ranks c.in_ok-first.first = c.in_ok-first.ensures.first in
    let taken = kept-taken c.self.inside.rules c.self.inside.count (vec_capacity c.self.inside.log) c.in_ok-first.first.rank c.in_ok-first.first.place
    (reverse c.self.inside.log.items) c.self.inside.ranks first.within c.if-first-self.false
    (sym (rank-is c.self.inside.rules c.self.inside.count (vec_capacity c.self.inside.log) c.in_ok-first.first.place (reverse c.self.inside.log.items) c.self.inside.ranks c.self.invariant first.within) ∙ first.rank)
    c.self.invariant in
    kept-along c.self.inside.rules (c.self.inside.count - 1) (vec_capacity c.self.inside.log) (vec_capacity c.push_reserved.new.self)
    (Taken c.in_ok-first.first.rank c.in_ok-first.first.place ∷ reverse c.self.inside.log.items) (reverse c.push_reserved.new.self.items)
    (set c.self.inside.ranks c.in_ok-first.first.place (c.in_ok-first.first.rank + 1)) c.set.new.self
    (reversed-push c.self.inside.log.items c.push_reserved.new.self.items (Taken c.in_ok-first.first.rank c.in_ok-first.first.place) c.push_reserved.ensures.items)
    c.set.ensures c.push_reserved.ensures.capacity taken.1

pub returns-clause-first : goal.returns-clause-first
returns-clause-first c =
    ap pairs_of (sym c.self.view_is)
    ∙ (first-pair c.self.inside.rules c.self.inside.count (vec_capacity c.self.inside.log) (reverse c.self.inside.log.items) c.self.inside.ranks c.in_ok-first.first
    c.self.invariant c.in_ok-first.ensures.first c.if-first-self.false
    ∙ ap (λ (log : List Change). (c.in_ok-first.first.rank, c.in_ok-first.first.place) ∷ pairs_after log)
    (sym (reversed-push c.self.inside.log.items c.push_reserved.new.self.items (Taken c.in_ok-first.first.rank c.in_ok-first.first.place) c.push_reserved.ensures.items)))

pub returns-clause-none : goal.returns-clause-none
returns-clause-none c =
    let some : pairs_of c.args.self.now ≡ (c.in_ok-first.first.rank, c.in_ok-first.first.place) ∷ pairs_after (reverse c.push_reserved.new.self.items) = returns-clause-first c in
    (λ h. cc, λ h. cc)
