use Rattle.std.proofs.Common.{◌≡◌, ℕ, ◌+◌, ◌∙◌, ◌++◌, ◌∷◌, List, reverse, [], ap, subst, arith, vec_len}
use Rattle.std.specs.Prelude.{MatchOption}
use Rattle.level_terms.specs.declared.node.TermId.{TermId}
use Rattle.level_terms.proofs.GrowthLemmas.{grows-refl}
use Rattle.beta_fragment.specs.inside.Turn.{IsFirst}
use Rattle.beta_fragment.specs.declared.glance.Readiness.TheVariants.{Level, Ready}
use Rattle.beta_fragment.proofs.TurnLemmas.{lam-turn, pop-split, pop-ready}
use Rattle.beta_fragment.proofs.StandLemmas.{take-turn}
use Rattle.beta_fragment.proofs.head.turn_lam.Goals as goal

pub returns-in_err-push-in-Level-clause-grows : goal.returns-in_err-push-in-Level-clause-grows
returns-in_err-push-in-Level-clause-grows c = grows-refl c.args.heap.now []

pub returns-in_ok-push-in-Level-clause-grows : goal.returns-in_ok-push-in-Level-clause-grows
returns-in_ok-push-in-Level-clause-grows c = grows-refl c.args.heap.now []

pub settled-requires-clause-head : goal.settled-requires-clause-head
settled-requires-clause-head c = c.requires.valid

pub settled-requires-clause-below : goal.settled-requires-clause-below
settled-requires-clause-below c = c.requires.moves.below

pub returns-in_ok-push-in-Level-clause-turn : goal.returns-in_ok-push-in-Level-clause-turn
returns-in_ok-push-in-Level-clause-turn c =
    let first = subst (λ (ts : List TermId). IsFirst c.args.heap.now c.args.depth (reverse ts) (Level c.in-Level.k)) c.as_slice.ensures.value c.in-Level.ensures in
    let parts = pop-split c.args.heap.now c.args.depth c.in-Level.k c.args.args.now.items c.pop.new.self.items c.pop.result c.pop.ensures.items
    (λ e. let z = subst (λ o. MatchOption o ((vec_len c.args.args.now ≡ 0) × (vec_len c.pop.new.self ≡ 0)) (λ _. vec_len c.pop.new.self + 1 ≡ vec_len c.args.args.now)) e c.pop.ensures.cases in omega (arith, z, c.args.args.now.ok))
    first in
    lam-turn c.args.heap.now c.args.depth c.args.head.index c.args.made c.args.body c.in-Level.k parts.0 c.args.levels.now c.push.new.self c.args.fixed.now c.fixed_after.result c.args.args.now.items c.pop.new.self.items c.is_sound.ensures c.requires.here c.requires.valid c.requires.moves parts.1 parts.2 parts.3
    (c.in_ok-push-in-Level.ensures ∙ ap (λ (ls : List ℕ). ls ++ c.in-Level.k ∷ []) c.truncate.ensures) c.fixed_after.ensures

pub returns-in_err-push-in-Ready-clause-grows : goal.returns-in_err-push-in-Ready-clause-grows
returns-in_err-push-in-Ready-clause-grows c = grows-refl c.args.heap.now []

pub returns-in_ok-push-in-Ready-clause-grows : goal.returns-in_ok-push-in-Ready-clause-grows
returns-in_ok-push-in-Ready-clause-grows c = grows-refl c.args.heap.now []

pub returns-in_ok-push-in-Ready-clause-turn : goal.returns-in_ok-push-in-Ready-clause-turn
returns-in_ok-push-in-Ready-clause-turn c =
    let first = subst (λ (ts : List TermId). IsFirst c.args.heap.now c.args.depth (reverse ts) (Ready c.in-Ready.arg)) c.as_slice.ensures.value c.in-Ready.ensures in
    let parts = pop-ready c.args.heap.now c.args.depth c.in-Ready.arg c.args.args.now.items c.pop-in-Ready.new.self.items c.pop-in-Ready.result c.pop-in-Ready.ensures.items
    (λ e. let z = subst (λ o. MatchOption o ((vec_len c.args.args.now ≡ 0) × (vec_len c.pop-in-Ready.new.self ≡ 0)) (λ _. vec_len c.pop-in-Ready.new.self + 1 ≡ vec_len c.args.args.now)) e c.pop-in-Ready.ensures.cases in omega (arith, z, c.args.args.now.ok))
    first in
    take-turn c.args.heap.now c.args.depth c.args.head.index c.args.made c.args.body parts.0 c.in-Ready.arg c.args.levels.now c.push-in-Ready.new.self c.args.fixed.now c.min.result c.args.args.now.items c.pop-in-Ready.new.self.items c.is_sound.ensures c.requires.here c.requires.valid c.requires.moves c.requires.args parts.1 parts.2 parts.3 parts.4
    (c.in_ok-push-in-Ready.ensures ∙ ap (λ (ls : List ℕ). ls ++ c.args.depth ∷ []) c.truncate-in-Ready.ensures) c.min.ensures
