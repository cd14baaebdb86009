use Rattle.std.proofs.Common.{◌≡◌, ◌∷◌, ℕ, false, subst}
use Rattle.suspend.specs.Store.{becomes, rows, waiting, has_row, IsLater}
use Rattle.suspend.specs.Keyed.{Stirred}
use Rattle.suspend.specs.inside.Waking.{KeepsKeyed, FollowsOne}
use Rattle.suspend.proofs.Results.{on-ok, on-err-any, by-result}
use Rattle.suspend.proofs.FollowLemmas.{follows-unwatched, follows-handed, follows-stirred, stirs-keyed, later-one, later-same}
use Rattle.suspend.proofs.store.Store.try_follow.Goals as goal

pub returns-then-is_unwatched-clause-keyed : goal.returns-then-is_unwatched-clause-keyed
returns-then-is_unwatched-clause-keyed g c =
    follows-unwatched c.args.self.now c.args.heap.now c.args.v.index
    (subst (λ log. (n : ℕ) → has_row (rows log) c.args.v.index n ≡ false) c.self.view_is (c.is_unwatched.ensures c.if-is_unwatched.true))

pub returns-in-Some-clause-keyed : goal.returns-in-Some-clause-keyed
returns-in-Some-clause-keyed g c =
    on-ok c.hand_over.result (c.hand_over.new.self ≡ becomes c.args.v.index c.in-Some.other ∷ c.self.inside.ledger) (FollowsOne c.args.self.now c.hand_over.new.self c.args.heap.now c.args.v.index)
    (λ e. follows-handed c.self.inside.ledger c.args.self.now c.hand_over.new.self c.args.heap.now c.args.v.index c.in-Some.other c.self.view_is c.is_sound.ensures c.in-Some.ensures e) c.hand_over.ensures.ok

pub returns-in-Some-clause-later : goal.returns-in-Some-clause-later
returns-in-Some-clause-later g c =
    subst (λ log. IsLater log c.hand_over.new.self) c.self.view_is
    (by-result c.hand_over.result (c.hand_over.new.self ≡ becomes c.args.v.index c.in-Some.other ∷ c.self.inside.ledger) (c.hand_over.new.self ≡ c.self.inside.ledger) (IsLater c.self.inside.ledger c.hand_over.new.self)
    (λ e. later-one c.self.inside.ledger c.hand_over.new.self (becomes c.args.v.index c.in-Some.other) e) (λ e. later-same c.self.inside.ledger c.hand_over.new.self e) c.hand_over.ensures.ok c.hand_over.ensures.err)

pub returns-in-None-clause-keyed : goal.returns-in-None-clause-keyed
returns-in-None-clause-keyed g c =
    on-ok c.stir.result (Stirred (rows c.stir.new.self) (waiting c.stir.new.self) c.args.v.index) (FollowsOne c.args.self.now c.stir.new.self c.args.heap.now c.args.v.index)
    (λ s. follows-stirred c.args.self.now c.stir.new.self c.args.heap.now c.args.v.index (stirs-keyed c.args.self.now c.stir.new.self c.stir.ensures.on) s) c.stir.ensures.stirred

pub returns-in-None-clause-kept : goal.returns-in-None-clause-kept
returns-in-None-clause-kept g c = on-err-any c.stir.result (KeepsKeyed c.args.self.now c.stir.new.self) (stirs-keyed c.args.self.now c.stir.new.self c.stir.ensures.on)
