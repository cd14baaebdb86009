use Rattle.std.proofs.Common.{◌≡◌, refl, false, true}
use Rattle.beta_fragment.specs.HeadForm.{rigid_head}
use Rattle.beta_fragment.proofs.PairLemmas.{left-there, right-there}
use Rattle.beta_fragment.proofs.SpineLemmas.{spine-heads, spine-counts, spines-divide}
use Rattle.beta_fragment.proofs.equality.same_spines.Goals as goal

pub spine_head-requires : goal.spine_head-requires
spine_head-requires c = left-there c.args.heap.now c.args.pair c.requires

pub spine_head-requires-2 : goal.spine_head-requires-2
spine_head-requires-2 c = right-there c.args.heap.now c.args.pair c.requires

pub returns-then-not-same_head : goal.returns-then-not-same_head
returns-then-not-same_head c = λ w.
    let same : c.same_head.result ≡ true = c.same_head.ensures.1 (spine-heads c.args.heap.now c.args.pair (rigid_head c.in-Some.left) (rigid_head c.in-Some-spine_head.right) _ _ refl refl c.in-Some.ensures c.in-Some-spine_head.ensures w) in
    let differ : c.same_head.result ≡ false = c.if-not-same_head.true in
    cc

pub args_of-first-requires : goal.args_of-first-requires
args_of-first-requires c = left-there c.args.heap.now c.args.pair c.requires

pub args_of-second-requires : goal.args_of-second-requires
args_of-second-requires c = right-there c.args.heap.now c.args.pair c.requires

pub returns-then-first-second : goal.returns-then-first-second
returns-then-first-second c = λ w.
    c.if-first-second.true
    (spine-counts c.args.heap.now c.args.pair (rigid_head c.in-Some.left) (rigid_head c.in-Some-spine_head.right) c.args_of-first.result.now c.args_of-second.result.now c.args_of-first.ensures c.args_of-second.ensures c.in-Some.ensures c.in-Some-spine_head.ensures w)

pub returns : goal.returns
returns c =
    spines-divide c.args.heap.now c.args.pair (rigid_head c.in-Some.left) (rigid_head c.in-Some-spine_head.right) c.args_of-first.result.now c.args_of-second.result.now c.args_of-first.ensures c.args_of-second.ensures c.in-Some.ensures c.in-Some-spine_head.ensures
    c.args.work.now.items c.push_pairs.new.work.items c.is_sound.ensures c.requires (c.same_head.ensures.0 c.if-not-same_head.false) c.if-first-second.false c.in_ok-push_pairs.ensures
