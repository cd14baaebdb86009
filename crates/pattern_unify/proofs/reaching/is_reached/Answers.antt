use Rattle.std.proofs.Common.{◌≡◌, ◌<◌, [], ◌∷◌, ◌++◌, List, length, sym, ap, subst, arith}
use Rattle.level_terms.specs.declared.node.TermId.{TermId}
use Rattle.level_terms.specs.Sound.{AllOlder}
use Rattle.level_terms.proofs.MakeLemmas.{older-last}
use Rattle.beta_fragment.proofs.SplitLemmas.{empty-list}
use Rattle.beta_fragment.proofs.WorkLemmas.{total}
use Rattle.pattern_unify.specs.inside.Reaching.{AllUnreached}
use Rattle.pattern_unify.proofs.ReachedWork.{turn-unreached, turn-there, turn-smaller}
use Rattle.pattern_unify.proofs.reaching.is_reached.Goals as goal

pub loop-v-init : goal.loop-v-init
loop-v-init c =
    let one : c.new-work.result.items ++ c.args.t ∷ [] ≡ c.args.t ∷ [] = ap (λ (ts : List TermId). ts ++ c.args.t ∷ []) c.new-work.ensures.items in
    record {
      there = subst (AllOlder (length c.args.heap.now.nodes)) (sym one) (c.requires, tt);
      leads = λ w. (subst (AllUnreached c.args.heap.now c.args.v.index) one w).0;
    }

pub is_own-own-requires : goal.is_own-own-requires
is_own-own-requires c = older-last (length c.args.heap.now.nodes) c.loop-v.work.items c.loop-v.node c.loop-v.invariant.there

pub push_parts-requires : goal.push_parts-requires
push_parts-requires c = older-last (length c.args.heap.now.nodes) c.loop-v.work.items c.loop-v.node c.loop-v.invariant.there

pub loop-v-smaller : goal.loop-v-smaller
loop-v-smaller c =
    subst (λ (ts : List TermId). total c.args.heap.now ts < total c.args.heap.now (c.loop-v.work.items ++ c.loop-v.node ∷ [])) c.in-Some.ensures.items
    (turn-smaller c.args.heap.now c.is_sound.ensures c.args.v.index c.loop-v.work.items c.loop-v.node c.push_parts.new.work.items c.in_ok-push_parts.ensures)

pub loop-v-preserved : goal.loop-v-preserved
loop-v-preserved c = record {
  there = subst (AllOlder (length c.args.heap.now.nodes)) c.in-Some.ensures.items
      (turn-there c.args.heap.now c.is_sound.ensures c.args.v.index c.loop-v.work.items c.loop-v.node c.push_parts.new.work.items c.in_ok-push_parts.ensures c.loop-v.invariant.there);
  leads = λ w. c.loop-v.invariant.leads (turn-unreached c.args.heap.now c.is_sound.ensures c.args.v.index c.loop-v.work.items c.loop-v.node c.push_parts.new.work.items c.in_ok-push_parts.ensures
      (c.is_own-own.ensures c.if-own.false) (subst (AllUnreached c.args.heap.now c.args.v.index) (sym c.in-Some.ensures.items) w));
}

pub returns-in-None : goal.returns-in-None
returns-in-None c =
    let none = empty-list c.push_parts.new.work.items (omega (arith, c.push_parts.new.work.ok, c.in-None.ensures.cases.0)) in
    λ e. c.loop-v.invariant.leads (turn-unreached c.args.heap.now c.is_sound.ensures c.args.v.index c.loop-v.work.items c.loop-v.node c.push_parts.new.work.items c.in_ok-push_parts.ensures
    (c.is_own-own.ensures c.if-own.false) (subst (AllUnreached c.args.heap.now c.args.v.index) (sym none) tt))

pub may_change-requires : goal.may_change-requires
may_change-requires c = older-last (length c.args.heap.now.nodes) c.loop-v.work.items c.loop-v.node c.loop-v.invariant.there
