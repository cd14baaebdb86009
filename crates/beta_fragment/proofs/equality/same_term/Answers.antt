use Rattle.std.proofs.Common.{◌≡◌, ◌∙◌, ◌++◌, [], ◌∷◌, true, false, subst, List, ap, sym, refl, arith}
use Rattle.level_terms.proofs.GrowthLemmas.{grows-refl}
use Rattle.beta_fragment.specs.declared.equality.Pair.{Pair}
use Rattle.beta_fragment.specs.inside.Pairs.{TurnsOut, AllValidPairs, AllSame}
use Rattle.beta_fragment.proofs.SplitLemmas.{empty-list}
use Rattle.beta_fragment.proofs.PairLemmas.{pair-valid, turn-valid, turn-whole, turn-each, turn-differs, turn-falls}
use Rattle.beta_fragment.proofs.equality.same_term.Goals as goal

pub returns-in_err-push-clause-grows : goal.returns-in_err-push-clause-grows
returns-in_err-push-clause-grows c = grows-refl c.args.heap.now []

pub loop-pair-init : goal.loop-pair-init
loop-pair-init c =
    let one : c.push.new.self.items ≡ record { left = c.args.s; right = c.args.t; depth = c.args.depth } ∷ [] = c.in_ok-push.ensures.items ∙ ap (λ (zs : List Pair). zs ++ record { left = c.args.s; right = c.args.t; depth = c.args.depth } ∷ []) c.new-work.ensures.items in
    record {
      valid = subst (AllValidPairs c.args.heap.now) (sym one) ((c.requires.left, c.requires.right), tt);
      whole = λ w. (subst (AllSame c.args.heap.now) one w).0;
      each = λ e. subst (AllSame c.args.heap.now) (sym one) (e, tt);
    }

pub compared_nodes-requires : goal.compared_nodes-requires
compared_nodes-requires c = pair-valid c.args.heap.now c.in-Some.pair c.loop-pair.work.items c.pop.new.self.items c.pop.new.self.items c.in-Some.ensures.items c.loop-pair.invariant.valid

pub returns-in_err-compared_nodes-clause-grows : goal.returns-in_err-compared_nodes-clause-grows
returns-in_err-compared_nodes-clause-grows c = grows-refl c.args.heap.now []

pub returns-then-not-branch-clause-same : goal.returns-then-not-branch-clause-same
returns-then-not-branch-clause-same c =
    let differ = subst (TurnsOut c.args.heap.now c.in-Some.pair c.pop.new.self.items c.compared_nodes.new.work.items) c.if-not-branch.true c.in_ok-compared_nodes.ensures in (
      λ e. absurd (let q : false ≡ true = e in cc),
      λ e. absurd (turn-differs c.args.heap.now c.in-Some.pair c.loop-pair.work.items c.pop.new.self.items c.compared_nodes.new.work.items c.in-Some.ensures.items differ (c.loop-pair.invariant.each e)),
    )

pub returns-then-not-branch-clause-grows : goal.returns-then-not-branch-clause-grows
returns-then-not-branch-clause-grows c = grows-refl c.args.heap.now []

pub loop-pair-smaller : goal.loop-pair-smaller
loop-pair-smaller c =
    let divides = subst (TurnsOut c.args.heap.now c.in-Some.pair c.pop.new.self.items c.compared_nodes.new.work.items) c.if-not-branch.false c.in_ok-compared_nodes.ensures in
    turn-falls c.args.heap.now c.in-Some.pair c.loop-pair.work.items c.pop.new.self.items c.compared_nodes.new.work.items c.in-Some.ensures.items divides

pub loop-pair-preserved : goal.loop-pair-preserved
loop-pair-preserved c =
    let divides = subst (TurnsOut c.args.heap.now c.in-Some.pair c.pop.new.self.items c.compared_nodes.new.work.items) c.if-not-branch.false c.in_ok-compared_nodes.ensures in
    record {
      valid = turn-valid c.args.heap.now c.in-Some.pair c.loop-pair.work.items c.pop.new.self.items c.compared_nodes.new.work.items c.in-Some.ensures.items c.loop-pair.invariant.valid divides;
      whole = λ w. c.loop-pair.invariant.whole (turn-whole c.args.heap.now c.in-Some.pair c.loop-pair.work.items c.pop.new.self.items c.compared_nodes.new.work.items c.in-Some.ensures.items divides w);
      each = λ e. turn-each c.args.heap.now c.in-Some.pair c.loop-pair.work.items c.pop.new.self.items c.compared_nodes.new.work.items c.in-Some.ensures.items divides (c.loop-pair.invariant.each e);
    }

pub returns-clause-same : goal.returns-clause-same
returns-clause-same c =
    let none = empty-list c.loop-pair.work.items (omega (arith, c.loop-pair.work.ok, c.in_default.ensures.cases.0)) in
    (λ q. c.loop-pair.invariant.whole (subst (AllSame c.args.heap.now) (sym none) tt), λ e. refl)

pub returns-clause-grows : goal.returns-clause-grows
returns-clause-grows c = grows-refl c.args.heap.now []
