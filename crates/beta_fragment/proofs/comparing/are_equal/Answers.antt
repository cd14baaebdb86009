use Rattle.std.proofs.Common.{◌≡◌, true, false, subst}
use Rattle.beta_fragment.specs.inside.Cells.{terms_of}
use Rattle.beta_fragment.specs.inside.Compared.{ComesTo}
use Rattle.beta_fragment.proofs.ComparedLemmas.{pair-there, turn-there, turn-whole, turn-each, turn-differs, turn-falls}
use Rattle.beta_fragment.proofs.comparing.are_equal.Goals as goal

pub compared-requires-clause-left : goal.compared-requires-clause-left
compared-requires-clause-left c = (pair-there (terms_of c.args.cells.now) c.in-Some.sides c.loop-sides.work.items c.pop.new.self.items c.pop.new.self.items c.in-Some.ensures.items _ c.loop-sides.invariant.there).0

pub compared-requires-clause-right : goal.compared-requires-clause-right
compared-requires-clause-right c = (pair-there (terms_of c.args.cells.now) c.in-Some.sides c.loop-sides.work.items c.pop.new.self.items c.pop.new.self.items c.in-Some.ensures.items _ c.loop-sides.invariant.there).1

pub returns-then-not-branch : goal.returns-then-not-branch
returns-then-not-branch c =
    let differ = subst (ComesTo (terms_of c.args.cells.now) c.in-Some.sides c.pop.new.self.items c.compared.new.work.items) c.if-not-branch.true c.in_ok-compared.ensures in (
      λ e. absurd (let q : false ≡ true = e in cc),
      λ e. absurd (turn-differs (terms_of c.args.cells.now) c.in-Some.sides c.loop-sides.work.items c.pop.new.self.items c.compared.new.work.items c.in-Some.ensures.items differ (c.loop-sides.invariant.each e)),
    )

pub loop-sides-smaller : goal.loop-sides-smaller
loop-sides-smaller c =
    let leaves = subst (ComesTo (terms_of c.args.cells.now) c.in-Some.sides c.pop.new.self.items c.compared.new.work.items) c.if-not-branch.false c.in_ok-compared.ensures in
    turn-falls (terms_of c.args.cells.now) c.in-Some.sides c.loop-sides.work.items c.pop.new.self.items c.compared.new.work.items c.in-Some.ensures.items leaves

pub loop-sides-preserved : goal.loop-sides-preserved
loop-sides-preserved c =
    let leaves = subst (ComesTo (terms_of c.args.cells.now) c.in-Some.sides c.pop.new.self.items c.compared.new.work.items) c.if-not-branch.false c.in_ok-compared.ensures in
    record {
      there = turn-there (terms_of c.args.cells.now) c.in-Some.sides c.loop-sides.work.items c.pop.new.self.items c.compared.new.work.items c.in-Some.ensures.items c.loop-sides.invariant.there leaves;
      whole = λ w. c.loop-sides.invariant.whole (turn-whole (terms_of c.args.cells.now) c.in-Some.sides c.loop-sides.work.items c.pop.new.self.items c.compared.new.work.items c.in-Some.ensures.items leaves w);
      each = λ e. turn-each (terms_of c.args.cells.now) c.in-Some.sides c.loop-sides.work.items c.pop.new.self.items c.compared.new.work.items c.in-Some.ensures.items leaves (c.loop-sides.invariant.each e);
    }
