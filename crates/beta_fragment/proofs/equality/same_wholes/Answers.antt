use Rattle.beta_fragment.specs.inside.Cells.{terms_of}
use Rattle.beta_fragment.proofs.PairLemmas.{wholes-told}
use Rattle.beta_fragment.proofs.equality.same_wholes.Goals as goal

pub returns : goal.returns
returns c =
    wholes-told c.args.heap.now c.args.pair c.own-levels.result (terms_of c.evaluated.new.cells) (terms_of c.evaluated-2.new.cells) c.in_ok-left.left c.in_ok-right.right c.are_equal.result
    c.requires c.own-levels.ensures.own c.evaluated-2.ensures.gains c.in_ok-left.ensures.reads c.in_ok-right.ensures.reads c.are_equal.ensures
