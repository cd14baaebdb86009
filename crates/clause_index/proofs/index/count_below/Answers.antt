use Rattle.std.proofs.Common.{rules, of_calls, ◌∙◌, nat_lt, sym, ap, arith}
use Rattle.std.proofs.lemmas.Fn.{always_returns_same}
use Rattle.clause_index.specs.inside.Runs.{not_below}
use Rattle.clause_index.proofs.OrderLemmas.{parts-at, point-drop, none-lower}
use Rattle.clause_index.proofs.index.count_below.Goals as goal

pub returns-then-from-eq0 : goal.returns-then-from-eq0
returns-then-from-eq0 c = λ w. none-lower c.args.list.now ∙ ap (λ n. not_below n c.args.list.now) (sym c.if-from-eq0.true)

pub returns : goal.returns
returns c = λ w.
    let point = c.partition_point.ensures.partitioned (λ i. nat_lt i c.args.from) (always_returns_same _ _ _ (λ a r f k. search (rules, of_calls))) (parts-at c.args.from c.args.list.now w) in
    point-drop c.args.from c.args.list.now c.partition_point.result c.partition_point.ensures.bound (λ k d l. point.0 k d (omega arith) l) (λ k d g l. point.1 k d g l)
