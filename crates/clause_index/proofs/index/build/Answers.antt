use Rattle.std.proofs.Common.{◌∙◌, ◌<◌, [], ◌∷◌, ◌++◌, length, take, cond, sym, ap, arith}
use Rattle.clause_key.specs.Passing.{numbers_of}
use Rattle.clause_index.specs.inside.Lists.{list_of, same_group}
use Rattle.clause_index.specs.Index.{is_among}
use Rattle.clause_index.proofs.NumberLemmas.{numbers-put, clause-at, front-more, front-all, front-long}
use Rattle.clause_index.proofs.index.build.Goals as goal

pub pred_of-pred-requires : goal.pred_of-pred-requires
pred_of-pred-requires c =
    let q = c.requires in
    let long = c.clauses-clause-end.ensures q.0 q.1 q.2 q.3 in
    (q.0, q.1, q.2, q.3, omega (arith, long, c.loop-clause-test.true))

pub key_of-key-requires : goal.key_of-key-requires
key_of-key-requires c =
    let q = c.requires in
    let long = c.clauses-clause-end.ensures q.0 q.1 q.2 q.3 in
    (q.0, q.1, q.2, q.3, omega (arith, long, c.loop-clause-test.true))

pub loop-clause-preserved : goal.loop-clause-preserved
loop-clause-preserved c = record {
  paired = c.in_ok-push-2.ensures.paired;
  lists = λ n g p w h.
      let i = c.loop-clause.clause in
      let long = c.clauses-clause-end.ensures n g p w in
      let low : i < length p.clauses = omega (arith, long, c.loop-clause-test.true) in
      let k = clause-at p.clauses i low in
      numbers-put p h (take i p.clauses) k.0 c.pred_of-pred.result c.key_of-key.result i (list_of c.loop-clause.lists h) (list_of c.push.new.self h) (list_of c.push-in-loop-clause.new.self h)
      (c.pred_of-pred.ensures n g p k.0 w k.1)
      (c.key_of-key.ensures n g p k.0 w k.1)
      (front-long p.clauses i low)
      (c.loop-clause.invariant.lists n g p w h)
      (c.in_ok-push.ensures.lists h)
      (c.in_ok-push-2.ensures.lists h ∙ ap (λ q. cond (same_group h q) (list_of c.push.new.self h ++ i ∷ []) (list_of c.push.new.self h)) c.own_group.ensures)
      ∙ ap (numbers_of (is_among p h) 0) (sym (front-more p.clauses i k.0 k.1));
}

pub returns : goal.returns
returns c = λ n g p w. record {
  paired = c.loop-clause.invariant.paired;
  lists = λ h.
      c.loop-clause.invariant.lists n g p w h
      ∙ ap (numbers_of (is_among p h) 0) (front-all p.clauses c.loop-clause.clause (let long = c.clauses-clause-end.ensures n g p w in omega (arith, long, c.loop-clause-test.false)));
}
