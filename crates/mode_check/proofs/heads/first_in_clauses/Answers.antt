use Rattle.std.proofs.Common.{◌∙◌, ap}
use Rattle.lp_resolve.specs.StaticRules.{clause_head, head_breaches, first_of}
use Rattle.mode_check.proofs.Firsts.{next-first}
use Rattle.mode_check.proofs.heads.first_in_clauses.Goals as goal

pub loop-clause-preserved : goal.loop-clause-preserved
loop-clause-preserved c =
    next-first (λ clause. head_breaches c.args.preds.now (clause_head clause)) c.args.clauses.now c.loop-clause.clause-index c.clause-item.result
    c.loop-clause.found c.in_ok-next.next c.earlier-found.result c.loop-clause-test.true c.clause-item.is c.loop-clause.invariant
    (c.in_ok-next.ensures
    ∙ ap (λ vars. first_of (head_breaches c.args.preds.now (record { tree = c.clause-item.result.head; place = c.clause-item.result.places.head; vars = vars }))) c.as_slice-vars.ensures)
    c.earlier-found.ensures
