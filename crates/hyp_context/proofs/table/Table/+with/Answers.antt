use Rattle.std.proofs.Common.{◌<◌, arith}
use Rattle.std.proofs.lemmas.Bool.Decides.{nat_tests}
use Rattle.hyp_context.proofs.TableLemmas.{more-half}
use Rattle.hyp_context.proofs.table.Table.+with.Goals as goal

pub returns : goal.returns
returns t c =
    let positive : 0 < c.args.number = grind (arith, nat_tests, c.if-number-eq0.false) in
    more-half c.args.self.now c.half_of.result.now c.in_ok-half.half c.in_ok-table.table c.in_ok-lists.lists c.args.number c.args.hyp.now.value positive c.in_ok-lists.ensures c.half_of.ensures c.in_ok-half.ensures c.in_ok-table.ensures
