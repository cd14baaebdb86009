use Rattle.std.proofs.Common.{◌≡◌, suc, ◌+◌, map, if◌then◌else◌, nat_eq, codes, arith}
use Rattle.lp_resolve.specs.Plain.{plain_variable}
use Rattle.elpi_cli.specs.declared.status.Status.TheVariants.{Done}
use Rattle.elpi_cli.specs.Output.{line, line_only, written}
use Rattle.elpi_cli.proofs.search.observe.Goals as goal

pub returns-in-Err-write_answer-clause-ends : goal.returns-in-Err-write_answer-clause-ends
returns-in-Err-write_answer-clause-ends g c = λ later.
    let one : suc c.args.count.now ≡ c.args.count.now + 1 = omega arith in
    rw (c.in-Answer.is, one) (c.in-Err-write_answer.ensures.ends (if nat_eq (c.args.count.now + 1) c.args.limit then line_only (line (codes "stopped")) Done
    else written c.args.symbols.now (map plain_variable c.args.machine.now.variables) c.args.limit (c.args.count.now + 1) later))

pub returns-in-Err-clause-ends : goal.returns-in-Err-clause-ends
returns-in-Err-clause-ends g c = λ later.
    rw c.in-Printed.is (rw c.as_slice.ensures at (c.in-Err.ensures.err (written c.args.symbols.now (map plain_variable c.args.machine.now.variables) c.args.limit c.args.count.now later)))
