use Rattle.std.proofs.Common.{◌∙◌, sym, ap}
use Rattle.mode_check.proofs.Spines.{spine-taken, spine-new, free-nil, are_free}
use Rattle.mode_check.proofs.Forms.{names_of}
use Rattle.std.proofs.lemmas.List.{drop_all}
use Rattle.mode_check.proofs.names.are_distinct_names.Goals as goal

pub returns-then-not-branch : goal.returns-then-not-branch
returns-then-not-branch c =
    sym (c.loop-arg.invariant ∙ spine-taken c.loop-arg.names.keys c.args.args.now c.loop-arg.arg-index c.arg-item.result c.in-Some.name c.in_ok-insert.field-0
    c.loop-arg-test.true c.arg-item.is c.in-Some.ensures c.in_ok-insert.ensures.added c.if-not-branch.true)

pub loop-arg-preserved : goal.loop-arg-preserved
loop-arg-preserved c =
    c.loop-arg.invariant ∙ spine-new c.loop-arg.names.keys c.insert.new.self.keys c.args.args.now c.loop-arg.arg-index c.arg-item.result c.in-Some.name c.in_ok-insert.field-0
    c.loop-arg-test.true c.arg-item.is c.in-Some.ensures c.in_ok-insert.ensures.added c.if-not-branch.false c.in_ok-insert.ensures.keys

pub returns : goal.returns
returns c =
    sym (c.loop-arg.invariant ∙ ap (λ rest. are_free c.loop-arg.names.keys (names_of rest)) (drop_all c.loop-arg.arg-index c.args.args.now c.loop-arg-test.false)
    ∙ free-nil c.loop-arg.names.keys)
