use Rattle.std.proofs.Common.{◌∙◌, ap, length, drop}
use Rattle.lp_resolve.proofs.RuleLemmas.{head-read}
use Rattle.lp_resolve.proofs.rules.read_head.Goals as goal

pub returns-clause-read : goal.returns-clause-read
returns-clause-read c =
    head-read c.read_context.new.symbols c.read_part.new.symbols c.args.variables.now c.read_context.new.variables c.read_part.new.variables c.args.head.now
    c.in_ok-context.context c.in_ok-goal.goal c.first_token.result c.in_ok-vars.vars
    c.in_ok-context.ensures.read c.in_ok-goal.ensures.begins c.in_ok-goal.ensures.read c.first_token.ensures
    (c.in_ok-vars.ensures ∙ ap (λ ps. drop (length ps) c.read_part.new.variables.places) c.places-first.ensures)
