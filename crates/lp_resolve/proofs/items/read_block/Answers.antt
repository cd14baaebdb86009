use Rattle.std.proofs.Common.{◌≡◌, ◌∙◌, ◌++◌, ap, map}
use Rattle.lp_resolve.specs.ProgramReading.{symbol_of, rule_of}
use Rattle.lp_resolve.proofs.BeginsLemmas.{begins-trans}
use Rattle.lp_resolve.proofs.items.read_block.Goals as goal

pub returns-clause-rules : goal.returns-clause-rules
returns-clause-rules c later b =
    c.in_ok-read_rules.ensures.rules later b
    ∙ ap (λ ns. c.args.rules.now ++ map (rule_of later ns) c.as_slice-3.result.now)
    (c.as_slice-2.ensures.value ∙ c.in_ok-names.ensures.names later (begins-trans c.in_ok-read_rules.ensures.begins b) ∙ ap (map (symbol_of later)) c.as_slice.ensures)
    ∙ ap (λ rs. c.args.rules.now ++ map (rule_of later (map (symbol_of later) c.args.block.now.names)) rs) c.as_slice-3.ensures
