use Rattle.goal_run.proofs.rules.make_rule.Goals as goal

pub rule_of-requires : goal.rule_of-requires
rule_of-requires c =
    let r = c.requires in
    (r.0, r.1, c.rules.ensures r.0 c.args.heap.now r.1 r.2, r.3)

pub returns-clause-made : goal.returns-clause-made
returns-clause-made c = λ n p r code here.
    c.in_ok-instance.ensures r c.args.depth c.args.heap.now c.rule_of.new.heap (c.in_ok-made.ensures.rule n p r (c.rules.ensures n c.args.heap.now p code) here)
