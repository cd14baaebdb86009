use Rattle.std.proofs.Common.{◌+◌, [], sym, subst, arith}
use Rattle.level_terms.proofs.GrowthLemmas.{grows-trans}
use Rattle.level_terms.proofs.ValidLemmas.{growth_keeps_valid, valid_deeper}
use Rattle.beta_fragment.specs.Body.{IsLam}
use Rattle.level_terms.proofs.ReadLemmas.{valid-below}
use Rattle.term_print.proofs.WrittenLemmas.{if-ok}
use Rattle.term_print.proofs.LookLemmas.{node-stays, copied-reads, level-reads, level-valid}
use Rattle.term_print.proofs.step.body_copied.Goals as goal

pub contract-requires-clause-node : goal.contract-requires-clause-node
contract-requires-clause-node c = subst IsLam (sym (node-stays c.args.heap.now c.level.new.self c.level.ensures.grows c.args.lam.index (valid-below c.args.heap.now c.args.lam.index c.args.depth c.requires.lam.valid))) c.requires.lam.node

pub contract-requires-clause-valid : goal.contract-requires-clause-valid
contract-requires-clause-valid c =
    valid_deeper c.level.new.self c.args.lam.index c.args.depth (c.args.depth + 1)
    (growth_keeps_valid c.args.heap.now c.level.new.self [] [] c.args.lam.index c.args.depth c.is_sound.ensures c.level.ensures.grows (valid-below c.args.heap.now c.args.lam.index c.args.depth c.requires.lam.valid) c.requires.lam.valid)
    (omega arith)

pub contract-requires-clause-argument : goal.contract-requires-clause-argument
contract-requires-clause-argument c = level-valid c.args.heap.now c.level.new.self c.args.depth c.in_ok-name.name c.is_sound-2.ensures c.in_ok-name.ensures.ok.0 c.in_ok-name.ensures.ok.1

pub returns-clause-reads : goal.returns-clause-reads
returns-clause-reads c = if-ok c.contract.result
    (λ r f. copied-reads c.args.heap.now c.level.new.self c.contract.new.heap c.is_sound.ensures c.is_sound-2.ensures c.level.ensures.grows c.args.lam c.in_ok-name.name r c.args.depth c.requires.lam.node c.requires.lam.valid
    (level-reads c.args.heap.now c.level.new.self c.args.depth c.in_ok-name.name c.is_sound-2.ensures c.in_ok-name.ensures.ok.0 c.in_ok-name.ensures.ok.1) f)
    c.contract.ensures.reads

pub returns-clause-grows : goal.returns-clause-grows
returns-clause-grows c = grows-trans c.args.heap.now c.level.new.self c.contract.new.heap [] [] [] c.level.ensures.grows c.contract.ensures.grows
