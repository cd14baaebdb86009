use Rattle.std.proofs.Common.{[]}
use Rattle.level_terms.proofs.GrowthLemmas.{grows-refl}
use Rattle.level_terms.proofs.ValidLemmas.{valid_deeper}
use Rattle.level_terms.proofs.ReadLemmas.{valid-below}
use Rattle.term_rows.proofs.builder.contracted.Goals as goal

pub returns-then-lam-depth-clause-grows : goal.returns-then-lam-depth-clause-grows
returns-then-lam-depth-clause-grows c = grows-refl c.args.heap.now []

pub view-requires : goal.view-requires
view-requires c = valid-below c.args.heap.now c.args.lam.node.index c.args.lam.least c.requires.lam

pub contract-requires-clause-valid : goal.contract-requires-clause-valid
contract-requires-clause-valid c = valid_deeper c.args.heap.now c.args.lam.node.index c.args.lam.least c.args.depth c.requires.lam c.if-lam-depth.false

pub contract-requires-clause-argument : goal.contract-requires-clause-argument
contract-requires-clause-argument c = valid_deeper c.args.heap.now c.args.arg.node.index c.args.arg.least c.args.depth c.requires.arg c.if-arg-depth.false

pub returns-in_default : goal.returns-in_default
returns-in_default c = record { valid = tt; grows = grows-refl c.args.heap.now [] }
