use Rattle.std.proofs.Common.{ap, ◌∙◌}
use Rattle.search_moves.specs.World.{code_nodes, oldest}
use Rattle.search_moves.proofs.ListLemmas.{oldest-all}
use Rattle.search_moves.proofs.machine.Machine.start.Goals as goal

pub returns-clause-code : goal.returns-clause-code
returns-clause-code c = ap code_nodes c.in_ok-first.ensures.ok.1 ∙ ap (λ w. oldest w.base w.heap.nodes) c.new-stage.ensures ∙ oldest-all c.args.heap.nodes
