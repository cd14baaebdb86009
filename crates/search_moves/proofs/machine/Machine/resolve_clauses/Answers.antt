use Rattle.std.proofs.Common.{◌∙◌, sym, ap}
use Rattle.search_moves.specs.World.{code_nodes}
use Rattle.search_moves.proofs.machine.Machine.resolve_clauses.Goals as goal

pub resolve-requires-clause-code : goal.resolve-requires-clause-code
resolve-requires-clause-code g c = rw c.key_of.ensures.same c.requires.code

pub resolve-requires-clause-call : goal.resolve-requires-clause-call
resolve-requires-clause-call g c = rw c.key_of.ensures.same c.requires.call

pub resolve-requires-clause-key : goal.resolve-requires-clause-key
resolve-requires-clause-key g c = rw c.key_of.ensures.same c.in_ok-key.ensures.key

pub returns-clause-answer : goal.returns-clause-answer
returns-clause-answer g c = rw (sym c.key_of.ensures.same) c.resolve.ensures.answer

pub returns-clause-same : goal.returns-clause-same
returns-clause-same g c = rw (sym c.key_of.ensures.same) c.resolve.ensures.same

pub returns-clause-stops : goal.returns-clause-stops
returns-clause-stops g c = rw (sym c.key_of.ensures.same) c.resolve.ensures.stops

pub returns-clause-phase : goal.returns-clause-phase
returns-clause-phase g c = c.resolve.ensures.phase ∙ ap (λ m. m.phase) c.key_of.ensures.same

pub returns-clause-code : goal.returns-clause-code
returns-clause-code g c = c.resolve.ensures.code ∙ ap (λ m. code_nodes m.world) c.key_of.ensures.same
