use Rattle.std.proofs.Common.{ℕ, List, [], length, subst, ◌∙◌}
use Rattle.lp_resolve.specs.Plain.{plain_program}
use Rattle.search_moves.specs.World.{code_nodes}
use Rattle.goal_run.specs.inside.Code.{Stands}
use Rattle.clause_compile.specs.Programs.{IsCode}
use Rattle.goal_run.proofs.CodeLemmas.{bare-code}
use Rattle.goal_run.proofs.StartLemmas.{begins, first-is}
use Rattle.goal_run.proofs.machine.Machine.start.Goals as goal
use Rattle.goal_run.proofs.machine.Machine.start.Goals.{In_ok-moves}

-- the code stands over the first heap of the search
stands : (c : In_ok-moves) (table : List (List ℕ)) → Stands (code_nodes c.in_ok-moves.moves.world) c.in_ok-code-2.code (plain_program table c.args.checked.now)
stands c table =
    let f = c.compile.new.heap in
    let p = plain_program table c.args.checked.now in
    let is = c.in_ok-code.ensures.code table in
    begins f c.query_of.new.heap c.in_ok-code.code c.in_ok-code-2.code p (code_nodes c.in_ok-moves.moves.world) c.query_of.ensures.grows is c.in_ok-code-2.ensures.code (c.in_ok-code-2.ensures.shapes (length f.nodes) f p is) (c.in_ok-code-2.ensures.index (length f.nodes) f p is) c.in_ok-moves.ensures.code

pub new-requires : goal.new-requires
new-requires c = (length c.compile.new.heap.nodes, c.compile.new.heap, plain_program [] c.args.checked.now, c.in_ok-code.ensures.code [])

pub invariant_of-result : goal.invariant_of-result
invariant_of-result c = record {
  program = plain_program [] c.args.checked.now;
  stands = stands c [];
  laid_out = record {
    shapes = λ n g p is. c.in_ok-code-2.ensures.shapes n g p (subst (λ k. IsCode n g k p) c.in_ok-code-2.ensures.code is);
    index = λ n g p is. c.in_ok-code-2.ensures.index n g p (subst (λ k. IsCode n g k p) c.in_ok-code-2.ensures.code is);
  };
}

pub returns-clause-program : goal.returns-clause-program
returns-clause-program c = λ table. bare-code (code_nodes c.in_ok-moves.moves.world) c.in_ok-code-2.code (plain_program table c.args.checked.now) (stands c table)

pub returns-clause-state : goal.returns-clause-state
returns-clause-state c = λ p. c.in_ok-moves.ensures.starts p ∙ first-is c.args.query.now c.query_of.new.heap c.in_ok-made.made c.in_ok-made.ensures.query
