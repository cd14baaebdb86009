use Rattle.std.proofs.Common.{◌≡◌, ℕ, ◌≤◌, Some, length, refl}
use Rattle.std.specs.Prelude.{slice_get}
use Rattle.ref_terms.specs.search.Program.{Program, Clause}
use Rattle.clause_compile.specs.Programs.{IsCode}
use Rattle.search_moves.specs.World.{oldest}
use Rattle.search_moves.specs.Instances.{IsBodyOver}
use Rattle.goal_run.specs.inside.Code.{Stands}
use Rattle.goal_run.proofs.CodeLemmas.{if-ok}
use Rattle.goal_run.proofs.clauses.ProgramCodeClauses.body.Goals as goal

pub make_body-requires-clause-code : goal.make_body-requires-clause-code
make_body-requires-clause-code c =
    let r = c.requires.code in
    (r.4.shared, r.1, r.2, r.4.code r.0 c.args.heap.now r.3 refl, r.5, r.6)

pub returns-clause-made : goal.returns-clause-made
returns-clause-made c =
    let g = c.args.heap.now in
    let h = c.make_body.new.heap in
    let vs = c.args.variables.items in
    if-ok c.make_body.result
    (λ i. (n : ℕ) (p : Program) (k : Clause) → IsCode n g c.args.self.now.code p → slice_get p.clauses c.args.clause ≡ Some k → IsBodyOver k c.args.depth vs g h i)
    (λ i. (n : ℕ) (p : Program) (k : Clause) → n ≤ length g.nodes → Stands (oldest n g.nodes) c.args.self.now p → slice_get p.clauses c.args.clause ≡ Some k → IsBodyOver k c.args.depth vs g h i)
    (λ i m n p k low w here. m w.shared p k (w.code n g low refl) here)
    c.make_body.ensures.made
