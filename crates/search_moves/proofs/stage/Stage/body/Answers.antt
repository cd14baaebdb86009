use Rattle.std.proofs.Common.{◌≡◌, ◌≤◌, Some, IfOk, length, slice_get, sym, subst}
use Rattle.std.specs.Prelude.{Option}
use Rattle.level_terms.specs.declared.node.TermId.{TermId}
use Rattle.ref_terms.specs.search.Program.{Program, Clause}
use Rattle.search_moves.specs.StageView.{world_of}
use Rattle.search_moves.specs.World.{code_nodes}
use Rattle.search_moves.specs.Instances.{IsBodyOver}
use Rattle.search_moves.specs.Moves.{LeavesRest}
use Rattle.search_moves.proofs.RestLemmas.{leaves-grown}
use Rattle.search_moves.proofs.MoveLemmas.{if-ok}
use Rattle.search_moves.proofs.stage.Stage.body.Goals as goal

pub body-requires-clause-code : goal.body-requires-clause-code
body-requires-clause-code g c =
    let low = subst (λ w. w.base ≤ length w.heap.nodes) (sym c.self.view_is) c.requires.base in
    let known = subst (λ w. (p : Program) × (k : Clause) × (g.C.Clauses.stands (code_nodes w) c.args.code.now p) × (slice_get p.clauses c.args.clause ≡ Some k) × (length c.args.variables.items ≡ k.variables)) (sym c.self.view_is) c.requires.code in
    (c.self.inside.base, known.0, known.1, low, known.2, known.3, known.4)

pub returns-clause-made : goal.returns-clause-made
returns-clause-made g c =
    let low = subst (λ w. w.base ≤ length w.heap.nodes) (sym c.self.view_is) c.requires.base in
    let here = if-ok c.body.result _
    (λ (body : Option TermId). (p : Program) (k : Clause) → g.C.Clauses.stands (code_nodes (world_of c.self.inside)) c.args.code.now p → slice_get p.clauses c.args.clause ≡ Some k → IsBodyOver k c.args.depth c.args.variables.items c.self.inside.heap c.body.new.heap body)
    (λ body h p k stands is. h c.self.inside.base p k low stands is) c.body.ensures.made in
    subst (λ w. IfOk c.body.result (λ body. (p : Program) (k : Clause) → g.C.Clauses.stands (code_nodes w) c.args.code.now p → slice_get p.clauses c.args.clause ≡ Some k → IsBodyOver k c.args.depth c.args.variables.items w.heap c.body.new.heap body)) c.self.view_is here

pub returns-clause-rest : goal.returns-clause-rest
returns-clause-rest g c =
    let w = world_of c.self.inside in
    let h = c.body.new.heap in
    subst (λ z. LeavesRest z (record w { heap = h })) c.self.view_is (leaves-grown w h c.is_sound.ensures c.body.ensures.grows)
