use Rattle.std.proofs.Common.{◌≡◌, ◌≤◌, ◌<◌, Some, IfOk, length, slice_get, sym, subst}
use Rattle.ref_terms.specs.search.Program.{Program, Clause}
use Rattle.search_moves.specs.declared.clauses.Instance.{Instance}
use Rattle.search_moves.specs.StageView.{world_of}
use Rattle.search_moves.specs.World.{code_nodes}
use Rattle.search_moves.specs.Instances.{IsInstanceOf}
use Rattle.search_moves.specs.Moves.{LeavesRest}
use Rattle.search_moves.proofs.RestLemmas.{leaves-grown}
use Rattle.search_moves.proofs.MoveLemmas.{if-ok}
use Rattle.search_moves.proofs.stage.Stage.instance.Goals as goal

pub instance-requires : goal.instance-requires
instance-requires g c =
    let low = subst (λ w. w.base ≤ length w.heap.nodes) (sym c.self.view_is) c.requires.base in
    let known = subst (λ w. (p : Program) × (g.C.Clauses.stands (code_nodes w) c.args.code.now p) × (c.args.clause < length p.clauses)) (sym c.self.view_is) c.requires.code in
    (c.self.inside.base, known.0, low, known.1, known.2)

pub returns-clause-made : goal.returns-clause-made
returns-clause-made g c =
    let low = subst (λ w. w.base ≤ length w.heap.nodes) (sym c.self.view_is) c.requires.base in
    let here = if-ok c.instance.result _
    (λ (i : Instance). (p : Program) (k : Clause) → g.C.Clauses.stands (code_nodes (world_of c.self.inside)) c.args.code.now p → slice_get p.clauses c.args.clause ≡ Some k → IsInstanceOf k c.args.depth c.self.inside.heap c.instance.new.heap i)
    (λ i h p k stands is. h c.self.inside.base p k low stands is) c.instance.ensures.made in
    subst (λ w. IfOk c.instance.result (λ i. (p : Program) (k : Clause) → g.C.Clauses.stands (code_nodes w) c.args.code.now p → slice_get p.clauses c.args.clause ≡ Some k → IsInstanceOf k c.args.depth w.heap c.instance.new.heap i)) c.self.view_is here

pub returns-clause-rest : goal.returns-clause-rest
returns-clause-rest g c =
    let w = world_of c.self.inside in
    let h = c.instance.new.heap in
    subst (λ z. LeavesRest z (record w { heap = h })) c.self.view_is (leaves-grown w h c.is_sound.ensures c.instance.ensures.grows)
