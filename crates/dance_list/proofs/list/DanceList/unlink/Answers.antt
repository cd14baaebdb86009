use Rattle.std.proofs.Common.{sym, ap, ◌∙◌, subst, arith, length-append, length, ◌∷◌}
use Rattle.dance_list.specs.Dance.{linked, unlinked, left_by, IsDance}
use Rattle.dance_list.proofs.Chains.{Backward}
use Rattle.dance_list.proofs.Dances.{unlink-here, unlink-before, unlink-after, unlink-whole}
use Rattle.dance_list.proofs.list.DanceList.unlink.Goals as goal

pub get-cell-requires : goal.get-cell-requires
get-cell-requires g c =
    let i = c.self.inside in let req = c.requires.linked in
    unlink-here i.chain.cells.blocks i.chain.first i.chain.last i.nodes.items i.history.linked i.history.unlinked c.args.n req.0 req.1 c.self.invariant.0 (ap linked c.self.view_is ∙ req.2)

pub set_after-requires : goal.set_after-requires
set_after-requires g c =
    let i = c.self.inside in let req = c.requires.linked in
    unlink-before i.chain.cells.blocks i.chain.first i.chain.last i.nodes.items i.history.linked i.history.unlinked c.args.n req.0 req.1 c.self.invariant.0 (ap linked c.self.view_is ∙ req.2) c.get-cell.result.now c.get-cell.ensures

pub set_before-requires : goal.set_before-requires
set_before-requires g c =
    let i = c.self.inside in let req = c.requires.linked in
    unlink-after i.chain.cells.blocks i.chain.first i.chain.last i.nodes.items i.history.linked i.history.unlinked c.args.n req.0 req.1 c.self.invariant.0 (ap linked c.self.view_is ∙ req.2) c.get-cell.result.now c.get-cell.ensures
    c.set_after.new.self.cells.blocks c.set_after.new.self.first c.set_after.ensures.link

pub unlinked-requires : goal.unlinked-requires
unlinked-requires g c = let req = c.requires.linked in (req.0, req.1, ap linked c.self.view_is ∙ req.2)

pub invariant_of-self : goal.invariant_of-self
invariant_of-self g c =
    let i = c.self.inside in let now = c.unlinked.ensures in let u = now.0 in
    let whole = unlink-whole i.chain.cells.blocks i.chain.first i.chain.last i.nodes.items i.history.linked i.history.unlinked c.args.n u now.1 c.self.invariant.0 now.2 c.get-cell.result.now c.get-cell.ensures
    c.set_after.new.self.cells.blocks c.set_before.new.self.cells.blocks c.set_after.new.self.first c.set_before.new.self.last c.set_after.ensures.link
    (subst (λ z. Backward c.set_after.new.self.cells.blocks z c.get-cell.result.now.after c.get-cell.result.now.before c.set_before.new.self.cells.blocks c.set_before.new.self.last) c.set_after.ensures.other_end c.set_before.ensures.link) in
    let was = ap length now.2 ∙ length-append u.2 ((u.0, u.1) ∷ u.3) in let is = ap length now.3 ∙ length-append u.2 u.3 in
    (rw (now.3, now.4) (subst (λ z. IsDance c.set_before.new.self.cells.blocks z c.set_before.new.self.last i.nodes.items (left_by u) (u ∷ i.history.unlinked)) (sym c.set_before.ensures.other_end) whole), omega (arith, c.self.invariant.1, was, is))

pub returns-clause-left : goal.returns-clause-left
returns-clause-left g c = let now = c.unlinked.ensures in (now.0, now.1, ap linked (sym c.self.view_is) ∙ now.2, now.3, now.4 ∙ ap (λ z. now.0 ∷ unlinked z) c.self.view_is)
