use Rattle.std.proofs.Common.{◌≡◌, sym, ap, ◌∙◌, subst, arith, length-append, length, ◌∷◌, Some}
use Rattle.dance_list.specs.Dance.{linked, unlinked, undone, left_by, IsDance}
use Rattle.dance_list.proofs.Chains.{Backward}
use Rattle.dance_list.proofs.Dances.{relink-here, relink-before, relink-after, relink-whole}
use Rattle.dance_list.proofs.list.DanceList.relink.Goals as goal

pub get-cell-requires : goal.get-cell-requires
get-cell-requires g c =
    let i = c.self.inside in let req = c.requires.newest in let d = subst (λ z. IsDance i.chain.cells.blocks i.chain.first i.chain.last i.nodes.items i.history.linked z) (ap unlinked c.self.view_is ∙ req.3) c.self.invariant.0 in
    relink-here i.chain.cells.blocks i.chain.first i.chain.last i.nodes.items i.history.linked req.1 c.args.n req.0 req.2 d (ap linked c.self.view_is ∙ req.4)

pub set_after-requires : goal.set_after-requires
set_after-requires g c =
    let i = c.self.inside in let req = c.requires.newest in let d = subst (λ z. IsDance i.chain.cells.blocks i.chain.first i.chain.last i.nodes.items i.history.linked z) (ap unlinked c.self.view_is ∙ req.3) c.self.invariant.0 in
    relink-before i.chain.cells.blocks i.chain.first i.chain.last i.nodes.items i.history.linked req.1 c.args.n req.0 req.2 d (ap linked c.self.view_is ∙ req.4) c.get-cell.result.now c.get-cell.ensures

pub set_before-requires : goal.set_before-requires
set_before-requires g c =
    let i = c.self.inside in let req = c.requires.newest in let d = subst (λ z. IsDance i.chain.cells.blocks i.chain.first i.chain.last i.nodes.items i.history.linked z) (ap unlinked c.self.view_is ∙ req.3) c.self.invariant.0 in
    relink-after i.chain.cells.blocks i.chain.first i.chain.last i.nodes.items i.history.linked req.1 c.args.n req.0 req.2 d (ap linked c.self.view_is ∙ req.4) c.get-cell.result.now c.get-cell.ensures c.set_after.new.self.cells.blocks c.set_after.new.self.first c.set_after.ensures.link

pub relinked-requires : goal.relinked-requires
relinked-requires g c = let req = c.requires.newest in (req.0, req.1, req.2, ap unlinked c.self.view_is ∙ req.3)

pub invariant_of-self : goal.invariant_of-self
invariant_of-self g c =
    let i = c.self.inside in let req = c.requires.newest in let now = c.relinked.ensures in let u = now.0 in let us = c.relinked.new.self.unlinked in
    let stacks : req.0 ∷ req.1 ≡ u ∷ us = sym req.3 ∙ ap unlinked (sym c.self.view_is) ∙ now.2 in let same : req.0 ≡ u = cc in
    let d = subst (λ z. IsDance i.chain.cells.blocks i.chain.first i.chain.last i.nodes.items i.history.linked z) now.2 c.self.invariant.0 in
    let e : i.history.linked ≡ left_by u = ap linked c.self.view_is ∙ req.4 ∙ ap left_by same in
    let whole = relink-whole i.chain.cells.blocks i.chain.first i.chain.last i.nodes.items i.history.linked us c.args.n u now.1 d e c.get-cell.result.now c.get-cell.ensures
    c.set_after.new.self.cells.blocks c.set_before.new.self.cells.blocks c.set_after.new.self.first c.set_before.new.self.last c.set_after.ensures.link
    (subst (λ z. Backward c.set_after.new.self.cells.blocks z c.get-cell.result.now.after (Some c.args.n) c.set_before.new.self.cells.blocks c.set_before.new.self.last) c.set_after.ensures.other_end c.set_before.ensures.link) in
    let was = ap length e ∙ length-append u.2 u.3 in let is = ap length now.3 ∙ length-append u.2 ((u.0, u.1) ∷ u.3) in
    (rw now.3 (subst (λ z. IsDance c.set_before.new.self.cells.blocks z c.set_before.new.self.last i.nodes.items (undone u) us) (sym c.set_before.ensures.other_end) whole), omega (arith, c.self.invariant.1, was, is))

pub returns-clause-back : goal.returns-clause-back
returns-clause-back g c =
    let req = c.requires.newest in let now = c.relinked.ensures in
    let stacks : req.0 ∷ req.1 ≡ now.0 ∷ c.relinked.new.self.unlinked = sym req.3 ∙ ap unlinked (sym c.self.view_is) ∙ now.2 in let same : req.0 ≡ now.0 = cc in
    (now.0, now.1, ap unlinked (sym c.self.view_is) ∙ now.2, req.4 ∙ ap left_by same, now.3)
