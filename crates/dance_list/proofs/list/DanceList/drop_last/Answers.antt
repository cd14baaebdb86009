use Rattle.std.proofs.Common.{refl, sym, ap, ◌∙◌, subst, arith, length-append, length, ◌∷◌, ◌++◌, []}
use Rattle.dance_list.specs.Dance.{linked, nodes, IsDance}
use Rattle.dance_list.proofs.Dances.{none-left, snoc-last, unlink-here, unlink-before, drop-block, drop-whole}
use Rattle.dance_list.proofs.list.DanceList.drop_last.Goals as goal

pub get-requires : goal.get-requires
get-requires g c =
    let i = c.self.inside in let req = c.requires.last in
    let at = snoc-last c.pop.new.self.items req.3 c.in-Some.n req.1 (sym c.in-Some.ensures.items ∙ ap nodes c.self.view_is ∙ req.5) in
    unlink-here i.chain.cells.blocks i.chain.first i.chain.last i.nodes.items i.history.linked i.history.unlinked c.in-Some.n (c.in-Some.n, req.2, req.0, []) refl c.self.invariant.0 (ap linked c.self.view_is ∙ req.4 ∙ ap (λ z. req.0 ++ (z, req.2) ∷ []) (sym at))

pub set_after-requires : goal.set_after-requires
set_after-requires g c =
    let i = c.self.inside in let req = c.requires.last in
    let at = snoc-last c.pop.new.self.items req.3 c.in-Some.n req.1 (sym c.in-Some.ensures.items ∙ ap nodes c.self.view_is ∙ req.5) in
    unlink-before i.chain.cells.blocks i.chain.first i.chain.last i.nodes.items i.history.linked i.history.unlinked c.in-Some.n (c.in-Some.n, req.2, req.0, []) refl c.self.invariant.0 (ap linked c.self.view_is ∙ req.4 ∙ ap (λ z. req.0 ++ (z, req.2) ∷ []) (sym at))
    c.get.result.now c.get.ensures

pub popped-requires : goal.popped-requires
popped-requires g c =
    let req = c.requires.last in
    let at = snoc-last c.pop.new.self.items req.3 c.in-Some.n req.1 (sym c.in-Some.ensures.items ∙ ap nodes c.self.view_is ∙ req.5) in
    (req.0, req.2, ap linked c.self.view_is ∙ req.4 ∙ ap (λ z. req.0 ++ (z, req.2) ∷ []) (sym at))

pub release-requires : goal.release-requires
release-requires g c =
    let i = c.self.inside in let now = c.popped.ensures in
    let d = subst (λ z. IsDance i.chain.cells.blocks i.chain.first i.chain.last z i.history.linked i.history.unlinked) c.in-Some.ensures.items c.self.invariant.0 in
    drop-block i.chain.cells.blocks i.chain.first i.chain.last c.pop.new.self.items c.in-Some.n i.history.linked c.popped.new.self.linked now.0 i.history.unlinked d now.1 c.get.result.now c.get.ensures
    c.set_after.new.self.cells.blocks c.set_before.new.self.cells.blocks c.set_after.new.self.first c.set_before.new.self.last c.set_after.ensures.link c.set_before.ensures.link

pub invariant_of-self : goal.invariant_of-self
invariant_of-self g c =
    let i = c.self.inside in let now = c.popped.ensures in
    let d = subst (λ z. IsDance i.chain.cells.blocks i.chain.first i.chain.last z i.history.linked i.history.unlinked) c.in-Some.ensures.items c.self.invariant.0 in
    let whole = drop-whole i.chain.cells.blocks i.chain.first i.chain.last c.pop.new.self.items c.in-Some.n i.history.linked c.popped.new.self.linked now.0 i.history.unlinked d now.1 c.get.result.now c.get.ensures
    c.set_after.new.self.cells.blocks c.set_before.new.self.cells.blocks c.set_after.new.self.first c.set_before.new.self.last c.set_after.ensures.link c.set_before.ensures.link
    c.release.new.self.blocks c.release.result.value c.release.ensures in
    let long = ap length now.1 ∙ length-append c.popped.new.self.linked ((c.in-Some.n, now.0) ∷ []) in
    (rw now.2 (subst (λ z. IsDance c.release.new.self.blocks z c.set_before.new.self.last c.pop.new.self.items c.popped.new.self.linked i.history.unlinked) (sym c.set_before.ensures.other_end) whole), omega (arith, c.self.invariant.1, long))

pub returns-in-Some-clause-rest : goal.returns-in-Some-clause-rest
returns-in-Some-clause-rest g c =
    let now = c.popped.ensures in
    (c.in-Some.n, now.0, ap linked (sym c.self.view_is) ∙ now.1, ap nodes (sym c.self.view_is) ∙ c.in-Some.ensures.items)

pub returns-in_default-clause-rest : goal.returns-in_default-clause-rest
returns-in_default-clause-rest g c =
    let i = c.self.inside in let req = c.requires.last in
    absurd (none-left i.nodes.items req.3 req.1 (omega (arith, c.in_default.ensures.cases.0, i.nodes.ok.0)) (ap nodes c.self.view_is ∙ req.5))
