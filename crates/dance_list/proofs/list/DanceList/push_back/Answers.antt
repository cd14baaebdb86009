use Rattle.std.proofs.Common.{◌≡◌, refl, sym, ap, ◌∙◌, subst, arith, length-append, length, ◌+◌, ◌≤◌, ◌∷◌, ◌++◌, [], Some, vec_len, vec_capacity, IsOk}
use Rattle.dance_list.specs.Dance.{linked, unlinked, nodes, IsDance}
use Rattle.dance_list.specs.declared.cells.Node.{Node}
use Rattle.dance_list.proofs.Chains.{Onward}
use Rattle.dance_list.proofs.Dances.{push-here, pushes, cell-at, one-cell, has-room, when-ok}
use Rattle.dance_list.proofs.list.DanceList.push_back.Goals as goal

pub set_after-requires : goal.set_after-requires
set_after-requires g c =
    let i = c.self.inside in
    subst (λ z. Rattle.std.specs.Prelude.MatchOption i.chain.last Rattle.std.specs.Prelude.⊤ (λ m. Rattle.dance_list.specs.Dance.IsHere z m)) (sym c.adopt-place.ensures)
    (push-here i.chain.cells.blocks i.chain.first i.chain.last i.nodes.items i.history.linked i.history.unlinked _ c.self.invariant.0)

pub get-requires : goal.get-requires
get-requires g c =
    let i = c.self.inside in let n : Node = record { place = c.adopt-place.result; number = c.len-number.result } in let x = c.args.item in
    let count : c.len-number.result ≡ length i.nodes.items = omega (arith, c.len-number.ensures, c.reserve.new.self.ok.0, ap length c.reserve.ensures.items) in
    let content = c.of.ensures ∙ c.in-Ok.ensures.ok in
    let onward = subst (λ z. Onward z i.chain.first i.chain.last (Some n) c.set_after.new.self.cells.blocks c.set_after.new.self.first) (c.adopt-place.ensures ∙ ap (λ z. i.chain.cells.blocks ++ (c.adopt-place.result.ptr, z) ∷ []) content) c.set_after.ensures.link in
    let whole = pushes i.chain.cells.blocks c.set_after.new.self.cells.blocks c.set_before.new.self.cells.blocks i.chain.first c.set_after.new.self.first i.chain.last c.set_before.new.self.last i.nodes.items i.history.linked i.history.unlinked n x c.self.invariant.0 count onward c.set_before.ensures.link in
    (_, cell-at c.set_before.new.self.cells.blocks c.set_after.new.self.first c.set_before.new.self.last _ _ _ whole i.history.linked [] n x refl)

pub invariant_of-self-in-Ok : goal.invariant_of-self-in-Ok
invariant_of-self-in-Ok g c =
    let i = c.self.inside in let n : Node = record { place = c.adopt-place.result; number = c.len-number.result } in let x = c.args.item in
    let count : c.len-number.result ≡ length i.nodes.items = omega (arith, c.len-number.ensures, c.reserve.new.self.ok.0, ap length c.reserve.ensures.items) in
    let content = c.of.ensures ∙ c.in-Ok.ensures.ok in
    let onward = subst (λ z. Onward z i.chain.first i.chain.last (Some n) c.set_after.new.self.cells.blocks c.set_after.new.self.first) (c.adopt-place.ensures ∙ ap (λ z. i.chain.cells.blocks ++ (c.adopt-place.result.ptr, z) ∷ []) content) c.set_after.ensures.link in
    let whole = pushes i.chain.cells.blocks c.set_after.new.self.cells.blocks c.set_before.new.self.cells.blocks i.chain.first c.set_after.new.self.first i.chain.last c.set_before.new.self.last i.nodes.items i.history.linked i.history.unlinked n x c.self.invariant.0 count onward c.set_before.ensures.link in
    let is = one-cell c.set_before.new.self.cells.blocks n _ c.get.result.now (cell-at c.set_before.new.self.cells.blocks c.set_after.new.self.first c.set_before.new.self.last _ _ _ whole i.history.linked [] n x refl) c.get.ensures in
    let links = c.pushed.ensures.0 ∙ ap (λ z. i.history.linked ++ (n, z.item) ∷ []) (sym is) in
    let room : vec_len c.reserve.new.self + 1 ≤ vec_capacity c.reserve.new.self = has-room c.reserve.result _ (sym c.is_err.ensures.value ∙ c.if-is_err.false) c.reserve.ensures.ok in
    let kept : IsOk c.push-kept.result = c.push-kept.ensures.succeeds (omega (arith, room)) in
    let all = when-ok c.push-kept.result c.push-kept.new.self.items (c.reserve.new.self.items ++ n ∷ []) c.reserve.new.self.items kept c.push-kept.ensures.items ∙ ap (λ z. z ++ n ∷ []) c.reserve.ensures.items in
    let long = ap length links ∙ length-append i.history.linked ((n, x) ∷ []) in
    (rw (all, links, c.pushed.ensures.1) (subst (λ z. IsDance c.set_before.new.self.cells.blocks z c.set_before.new.self.last (i.nodes.items ++ n ∷ []) (i.history.linked ++ (n, x) ∷ []) i.history.unlinked) (sym c.set_before.ensures.other_end) whole), omega (arith, c.self.invariant.1, long))

pub returns-in-Ok-clause-ok : goal.returns-in-Ok-clause-ok
returns-in-Ok-clause-ok g c =
    let i = c.self.inside in let n : Node = record { place = c.adopt-place.result; number = c.len-number.result } in let x = c.args.item in
    let count : c.len-number.result ≡ length i.nodes.items = omega (arith, c.len-number.ensures, c.reserve.new.self.ok.0, ap length c.reserve.ensures.items) in
    let content = c.of.ensures ∙ c.in-Ok.ensures.ok in
    let onward = subst (λ z. Onward z i.chain.first i.chain.last (Some n) c.set_after.new.self.cells.blocks c.set_after.new.self.first) (c.adopt-place.ensures ∙ ap (λ z. i.chain.cells.blocks ++ (c.adopt-place.result.ptr, z) ∷ []) content) c.set_after.ensures.link in
    let whole = pushes i.chain.cells.blocks c.set_after.new.self.cells.blocks c.set_before.new.self.cells.blocks i.chain.first c.set_after.new.self.first i.chain.last c.set_before.new.self.last i.nodes.items i.history.linked i.history.unlinked n x c.self.invariant.0 count onward c.set_before.ensures.link in
    let is = one-cell c.set_before.new.self.cells.blocks n _ c.get.result.now (cell-at c.set_before.new.self.cells.blocks c.set_after.new.self.first c.set_before.new.self.last _ _ _ whole i.history.linked [] n x refl) c.get.ensures in
    let links = c.pushed.ensures.0 ∙ ap (λ z. i.history.linked ++ (n, z.item) ∷ []) (sym is) in
    let room : vec_len c.reserve.new.self + 1 ≤ vec_capacity c.reserve.new.self = has-room c.reserve.result _ (sym c.is_err.ensures.value ∙ c.if-is_err.false) c.reserve.ensures.ok in
    let kept : IsOk c.push-kept.result = c.push-kept.ensures.succeeds (omega (arith, room)) in
    let all = when-ok c.push-kept.result c.push-kept.new.self.items (c.reserve.new.self.items ++ n ∷ []) c.reserve.new.self.items kept c.push-kept.ensures.items ∙ ap (λ z. z ++ n ∷ []) c.reserve.ensures.items in
    (all ∙ ap (λ z. nodes z ++ n ∷ []) c.self.view_is, links ∙ ap (λ z. linked z ++ (n, x) ∷ []) c.self.view_is)
