use Rattle.std.proofs.Common.{rules, ◌≡◌, ◌∙◌, ◌<◌, ◌++◌, [], ◌∷◌, map, length, sym, ap, Some, None, arith, if◌then◌else◌}
use Rattle.std.specs.Prelude.{position, slice_get, slice_set, unwrap_or}
use Rattle.std.specs.List.{list_any}
use Rattle.std.proofs.lemmas.List.{map-set, map-append, length-map}
use mathlib.Core.Path.{fun_ext}
use Rattle.clause_index.specs.inside.Lists.{same_group, found, all_lists}
use Rattle.clause_index.proofs.EqLemmas.{group-is}
use Rattle.clause_index.proofs.ListLemmas.{put-found, put-new, keys-new, number-low, item-at}
use Rattle.clause_index.proofs.lists.Lists.push.Goals as goal

pub returns-in-Some-clause-lists : goal.returns-in-Some-clause-lists
returns-in-Some-clause-lists c = λ h.
    let old = c.args.self.now in
    let keys = old.groups.keys in
    let n = c.in-Some.number in
    let at : position (same_group c.args.group) keys ≡ Some n = ap (λ f. position f keys) (fun_ext (λ q. sym (group-is c.args.group q))) ∙ sym c.get_index_of.ensures.index ∙ c.in-Some.is in
    let low : n < length old.lists.items = omega (arith, number-low c.args.group keys n at, c.requires) in
    let items : c.push.new.self.items ≡ c.index_mut.result.now.items ++ c.args.clause ∷ [] = search rules in
    let was : unwrap_or (slice_get (all_lists old) n) [] ≡ c.index_mut.result.now.items = item-at (λ v. v.items) old.lists.items n c.index_mut.result.now low c.index_mut.ensures.value in
    ap (found h keys) (map-set (λ v. v.items) old.lists.items n c.push.new.self ∙ ap (slice_set (all_lists old) n) (items ∙ ap (λ xs. xs ++ c.args.clause ∷ []) (sym was)))
    ∙ put-found h c.args.group keys (all_lists old) n c.args.clause (c.requires ∙ sym (length-map old.lists.items (λ v. v.items))) at

pub returns-clause-lists : goal.returns-clause-lists
returns-clause-lists c = λ h.
    let old = c.args.self.now in
    let keys = old.groups.keys in
    let at : position (same_group c.args.group) keys ≡ None = ap (λ f. position f keys) (fun_ext (λ q. sym (group-is c.args.group q))) ∙ sym c.get_index_of.ensures.index ∙ c.in_default.is in
    let more : c.insert.new.self.keys ≡ keys ++ c.args.group ∷ [] = c.in_ok-insert.ensures.keys ∙ ap (λ f. if list_any f keys then keys else keys ++ c.args.group ∷ []) (fun_ext (group-is c.args.group)) ∙ keys-new c.args.group keys at in
    let list : c.push-2.new.self.items ≡ c.args.clause ∷ [] = search rules in
    let lists : c.push-3.new.self.items ≡ old.lists.items ++ c.push-2.new.self ∷ [] = search rules in
    ap (λ ks. found h ks (map (λ v. v.items) c.push-3.new.self.items)) more
    ∙ ap (found h (keys ++ c.args.group ∷ [])) (ap (map (λ v. v.items)) lists ∙ map-append (λ v. v.items) old.lists.items (c.push-2.new.self ∷ []) ∙ ap (λ xs. all_lists old ++ xs ∷ []) list)
    ∙ put-new h c.args.group keys (all_lists old) c.args.clause (c.requires ∙ sym (length-map old.lists.items (λ v. v.items))) at
