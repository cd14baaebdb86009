use Rattle.std.proofs.Common.{◌<◌, ◌+◌, ◌++◌, ◌∷◌, [], List, map, length, take, drop, ap, sym, ◌∙◌, subst, arith}
use Rattle.level_terms.specs.Sound.{AllOlder}
use Rattle.level_terms.specs.declared.node.TermId.{TermId}
use Rattle.level_terms.specs.Values.{value_of, IsAppOf}
use Rattle.level_terms.proofs.MakeLemmas.{older-back}
use Rattle.beta_fragment.proofs.SplitLemmas.{args-slice}
use Rattle.beta_fragment.proofs.QuoteWork.{app-done, split-at, take-count}
use Rattle.beta_fragment.proofs.quoting.finish_app.Goals as goal

pub applied-requires-clause-head : goal.applied-requires-clause-head
applied-requires-clause-head c =
    let parts = split-at c.args.done.now.items c.args.head c.index-front.result.now (let k = c.requires.some in omega (arith, k)) in
    (older-back (length c.args.heap.now.nodes) (take c.args.head c.args.done.now.items) _ (subst (AllOlder (length c.args.heap.now.nodes)) (parts ∙ ap (λ h. take c.args.head c.args.done.now.items ++ h ∷ drop (c.args.head + 1) c.args.done.now.items) (sym c.index-front.ensures)) c.requires.done)).0

pub applied-requires-clause-args : goal.applied-requires-clause-args
applied-requires-clause-args c =
    let parts = split-at c.args.done.now.items c.args.head c.index-front.result.now (let k = c.requires.some in omega (arith, k)) in
    subst (AllOlder (length c.args.heap.now.nodes)) (sym (args-slice c.deref.result.now (c.args.head + 1) ∙ ap (drop (c.args.head + 1)) c.deref.ensures.value))
    (older-back (length c.args.heap.now.nodes) (take c.args.head c.args.done.now.items) _ (subst (AllOlder (length c.args.heap.now.nodes)) (parts ∙ ap (λ h. take c.args.head c.args.done.now.items ++ h ∷ drop (c.args.head + 1) c.args.done.now.items) (sym c.index-front.ensures)) c.requires.done)).1

pub returns-clause-steps : goal.returns-clause-steps
returns-clause-steps c = λ s u work q.
    let below : c.args.head < length c.args.done.now.items = (let k = c.requires.some in omega (arith, k)) in
    let parts = split-at c.args.done.now.items c.args.head c.index-front.result.now below ∙ ap (λ h. take c.args.head c.args.done.now.items ++ h ∷ drop (c.args.head + 1) c.args.done.now.items) (sym c.index-front.ensures) in
    let slice = args-slice c.deref.result.now (c.args.head + 1) ∙ ap (drop (c.args.head + 1)) c.deref.ensures.value in
    let app = subst (λ (ts : List TermId). IsAppOf (value_of c.args.heap.now c.index-front.result.now) (map (value_of c.args.heap.now) ts) (value_of c.applied.new.heap c.in_ok-r.r)) slice c.in_ok-r.ensures.app in
    app-done s u c.args.heap.now c.applied.new.heap work (take c.args.head c.args.done.now.items) (drop (c.args.head + 1) c.args.done.now.items) c.args.done.now.items c.push.new.self.items c.index-front.result.now c.in_ok-r.r c.args.head c.is_sound.ensures c.in_ok-r.ensures.grows
    (take-count c.args.done.now.items c.args.head below) app parts (c.in_ok-push.ensures.items ∙ ap (λ (ds : List TermId). ds ++ c.in_ok-r.r ∷ []) c.truncate.ensures.items) q
