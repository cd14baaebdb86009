use Rattle.std.proofs.Common.{◌≡◌, ◌-◌, ◌++◌, ◌∷◌, [], List, length, map, take, drop, ap, sym, ◌∙◌, subst}
use Rattle.level_terms.specs.Sound.{AllOlder}
use Rattle.level_terms.specs.declared.node.TermId.{TermId}
use Rattle.level_terms.proofs.GrowthLemmas.{grows-refl}
use Rattle.beta_fragment.specs.inside.Work.{Steps}
use Rattle.level_terms.specs.Values.{value_of, IsAppOf}
use Rattle.beta_fragment.specs.declared.renaming.Task.TheVariants.{App}
use Rattle.level_terms.proofs.MakeLemmas.{older-append, older-grown, older-front, older-back}
use Rattle.beta_fragment.proofs.SplitLemmas.{split-args, args-slice, args-count}
use Rattle.beta_fragment.proofs.WorkLemmas.{steps-app}
use Rattle.beta_fragment.proofs.renaming.make_app.Goals as goal

pub returns-then-args-eq0-clause-grows : goal.returns-then-args-eq0-clause-grows
returns-then-args-eq0-clause-grows c = grows-refl c.args.heap.now []

pub applied-requires-clause-head : goal.applied-requires-clause-head
applied-requires-clause-head c =
    let long : c.len.result ≡ length c.args.done.now.items = c.len.ensures ∙ sym c.deref.ensures.len ∙ ap length c.deref.ensures.value in
    let parts = split-args c.args.done.now.items c.len.result c.args.args c.index-head.result.now long c.requires.some in
    (older-back (length c.args.heap.now.nodes) (take (c.len.result - c.args.args - 1) c.args.done.now.items) _ (subst (AllOlder (length c.args.heap.now.nodes)) (parts ∙ ap (λ h. take (c.len.result - c.args.args - 1) c.args.done.now.items ++ h ∷ drop (c.len.result - c.args.args) c.args.done.now.items) (sym c.index-head.ensures)) c.requires.done)).0

pub applied-requires-clause-args : goal.applied-requires-clause-args
applied-requires-clause-args c =
    let long : c.len.result ≡ length c.args.done.now.items = c.len.ensures ∙ sym c.deref.ensures.len ∙ ap length c.deref.ensures.value in
    let parts = split-args c.args.done.now.items c.len.result c.args.args c.index-head.result.now long c.requires.some in
    subst (AllOlder (length c.args.heap.now.nodes)) (sym (args-slice c.deref.result.now (c.len.result - c.args.args) ∙ ap (drop (c.len.result - c.args.args)) c.deref.ensures.value))
    (older-back (length c.args.heap.now.nodes) (take (c.len.result - c.args.args - 1) c.args.done.now.items) _ (subst (AllOlder (length c.args.heap.now.nodes)) (parts ∙ ap (λ h. take (c.len.result - c.args.args - 1) c.args.done.now.items ++ h ∷ drop (c.len.result - c.args.args) c.args.done.now.items) (sym c.index-head.ensures)) c.requires.done)).1

pub returns-clause-steps : goal.returns-clause-steps
returns-clause-steps c = λ plan work.
    let long : c.len.result ≡ length c.args.done.now.items = c.len.ensures ∙ sym c.deref.ensures.len ∙ ap length c.deref.ensures.value in
    let at = c.len.result - c.args.args in
    let parts : c.args.done.now.items ≡ take (c.len.result - c.args.args - 1) c.args.done.now.items ++ c.index-head.result.now ∷ drop (c.len.result - c.args.args) c.args.done.now.items = split-args c.args.done.now.items c.len.result c.args.args c.index-head.result.now long c.requires.some ∙ ap (λ h. take (c.len.result - c.args.args - 1) c.args.done.now.items ++ h ∷ drop (c.len.result - c.args.args) c.args.done.now.items) (sym c.index-head.ensures) in
    let front = older-front (length c.args.heap.now.nodes) (take (c.len.result - c.args.args - 1) c.args.done.now.items) _ (subst (AllOlder (length c.args.heap.now.nodes)) parts c.requires.done) in
    let slice = args-slice c.deref.result.now (c.len.result - c.args.args) ∙ ap (drop (c.len.result - c.args.args)) c.deref.ensures.value in
    subst (λ (ds : List TermId). Steps plan (record { heap = c.args.heap.now; work = work ++ App c.args.args ∷ []; done = c.args.done.now.items }) (record { heap = c.applied.new.heap; work = work; done = ds })) (sym (c.in_ok-push.ensures.items ∙ ap (λ (ds : List TermId). ds ++ c.in_ok-r.r ∷ []) c.truncate.ensures.items))
    (subst (λ (ds : List TermId). Steps plan (record { heap = c.args.heap.now; work = work ++ App c.args.args ∷ []; done = ds }) (record { heap = c.applied.new.heap; work = work; done = take (c.len.result - c.args.args - 1) c.args.done.now.items ++ c.in_ok-r.r ∷ [] })) (sym parts)
    (steps-app plan c.args.heap.now c.applied.new.heap work (take (c.len.result - c.args.args - 1) c.args.done.now.items) (drop (c.len.result - c.args.args) c.args.done.now.items) c.index-head.result.now c.in_ok-r.r c.args.args c.is_sound.ensures c.in_ok-r.ensures.grows front (args-count c.args.done.now.items c.len.result c.args.args long c.requires.some)
    (subst (λ (ts : List TermId). IsAppOf (value_of c.args.heap.now c.index-head.result.now) (map (value_of c.args.heap.now) ts) (value_of c.applied.new.heap c.in_ok-r.r)) slice c.in_ok-r.ensures.app)))

pub returns-clause-done : goal.returns-clause-done
returns-clause-done c =
    let long : c.len.result ≡ length c.args.done.now.items = c.len.ensures ∙ sym c.deref.ensures.len ∙ ap length c.deref.ensures.value in
    let parts = split-args c.args.done.now.items c.len.result c.args.args c.index-head.result.now long c.requires.some in
    let front = older-front (length c.args.heap.now.nodes) (take (c.len.result - c.args.args - 1) c.args.done.now.items) _ (subst (AllOlder (length c.args.heap.now.nodes)) parts c.requires.done) in
    subst (AllOlder (length c.applied.new.heap.nodes)) (sym (c.in_ok-push.ensures.items ∙ ap (λ (ds : List TermId). ds ++ c.in_ok-r.r ∷ []) c.truncate.ensures.items))
    (older-append (length c.applied.new.heap.nodes) (take (c.len.result - c.args.args - 1) c.args.done.now.items) (c.in_ok-r.r ∷ []) (older-grown c.args.heap.now c.applied.new.heap c.in_ok-r.ensures.grows (take (c.len.result - c.args.args - 1) c.args.done.now.items) front) (c.in_ok-r.ensures.there, tt))
