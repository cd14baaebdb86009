use Rattle.std.proofs.Common.{◌≡◌, ◌<◌, ◌≤◌, ◌-◌, ◌++◌, ◌∷◌, [], List, length, map, take, drop, ap, sym, ◌∙◌, subst, arith, length-drop}
use Rattle.std.proofs.lemmas.List.{take-append-drop}
use Rattle.level_terms.specs.Sound.{AllOlder}
use Rattle.level_terms.specs.declared.node.TermId.{TermId}
use Rattle.level_terms.specs.Values.{value_of, IsAppOf}
use Rattle.level_terms.proofs.MakeLemmas.{older-append, older-grown, older-front, older-back}
use Rattle.beta_fragment.proofs.SplitLemmas.{args-slice}
use Rattle.pattern_unify.specs.inside.Filling.{Steps}
use Rattle.pattern_unify.specs.declared.filling.Task.TheVariants.{App}
use Rattle.pattern_unify.proofs.FillingWork.{steps-app, last-count}
use Rattle.pattern_unify.proofs.filling.make_app.Goals as goal

pub made_app-requires-clause-head : goal.made_app-requires-clause-head
made_app-requires-clause-head c = c.requires.ready.0

pub made_app-requires-clause-no_application : goal.made_app-requires-clause-no_application
made_app-requires-clause-no_application c = c.requires.ready.1

pub made_app-requires-clause-args : goal.made_app-requires-clause-args
made_app-requires-clause-args c =
    let at = c.len.result - c.args.args in
    subst (AllOlder (length c.args.heap.now.nodes)) (sym (args-slice c.deref.result.now at ∙ ap (drop at) c.deref.ensures.value))
    (older-back (length c.args.heap.now.nodes) (take at c.args.done.now.items) (drop at c.args.done.now.items) (subst (AllOlder (length c.args.heap.now.nodes)) (sym (take-append-drop at c.args.done.now.items)) c.requires.done))

pub made_app-requires-clause-some : goal.made_app-requires-clause-some
made_app-requires-clause-some c =
    let long : c.len.result ≡ length c.args.done.now.items = c.len.ensures ∙ sym c.deref.ensures.len ∙ ap length c.deref.ensures.value in
    let at = c.len.result - c.args.args in
    let count = ap length (args-slice c.deref.result.now at ∙ ap (drop at) c.deref.ensures.value) ∙ last-count c.args.done.now.items c.len.result c.args.args long c.requires.ready.3 in
    let some = c.requires.ready.2 in
    omega (arith, count, some)

pub returns-clause-steps : goal.returns-clause-steps
returns-clause-steps c = λ work.
    let long : c.len.result ≡ length c.args.done.now.items = c.len.ensures ∙ sym c.deref.ensures.len ∙ ap length c.deref.ensures.value in
    let at = c.len.result - c.args.args in
    let front = older-front (length c.args.heap.now.nodes) (take at c.args.done.now.items) (drop at c.args.done.now.items) (subst (AllOlder (length c.args.heap.now.nodes)) (sym (take-append-drop at c.args.done.now.items)) c.requires.done) in
    let slice = args-slice c.deref.result.now at ∙ ap (drop at) c.deref.ensures.value in
    subst (λ (ds : List TermId). Steps (record { heap = c.args.heap.now; work = work ++ App c.args.head c.args.args ∷ []; done = c.args.done.now.items }) (record { heap = c.made_app.new.heap; work = work; done = ds })) (sym (c.in_ok-push.ensures.items ∙ ap (λ (ds : List TermId). ds ++ c.in_ok-r.r ∷ []) c.truncate.ensures.items))
    (subst (λ (ds : List TermId). Steps (record { heap = c.args.heap.now; work = work ++ App c.args.head c.args.args ∷ []; done = ds }) (record { heap = c.made_app.new.heap; work = work; done = take at c.args.done.now.items ++ c.in_ok-r.r ∷ [] })) (take-append-drop at c.args.done.now.items)
    (steps-app c.args.heap.now c.made_app.new.heap work (take at c.args.done.now.items) (drop at c.args.done.now.items) c.args.head c.in_ok-r.r c.args.args c.is_sound.ensures c.in_ok-r.ensures.grows front (last-count c.args.done.now.items c.len.result c.args.args long c.requires.ready.3)
    (subst (λ (ts : List TermId). IsAppOf (value_of c.args.heap.now c.args.head) (map (value_of c.args.heap.now) ts) (value_of c.made_app.new.heap c.in_ok-r.r)) slice c.in_ok-r.ensures.app)))

pub returns-clause-done : goal.returns-clause-done
returns-clause-done c =
    let at = c.len.result - c.args.args in
    let front = older-front (length c.args.heap.now.nodes) (take at c.args.done.now.items) (drop at c.args.done.now.items) (subst (AllOlder (length c.args.heap.now.nodes)) (sym (take-append-drop at c.args.done.now.items)) c.requires.done) in
    subst (AllOlder (length c.made_app.new.heap.nodes)) (sym (c.in_ok-push.ensures.items ∙ ap (λ (ds : List TermId). ds ++ c.in_ok-r.r ∷ []) c.truncate.ensures.items))
    (older-append (length c.made_app.new.heap.nodes) (take at c.args.done.now.items) (c.in_ok-r.r ∷ []) (older-grown c.args.heap.now c.made_app.new.heap c.in_ok-r.ensures.grows (take at c.args.done.now.items) front) (c.in_ok-r.ensures.there, tt))
