use Rattle.std.proofs.Common.{List, [], Some, map, length, ap, sym, ◌∙◌, subst, arith, length-append}
use Rattle.std.proofs.lemmas.Result.{IfOk-weaker}
use Rattle.level_terms.specs.declared.node.Node.TheVariants.{App}
use Rattle.level_terms.specs.declared.node.TermId.{TermId}
use Rattle.level_terms.specs.Sound.{AllOlder}
use Rattle.level_terms.proofs.GrowthLemmas.{grows-refl}
use Rattle.level_terms.specs.Values.{value_of, IsAppOf}
use Rattle.level_terms.proofs.MakeLemmas.{app-flattened, parts-there, older-append, head-none}
use Rattle.level_terms.proofs.making.applied.Goals as goal

pub returns-in_err-all-clause-grows : goal.returns-in_err-all-clause-grows
returns-in_err-all-clause-grows c = grows-refl c.args.heap.now []

pub made_app-requires-clause-head : goal.made_app-requires-clause-head
made_app-requires-clause-head c = (parts-there c.args.heap.now c.args.head.index _ c.is_sound.ensures (c.view.ensures ∙ ap Some c.in-App.is)).0

pub made_app-requires-clause-no_application : goal.made_app-requires-clause-no_application
made_app-requires-clause-no_application c = head-none c.args.heap.now c.args.head.index c.in-App.inner _ c.is_sound.ensures (c.view.ensures ∙ ap Some c.in-App.is)

pub made_app-requires-clause-args : goal.made_app-requires-clause-args
made_app-requires-clause-args c =
    let first = (parts-there c.args.heap.now c.args.head.index _ c.is_sound.ensures (c.view.ensures ∙ ap Some c.in-App.is ∙ ap (λ (ts : List TermId). Some (App c.in-App.inner ts)) (sym c.as_slice.ensures))).1 in
    subst (AllOlder (length c.args.heap.now.nodes)) (sym (c.as_slice-in-App.ensures.value ∙ c.in_ok-all.ensures))
    (older-append (length c.args.heap.now.nodes) c.as_slice.result.now c.args.args.now first c.requires.args)

pub made_app-requires-clause-some : goal.made_app-requires-clause-some
made_app-requires-clause-some c =
    let all = ap length (c.as_slice-in-App.ensures.value ∙ c.in_ok-all.ensures) ∙ length-append c.as_slice.result.now c.args.args.now in
    let some = c.requires.some in
    omega (arith, all, some)

pub returns-in-App : goal.returns-in-App
returns-in-App c =
    let here = c.view.ensures ∙ ap Some c.in-App.is ∙ ap (λ (ts : List TermId). Some (App c.in-App.inner ts)) (sym c.as_slice.ensures) in
    record {
      app = IfOk-weaker c.made_app.result _ _
          (λ r w. app-flattened c.args.heap.now c.args.head c.in-App.inner c.as_slice.result.now c.args.args.now (value_of c.made_app.new.heap r) c.is_sound.ensures here
          (subst (λ (ts : List TermId). IsAppOf (value_of c.args.heap.now c.in-App.inner) (map (value_of c.args.heap.now) ts) (value_of c.made_app.new.heap r)) (c.as_slice-in-App.ensures.value ∙ c.in_ok-all.ensures) w))
          c.made_app.ensures.app;
      there = c.made_app.ensures.there;
      variables = c.made_app.ensures.variables;
      grows = c.made_app.ensures.grows;
    }
