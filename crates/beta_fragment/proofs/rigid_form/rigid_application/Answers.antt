use Rattle.std.proofs.Common.{◌≡◌, ◌∙◌, List, Some, ap, sym, subst}
use Rattle.level_terms.specs.declared.node.TermId.{TermId}
use Rattle.level_terms.proofs.NodeLemmas.{nodes_read}
use Rattle.ref_terms.specs.terms.Term.{Term, At}
use Rattle.ref_terms.specs.unification.Spine.{apply_all}
use Rattle.beta_fragment.specs.HeadForm.{AllValidAt, all_read, rigid_head}
use Rattle.beta_fragment.specs.Names.{names}
use Rattle.beta_fragment.proofs.EnterLemmas.{names-places}
use Rattle.beta_fragment.proofs.MoveLemmas.{app-valid}
use Rattle.level_terms.proofs.ReadLemmas.{valid-below}
use Rattle.beta_fragment.proofs.rigid_form.rigid_application.Goals as goal

pub view-requires : goal.view-requires
view-requires c = valid-below c.args.heap.now c.args.t.index c.args.depth c.requires

pub rigid_leaf-requires : goal.rigid_leaf-requires
rigid_leaf-requires c = valid-below c.args.heap.now c.in-App.head.index c.args.depth (app-valid c.args.heap.now c.args.t.index c.args.depth c.in-App.head _ c.is_sound.ensures (c.view.ensures ∙ ap Some c.in-App.is) c.requires).0

pub returns : goal.returns
returns c =
    let heap = c.args.heap.now in
    let here = c.view.ensures ∙ ap Some c.in-App.is in
    let same : c.in_ok-list.list ≡ c.in-App.args = c.in_ok-list.ensures ∙ c.as_slice.ensures in (
      subst (λ (ts : List TermId). AllValidAt heap ts c.args.depth) (sym same) (app-valid heap c.args.t.index c.args.depth c.in-App.head _ c.is_sound.ensures here c.requires).1,
      nodes_read heap c.args.t.index _ names c.is_sound.ensures names-places here
          ∙ ap (λ (u : Term). apply_all u (all_read heap c.in-App.args)) c.in-Some.ensures
          ∙ ap (λ (ts : List TermId). apply_all (At (rigid_head c.in-Some.rigid)) (all_read heap ts)) (sym same),
    )
