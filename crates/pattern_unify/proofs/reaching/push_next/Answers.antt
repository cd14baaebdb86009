use Rattle.std.proofs.Common.{◌++◌, ◌∷◌, [], List, Some, sym, ap, ◌∙◌, append_assoc}
use Rattle.level_terms.specs.declared.node.TermId.{TermId}
use Rattle.level_terms.specs.declared.node.Node.TheVariants.{Lam, App}
use Rattle.beta_fragment.proofs.VarLemmas.{var-known}
use Rattle.pattern_unify.proofs.reaching.push_next.Goals as goal

pub returns-in_ok-push-in-Lam : goal.returns-in_ok-push-in-Lam
returns-in_ok-push-in-Lam c = record { node = Lam _ c.in-Lam.body; here = c.view.ensures ∙ ap Some c.in-Lam.is; pushed = c.in_ok-push-in-Lam.ensures.items }

pub returns-in_ok-extend_from_slice-in-App : goal.returns-in_ok-extend_from_slice-in-App
returns-in_ok-extend_from_slice-in-App c = record {
  node = App c.in-App.head c.as_slice.result.now;
  here = c.view.ensures ∙ ap Some c.in-App.is ∙ ap (λ (ts : List TermId). Some (App c.in-App.head ts)) (sym c.as_slice.ensures);
  pushed = c.in_ok-extend_from_slice-in-App.ensures.items
      ∙ ap (λ (ts : List TermId). ts ++ c.as_slice.result.now) c.in_ok-push-in-App.ensures.items
      ∙ append_assoc c.args.work.now.items (c.in-App.head ∷ []) c.as_slice.result.now;
}

pub push_value-requires : goal.push_value-requires
push_value-requires c = var-known c.args.heap.now c.args.node.index c.in-Var.v c.is_sound.ensures (c.view.ensures ∙ ap Some c.in-Var.is)
