use Rattle.std.proofs.Common.{◌≡◌, ℕ, List, [], Option, ◌∙◌, sym, ap, subst, option_map, IfOk}
use Rattle.level_terms.specs.Reading.{read}
use Rattle.level_terms.proofs.GrowthLemmas.{grows-trans}
use Rattle.level_terms.specs.declared.node.TermId.{TermId}
use Rattle.ref_terms.specs.unification.Shape.{Flex}
use Rattle.ref_terms.specs.search.Joint.{spine_names}
use Rattle.beta_fragment.specs.Names.{names}
use Rattle.beta_fragment.specs.HeadForm.{all_read}
use Rattle.eigen_align.specs.inside.Spines.{spine_read, form_spine}
use Rattle.eigen_align.proofs.FormLemmas.{form-spine}
use Rattle.eigen_align.proofs.spine.spine_of.Goals as goal

pub returns-in-Flex-clause-spine : goal.returns-in-Flex-clause-spine
returns-in-Flex-clause-spine c =
    subst (λ (z : Option (ℕ × List ℕ)). IfOk c.spine_before.result (λ o. option_map spine_read o ≡ z))
    (sym (form-spine c.whnf.new.heap c.args.depth (read c.args.heap.now c.args.t.index names) c.in_ok-variable.field-0 c.in_ok-variable.ensures.form ∙ ap (form_spine c.whnf.new.heap) c.in-Flex.is ∙ ap (λ (ts : List TermId). spine_names (Flex c.in-Flex.variable.index (all_read c.whnf.new.heap ts))) (sym c.as_slice.ensures))) c.spine_before.ensures.spine

pub returns-in-Flex-clause-grows : goal.returns-in-Flex-clause-grows
returns-in-Flex-clause-grows c = grows-trans c.args.heap.now c.whnf.new.heap c.spine_before.new.heap [] [] [] c.whnf.ensures.grows c.spine_before.ensures.grows

pub returns-in-Lam-clause-spine : goal.returns-in-Lam-clause-spine
returns-in-Lam-clause-spine c = sym (form-spine c.whnf.new.heap c.args.depth (read c.args.heap.now c.args.t.index names) c.in_ok-variable.field-0 c.in_ok-variable.ensures.form ∙ ap (form_spine c.whnf.new.heap) c.in-Lam.is)

pub returns-in-Rigid-clause-spine : goal.returns-in-Rigid-clause-spine
returns-in-Rigid-clause-spine c = sym (form-spine c.whnf.new.heap c.args.depth (read c.args.heap.now c.args.t.index names) c.in_ok-variable.field-0 c.in_ok-variable.ensures.form ∙ ap (form_spine c.whnf.new.heap) c.in-Rigid.is)

pub returns-clause-spine : goal.returns-clause-spine
returns-clause-spine c = sym (form-spine c.whnf.new.heap c.args.depth (read c.args.heap.now c.args.t.index names) c.in_ok-variable.field-0 c.in_ok-variable.ensures.form ∙ ap (form_spine c.whnf.new.heap) c.in-Redex.is)
