use Rattle.std.proofs.Common.{rules, ◌≡◌, ◌∙◌, ◌∷◌, [], List, refl, sym, ap, subst}
use Rattle.level_terms.proofs.GrowthLemmas.{grows-refl, grows-trans}
use Rattle.level_terms.specs.Reading.{read}
use Rattle.level_terms.specs.Valid.{IsValid}
use Rattle.beta_fragment.specs.Names.{names}
use Rattle.hyp_clause.specs.declared.forms.Form.{Form}
use Rattle.hyp_clause.specs.inside.Forms.{forms_of, assumed_around, level_outside, AreFormsAt}
use Rattle.hyp_clause.proofs.FormLemmas.{forms-grown, assumed-grown}
use Rattle.hyp_clause.proofs.around.assumed_by.Goals as goal

pub loop-at-init : goal.loop-at-init
loop-at-init c = record {
  reads = refl;
  forms = c.requires.forms;
  valid = c.requires.valid;
  variables = refl;
  grows = grows-refl c.args.heap.now [];
}

pub returns-in_err-whole-clause-grows : goal.returns-in_err-whole-clause-grows
returns-in_err-whole-clause-grows c = grows-trans c.args.heap.now c.loop-at.heap c.with_form.new.heap [] [] [] c.loop-at.invariant.grows c.with_form.ensures.grows

pub loop-at-preserved : goal.loop-at-preserved
loop-at-preserved c =
    let form = c.deref.result.now.form in
    let outer = forms_of c.deref-in-Inside.result.now.outer in
    let here : forms_of c.loop-at.at.now ≡ form ∷ outer = search rules in
    let forms = subst (AreFormsAt c.loop-at.heap c.args.scope c.loop-at.under) here c.loop-at.invariant.forms in
    let out : c.outside-under.result ≡ level_outside form c.loop-at.under = c.outside-under.ensures in
    record {
      reads =
          assumed-grown c.loop-at.heap c.with_form.new.heap c.with_form.ensures.sound c.with_form.ensures.grows c.args.scope (level_outside form c.loop-at.under) outer (read c.with_form.new.heap c.in_ok-whole.whole.index names) forms.1
          ∙ ap (assumed_around c.loop-at.heap outer) c.in_ok-whole.ensures.reads
          ∙ ap (λ (fs : List Form). assumed_around c.loop-at.heap fs (read c.loop-at.heap c.loop-at.whole.index names)) (sym here)
          ∙ c.loop-at.invariant.reads;
      forms = subst (λ d. AreFormsAt c.with_form.new.heap c.args.scope d outer) (sym out) (forms-grown c.loop-at.heap c.with_form.new.heap c.with_form.ensures.sound c.with_form.ensures.grows c.args.scope (level_outside form c.loop-at.under) outer forms.1);
      valid = subst (IsValid c.with_form.new.heap c.in_ok-whole.whole.index) (sym out) c.in_ok-whole.ensures.valid;
      variables = c.with_form.ensures.variables ∙ c.loop-at.invariant.variables;
      grows = grows-trans c.args.heap.now c.loop-at.heap c.with_form.new.heap [] [] [] c.loop-at.invariant.grows c.with_form.ensures.grows;
    }
