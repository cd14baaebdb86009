use Rattle.std.proofs.Common.{◌++◌, ◌∷◌, [], List, Some, ap, sym, subst, ◌∙◌, rules, SFits, w64}
use Rattle.std.proofs.lemmas.Int.{to_z-of_z}
use Rattle.ref_terms.specs.terms.Term as term
use Rattle.ref_terms.specs.terms.Term.{At}
use Rattle.beta_fragment.specs.declared.evaluating.Entry.{Entry}
use Rattle.beta_fragment.specs.declared.evaluating.Task.TheVariants.{Visit}
use Rattle.std.proofs.lemmas.Result.{on_ok_weaker}
use Rattle.level_terms.specs.declared.node.Node.TheVariants.{Con, Int, Str}
use Rattle.level_terms.proofs.NodeLemmas.{nodes_read}
use Rattle.beta_fragment.specs.inside.Cells.{terms_of}
use Rattle.beta_fragment.specs.inside.Evaluation.{Steps, done_terms}
use Rattle.level_terms.proofs.ReadLemmas.{valid-below}
use Rattle.beta_fragment.proofs.VarLemmas.{var-known}
use Rattle.beta_fragment.proofs.evaluating.visit.Goals as goal

pub view-requires : goal.view-requires
view-requires c = valid-below c.args.heap.now c.args.node.index c.requires.ready.depth c.requires.ready.valid

pub visit_head-requires-clause-reads : goal.visit_head-requires-clause-reads
visit_head-requires-clause-reads c = λ env p. nodes_read c.args.heap.now c.args.node.index (Con c.in-Con.c) env c.is_sound.ensures p (c.view.ensures ∙ ap Some c.in-Con.is)

pub visit_head-requires-in-Int-clause-reads : goal.visit_head-requires-in-Int-clause-reads
visit_head-requires-in-Int-clause-reads c = λ env p.
    let fits : SFits w64 c.in-Int.n = search rules in
    nodes_read c.args.heap.now c.args.node.index (Int c.in-Int.n) env c.is_sound.ensures p (c.view.ensures ∙ ap Some c.in-Int.is)
    ∙ sym (ap (λ z. At (term.Int z)) (to_z-of_z w64 c.in-Int.n fits))

pub visit_head-requires-in-Str-clause-reads : goal.visit_head-requires-in-Str-clause-reads
visit_head-requires-in-Str-clause-reads c = λ env p. nodes_read c.args.heap.now c.args.node.index (Str c.in-Str.s) env c.is_sound.ensures p (c.view.ensures ∙ ap Some c.in-Str.is)

pub visit_var-requires-clause-known : goal.visit_var-requires-clause-known
visit_var-requires-clause-known c = var-known c.args.heap.now c.args.node.index c.in-Var.v c.is_sound.ensures (c.view.ensures ∙ ap Some c.in-Var.is)

pub returns-in-Con-clause-steps : goal.returns-in-Con-clause-steps
returns-in-Con-clause-steps c = on_ok_weaker c.visit_head.result (λ f. f c.args.work.now.items c.args.entries.now.items c.args.under.now) c.visit_head.ensures.steps

pub returns-in-Int-clause-steps : goal.returns-in-Int-clause-steps
returns-in-Int-clause-steps c = on_ok_weaker c.visit_head-in-Int.result (λ f. f c.args.work.now.items c.args.entries.now.items c.args.under.now) c.visit_head-in-Int.ensures.steps

pub returns-in-Str-clause-steps : goal.returns-in-Str-clause-steps
returns-in-Str-clause-steps c = on_ok_weaker c.visit_head-in-Str.result (λ f. f c.args.work.now.items c.args.entries.now.items c.args.under.now) c.visit_head-in-Str.ensures.steps

pub returns-in-Lam-clause-steps : goal.returns-in-Lam-clause-steps
returns-in-Lam-clause-steps c = on_ok_weaker c.visit_lam.result (λ f. f (done_terms (terms_of c.args.cells.now) c.args.done.now.items)) c.visit_lam.ensures

pub returns-in-App-clause-steps : goal.returns-in-App-clause-steps
returns-in-App-clause-steps c =
    on_ok_weaker c.visit_app.result
    (λ f.
    subst (λ (es : List Entry). Steps c.args.heap.now (record { work = c.args.work.now.items ++ Visit c.args.node ∷ []; entries = es; under = c.args.under.now; terms = done_terms (terms_of c.args.cells.now) c.args.done.now.items }) (record { work = c.visit_app.new.work.items; entries = es; under = c.args.under.now; terms = done_terms (terms_of c.args.cells.now) c.args.done.now.items })) c.as_slice-in-App-2.ensures.value
    (f (done_terms (terms_of c.args.cells.now) c.args.done.now.items)))
    c.visit_app.ensures
