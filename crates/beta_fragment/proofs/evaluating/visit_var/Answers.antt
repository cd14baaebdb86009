use Rattle.std.proofs.Common.{◌++◌, ◌∷◌, [], List, refl, sym, ap, ◌∙◌, subst, arith}
use Rattle.level_terms.specs.Reading.{levels, variable_reads}
use Rattle.level_terms.specs.declared.node.Node.TheVariants.{Var}
use Rattle.level_terms.proofs.NodeLemmas.{nodes_read}
use Rattle.ref_terms.specs.terms.Term as term
use Rattle.ref_terms.specs.terms.Term.{At}
use Rattle.ref_terms.specs.unification.Spine.{apply_all}
use Rattle.beta_fragment.specs.inside.Cells.{terms_of}
use Rattle.beta_fragment.specs.declared.evaluating.Task.{Task}
use Rattle.beta_fragment.specs.declared.evaluating.Task.TheVariants.{Visit}
use Rattle.beta_fragment.specs.inside.Evaluation.{Steps, entries_env, done_terms}
use Rattle.beta_fragment.proofs.StayLemmas.{var-low}
use Rattle.beta_fragment.proofs.OpenHeadLemmas.{levels-open}
use Rattle.beta_fragment.proofs.EvaluationLemmas.{steps-done, steps-more, value-comes, value-falls, kept-done, entries-places}
use Rattle.beta_fragment.proofs.evaluating.visit_var.Goals as goal

pub returns-in-Some-clause-steps : goal.returns-in-Some-clause-steps
returns-in-Some-clause-steps c =
    subst (λ (ws : List Task). Steps c.args.heap.now (record { work = c.args.work.now.items ++ Visit c.args.node ∷ []; entries = c.args.entries.now; under = c.args.under; terms = done_terms (terms_of c.args.cells.now) c.args.done.now.items }) (record { work = ws; entries = c.args.entries.now; under = c.args.under; terms = done_terms (terms_of c.args.cells.now) c.args.done.now.items })) (sym c.in_ok-push.ensures.items)
    (steps-more c.args.heap.now c.args.work.now.items (Visit c.in-Some.value ∷ []) (Visit c.in-Some.value ∷ []) c.args.node c.args.entries.now c.args.entries.now c.args.under c.args.under (done_terms (terms_of c.args.cells.now) c.args.done.now.items) refl
    (value-falls c.args.heap.now c.is_sound.ensures c.args.node c.in-Some.value c.args.v c.requires.here (sym c.in-Some.ensures.value))
    (λ k t h. value-comes c.args.heap.now c.is_sound.ensures c.args.node c.in-Some.value c.args.v c.args.entries.now c.args.under k (done_terms (terms_of c.args.cells.now) c.args.done.now.items) t c.requires.here (sym c.in-Some.ensures.value) h))

pub var_term-requires-clause-within : goal.var_term-requires-clause-within
var_term-requires-clause-within c =
    let low = var-low c.args.heap.now c.args.node.index c.args.v c.requires.ready.depth c.is_sound.ensures c.requires.here c.requires.ready.valid in
    let within = c.requires.ready.within in
    let depth = c.var_depth-depth.ensures in
    omega (arith, low, within, depth)

pub returns-clause-steps : goal.returns-clause-steps
returns-clause-steps c =
    steps-done c.args.heap.now c.args.work.now.items c.args.node c.args.entries.now c.args.under (terms_of c.args.cells.now) (terms_of c.var_term.new.cells) c.args.done.now.items c.push-2.new.self.items c.in_ok-r.r
    c.in_ok-push-2.ensures.items c.in_ok-r.ensures.gains c.requires.done
    (λ can. c.in_ok-r.ensures.kept.term
    ∙ ap (λ d. apply_all (At (term.Var c.args.v.index)) (levels d (entries_env c.args.entries.now c.args.under))) c.var_depth-depth.ensures
    ∙ sym (nodes_read c.args.heap.now c.args.node.index (Var c.args.v) (entries_env c.args.entries.now c.args.under) c.is_sound.ensures (entries-places c.args.entries.now c.args.under) c.requires.here
    ∙ ap (λ o. variable_reads c.args.heap.now c.args.v.index o (entries_env c.args.entries.now c.args.under)) (sym c.in_default.ensures.value)))

pub returns-clause-done : goal.returns-clause-done
returns-clause-done c =
    kept-done c.args.heap.now (terms_of c.args.cells.now) (terms_of c.var_term.new.cells) c.args.done.now.items c.push-2.new.self.items c.in_ok-r.r (apply_all (At (term.Var c.args.v.index)) (levels c.var_depth-depth.result (entries_env c.args.entries.now c.args.under)))
    c.in_ok-push-2.ensures.items c.in_ok-r.ensures.gains c.requires.done c.in_ok-r.ensures.kept
    (levels-open c.args.heap.now c.var_depth-depth.result (entries_env c.args.entries.now c.args.under) (At (term.Var c.args.v.index)) (entries-places c.args.entries.now c.args.under) (c.requires.known, sym c.in_default.ensures.value))
