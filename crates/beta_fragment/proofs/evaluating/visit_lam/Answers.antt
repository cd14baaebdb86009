use Rattle.std.proofs.Common.{◌≡◌, ◌+◌, ◌++◌, ◌∷◌, [], List, arith, refl, sym, ap, ◌∙◌, subst, append_assoc}
use Rattle.beta_fragment.specs.declared.evaluating.Task.{Task}
use Rattle.beta_fragment.specs.declared.evaluating.Task.TheVariants.{Visit, Lam}
use Rattle.beta_fragment.specs.inside.Evaluation.{Steps}
use Rattle.beta_fragment.proofs.HeadLemmas.{lam-within}
use Rattle.beta_fragment.proofs.EvaluationLemmas.{steps-more, lam-comes, lam-falls}
use Rattle.beta_fragment.proofs.evaluating.visit_lam.Goals as goal

pub enter-requires : goal.enter-requires
enter-requires c =
    let low = lam-within c.args.heap.now c.args.node.index c.args.made c.args.body c.requires.ready.depth c.is_sound.ensures c.requires.here c.requires.ready.valid in
    let within = c.requires.ready.within in
    omega (arith, low, within)

pub returns : goal.returns
returns c = λ terms.
    let pushed : c.push-2.new.self.items ≡ c.args.work.now.items ++ (Lam c.args.made c.in_ok-before.before ∷ Visit c.args.body ∷ []) =
    c.in_ok-push-2.ensures.items
    ∙ ap (λ (ws : List Task). ws ++ Visit c.args.body ∷ []) c.in_ok-push.ensures.items
    ∙ append_assoc c.args.work.now.items (Lam c.args.made c.in_ok-before.before ∷ []) (Visit c.args.body ∷ []) in
    subst (λ (ws : List Task). Steps c.args.heap.now (record { work = c.args.work.now.items ++ Visit c.args.node ∷ []; entries = c.args.entries.now.items; under = c.args.under.now; terms = terms }) (record { work = ws; entries = c.enter.new.entries.items; under = c.in_ok-inner.inner; terms = terms })) (sym pushed)
    (subst (λ n. Steps c.args.heap.now (record { work = c.args.work.now.items ++ Visit c.args.node ∷ []; entries = c.args.entries.now.items; under = c.args.under.now; terms = terms }) (record { work = c.args.work.now.items ++ (Lam c.args.made c.in_ok-before.before ∷ Visit c.args.body ∷ []); entries = c.enter.new.entries.items; under = n; terms = terms })) (sym c.in_ok-inner.ensures)
    (steps-more c.args.heap.now c.args.work.now.items (Lam c.args.made c.in_ok-before.before ∷ Visit c.args.body ∷ []) (Visit c.args.body ∷ Lam c.args.made c.in_ok-before.before ∷ []) c.args.node c.args.entries.now.items c.enter.new.entries.items c.args.under.now (c.args.under.now + 1) terms refl
    (lam-falls c.args.heap.now c.is_sound.ensures c.args.node c.args.body c.args.made c.in_ok-before.before c.requires.here)
    (λ k t h. lam-comes c.args.heap.now c.is_sound.ensures c.args.node c.args.body c.args.made c.args.entries.now.items c.enter.new.entries.items c.args.under.now c.in_ok-before.before k terms t c.requires.here c.in_ok-before.ensures h)))
