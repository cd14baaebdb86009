use Rattle.std.proofs.Common.{◌≡◌, ◌∙◌, ◌<◌, ◌++◌, [], ◌∷◌, List, length, get_or, refl, ap, sym, subst, arith}
use Rattle.ref_terms.specs.search.Front.{term_of}
use Rattle.level_terms.specs.declared.node.TermId.{TermId}
use Rattle.level_terms.specs.Reading.{read}
use Rattle.level_terms.specs.Valid.{IsValid}
use Rattle.level_terms.proofs.GrowthLemmas.{grows-refl}
use Rattle.clause_compile.specs.Instances.{names, AllValidAt}
use Rattle.clause_compile.specs.declared.skeleton.Part.{Part}
use Rattle.clause_compile.specs.declared.skeleton.Part.TheVariants.{Made}
use Rattle.clause_compile.specs.inside.Meaning.{IsSkeleton, AreTermsOf}
use Rattle.clause_compile.proofs.ClosedLemmas.{closed-skeleton}
use Rattle.clause_compile.proofs.QueryLemmas.{goal-made, first-reads, first-valid}
use Rattle.clause_compile.proofs.closed.closed_lam.Goals as goal

pub make_terms-requires-clause-skeleton : goal.make_terms-requires-clause-skeleton
make_terms-requires-clause-skeleton c =
    let none : c.as_slice.result.now ≡ [] = c.as_slice.ensures.value ∙ c.new-variables.ensures.items in
    let roots : c.push-2.new.self ≡ Made c.len-made.result ∷ [] = c.in_ok-push-2.ensures.last ∙ ap (λ (ps : List Part). ps ++ Made c.len-made.result ∷ []) c.new-roots.ensures in
    let compiled = closed-skeleton c.args.heap.now c.args.steps c.push.new.self c.push-2.new.self c.args.body (Made c.len-made.result) c.requires.body.0 c.args.tree.now c.requires.draft c.requires.within c.requires.body.1 c.requires.body.2 c.in_ok-push.ensures.last (ap Made c.len-made.ensures) roots in
    subst (λ (vs : List TermId). IsSkeleton (length vs) c.args.heap.now.nodes (record { steps = c.push.new.self; roots = c.push-2.new.self })) (sym none) compiled.made

pub make_terms-requires-clause-variables : goal.make_terms-requires-clause-variables
make_terms-requires-clause-variables c =
    let none : c.as_slice.result.now ≡ [] = c.as_slice.ensures.value ∙ c.new-variables.ensures.items in
    subst (λ (vs : List TermId). AllValidAt c.args.heap.now vs 0) (sym none) tt

pub first_of-t-requires : goal.first_of-t-requires
first_of-t-requires c =
    let g = c.args.heap.now in
    let h = c.make_terms.new.heap in
    let none : c.as_slice.result.now ≡ [] = c.as_slice.ensures.value ∙ c.new-variables.ensures.items in
    let roots : c.push-2.new.self ≡ Made c.len-made.result ∷ [] = c.in_ok-push-2.ensures.last ∙ ap (λ (ps : List Part). ps ++ Made c.len-made.result ∷ []) c.new-roots.ensures in
    let compiled = closed-skeleton g c.args.steps c.push.new.self c.push-2.new.self c.args.body (Made c.len-made.result) c.requires.body.0 c.args.tree.now c.requires.draft c.requires.within c.requires.body.1 c.requires.body.2 c.in_ok-push.ensures.last (ap Made c.len-made.ensures) roots in
    let made = subst (λ (us : List TermId). AreTermsOf g h 0 us (record { steps = c.push.new.self; roots = c.push-2.new.self }) c.make_terms.new.terms.items) none c.in_ok-make_terms.ensures.terms in
    let all = goal-made g g h [] c.make_terms.new.terms.items 0 (record { steps = c.push.new.self; roots = c.push-2.new.self }) c.args.tree.now c.is_sound.ensures c.requires.draft.closed (grows-refl g []) refl compiled made (λ v l. absurd (let z : v < 0 = l in omega (arith, z))) in
    subst (λ (ts : List TermId). 0 < length ts) (sym c.as_slice-2.ensures.value) all.some

pub returns-clause-reads : goal.returns-clause-reads
returns-clause-reads c =
    let g = c.args.heap.now in
    let h = c.make_terms.new.heap in
    let zero : TermId = record { index = 0 } in
    let none : c.as_slice.result.now ≡ [] = c.as_slice.ensures.value ∙ c.new-variables.ensures.items in
    let roots : c.push-2.new.self ≡ Made c.len-made.result ∷ [] = c.in_ok-push-2.ensures.last ∙ ap (λ (ps : List Part). ps ++ Made c.len-made.result ∷ []) c.new-roots.ensures in
    let compiled = closed-skeleton g c.args.steps c.push.new.self c.push-2.new.self c.args.body (Made c.len-made.result) c.requires.body.0 c.args.tree.now c.requires.draft c.requires.within c.requires.body.1 c.requires.body.2 c.in_ok-push.ensures.last (ap Made c.len-made.ensures) roots in
    let made = subst (λ (us : List TermId). AreTermsOf g h 0 us (record { steps = c.push.new.self; roots = c.push-2.new.self }) c.make_terms.new.terms.items) none c.in_ok-make_terms.ensures.terms in
    let all = goal-made g g h [] c.make_terms.new.terms.items 0 (record { steps = c.push.new.self; roots = c.push-2.new.self }) c.args.tree.now c.is_sound.ensures c.requires.draft.closed (grows-refl g []) refl compiled made (λ v l. absurd (let z : v < 0 = l in omega (arith, z))) in
    ap (λ (t : TermId). read h t.index names) (c.first_of-t.ensures ∙ ap (λ (us : List TermId). get_or us 0 zero) c.as_slice-2.ensures.value) ∙ first-reads h c.make_terms.new.terms.items zero (term_of 0 c.args.tree.now) all.reads

pub returns-clause-valid : goal.returns-clause-valid
returns-clause-valid c =
    let g = c.args.heap.now in
    let h = c.make_terms.new.heap in
    let zero : TermId = record { index = 0 } in
    let none : c.as_slice.result.now ≡ [] = c.as_slice.ensures.value ∙ c.new-variables.ensures.items in
    let roots : c.push-2.new.self ≡ Made c.len-made.result ∷ [] = c.in_ok-push-2.ensures.last ∙ ap (λ (ps : List Part). ps ++ Made c.len-made.result ∷ []) c.new-roots.ensures in
    let compiled = closed-skeleton g c.args.steps c.push.new.self c.push-2.new.self c.args.body (Made c.len-made.result) c.requires.body.0 c.args.tree.now c.requires.draft c.requires.within c.requires.body.1 c.requires.body.2 c.in_ok-push.ensures.last (ap Made c.len-made.ensures) roots in
    let made = subst (λ (us : List TermId). AreTermsOf g h 0 us (record { steps = c.push.new.self; roots = c.push-2.new.self }) c.make_terms.new.terms.items) none c.in_ok-make_terms.ensures.terms in
    let all = goal-made g g h [] c.make_terms.new.terms.items 0 (record { steps = c.push.new.self; roots = c.push-2.new.self }) c.args.tree.now c.is_sound.ensures c.requires.draft.closed (grows-refl g []) refl compiled made (λ v l. absurd (let z : v < 0 = l in omega (arith, z))) in
    subst (λ (t : TermId). IsValid h t.index 0) (sym (c.first_of-t.ensures ∙ ap (λ (us : List TermId). get_or us 0 zero) c.as_slice-2.ensures.value)) (first-valid h c.make_terms.new.terms.items zero all.valid all.some)

pub returns-in_err-push-clause-grows : goal.returns-in_err-push-clause-grows
returns-in_err-push-clause-grows c = grows-refl c.args.heap.now []

pub returns-in_err-push-2-clause-grows : goal.returns-in_err-push-2-clause-grows
returns-in_err-push-2-clause-grows c = grows-refl c.args.heap.now []
