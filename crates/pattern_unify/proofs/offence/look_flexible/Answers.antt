use Rattle.std.proofs.Common.{◌≡◌, ◌≤◌, ◌∙◌, [], ap, subst, arith, nat_eq, true, ne_eqb}
use Rattle.level_terms.proofs.GrowthLemmas.{grows-refl}
use Rattle.ref_terms.specs.terms.Term as term
use Rattle.ref_terms.specs.lemmas.NameLemmas.{nat_eq_self}
use Rattle.ref_terms.specs.unification.Spine.{apply_all}
use Rattle.ref_terms.specs.unification.Pattern.{pattern_of}
use Rattle.beta_fragment.specs.HeadForm.{all_read}
use Rattle.beta_fragment.proofs.HeadLemmas.{read-grown_all, valid-grown_all}
use Rattle.level_terms.proofs.MakeLemmas.{below_true}
use Rattle.pattern_unify.specs.inside.Searching.{searching, spine_says, LooksAt}
use Rattle.pattern_unify.specs.declared.offence.Verdict.TheVariants.{Fine}
use Rattle.pattern_unify.proofs.KeptLemmas.{open-kept}
use Rattle.pattern_unify.proofs.SearchLemmas.{looks-itself, looks-frozen, looks-pattern, looks-loose, pattern-found, pattern-missing, below-found, below_false}
use Rattle.pattern_unify.proofs.offence.look_flexible.Goals as goal

pub returns-then-x-v-clause-looks : goal.returns-then-x-v-clause-looks
returns-then-x-v-clause-looks c =
    looks-itself (searching c.args.mark.index c.args.x.index c.args.ns.now c.args.base) c.args.heap.now c.args.depth c.args.loose c.args.v (all_read c.args.heap.now c.args.args.now) c.args.work.now.items c.at_place.result
    (subst (λ k. nat_eq c.args.x.index k ≡ true) c.if-x-v.true (nat_eq_self c.args.x.index)) c.at_place.ensures

pub returns-then-x-v-clause-grows : goal.returns-then-x-v-clause-grows
returns-then-x-v-clause-grows c = grows-refl c.args.heap.now []

pub returns-in_err-push_subterms-clause-grows : goal.returns-in_err-push_subterms-clause-grows
returns-in_err-push_subterms-clause-grows c = grows-refl c.args.heap.now []

pub returns-then-v-mark-clause-looks : goal.returns-then-v-mark-clause-looks
returns-then-v-mark-clause-looks c =
    looks-frozen (searching c.args.mark.index c.args.x.index c.args.ns.now c.args.base) c.args.heap.now c.args.depth c.args.loose c.args.v c.args.args.now c.args.work.now.items c.push_subterms.new.work.items
    (ne_eqb c.args.x.index c.args.v.index c.if-x-v.false) (below_true c.args.v.index c.args.mark.index c.if-v-mark.true) c.requires.base c.requires.valid c.in_ok-push_subterms.ensures

pub returns-then-v-mark-clause-grows : goal.returns-then-v-mark-clause-grows
returns-then-v-mark-clause-grows c = grows-refl c.args.heap.now []

pub returns-in-Some-clause-looks : goal.returns-in-Some-clause-looks
returns-in-Some-clause-looks c =
    let low : c.args.mark.index ≤ c.args.v.index = (let h = c.if-v-mark.false in omega (arith, h)) in
    looks-pattern (searching c.args.mark.index c.args.x.index c.args.ns.now c.args.base) c.pattern_names.new.heap c.args.depth c.args.loose c.args.v (all_read c.args.heap.now c.args.args.now) c.in-Some.spine.items c.args.work.now.items c.spine_verdict.result
    (ne_eqb c.args.x.index c.args.v.index c.if-x-v.false) (below_false c.args.v.index c.args.mark.index low)
    (pattern-found c.in_ok-spine.field-0 c.in-Some.spine (λ ns. ns.items) (pattern_of (all_read c.args.heap.now c.args.args.now)) c.in-Some.is c.in_ok-spine.ensures.pattern)
    (below-found c.in_ok-spine.field-0 c.in-Some.spine (λ ns. ns.items) c.args.depth c.in-Some.is c.in_ok-spine.ensures.below)
    c.requires.base
    (open-kept c.args.heap.now c.pattern_names.new.heap c.args.v.index c.in_ok-spine.ensures.grows c.in_ok-spine.ensures.variables c.requires.variable)
    low
    (c.spine_verdict.ensures ∙ ap (spine_says c.args.ns.now c.args.base c.args.loose c.args.v) c.as_slice.ensures.value)

pub returns-in_ok-push_subterms-in-None-clause-looks : goal.returns-in_ok-push_subterms-in-None-clause-looks
returns-in_ok-push_subterms-in-None-clause-looks c =
    let low : c.args.mark.index ≤ c.args.v.index = (let h = c.if-v-mark.false in omega (arith, h)) in
    let same = read-grown_all c.args.heap.now c.pattern_names.new.heap c.args.depth c.is_sound.ensures c.in_ok-spine.ensures.grows c.args.args.now c.requires.valid in
    let missing = pattern-missing c.in_ok-spine.field-0 (λ ns. ns.items) (pattern_of (all_read c.args.heap.now c.args.args.now)) c.in-None.is c.in_ok-spine.ensures.pattern in
    subst (λ xs. LooksAt (searching c.args.mark.index c.args.x.index c.args.ns.now c.args.base) c.pattern_names.new.heap c.args.depth c.args.loose (apply_all (term.At (term.Var c.args.v.index)) xs) c.args.work.now.items c.push_subterms-in-None.new.work.items Fine) same
    (looks-loose (searching c.args.mark.index c.args.x.index c.args.ns.now c.args.base) c.pattern_names.new.heap c.args.depth c.args.loose c.args.v c.args.args.now c.args.work.now.items c.push_subterms-in-None.new.work.items
    (ne_eqb c.args.x.index c.args.v.index c.if-x-v.false) (below_false c.args.v.index c.args.mark.index low)
    (ap pattern_of same ∙ missing)
    c.requires.base
    (valid-grown_all c.args.heap.now c.pattern_names.new.heap c.args.depth c.is_sound.ensures c.in_ok-spine.ensures.grows c.args.args.now c.requires.valid)
    c.in_ok-push_subterms-in-None.ensures)
