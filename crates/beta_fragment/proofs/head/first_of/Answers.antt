use Rattle.std.proofs.Common.{◌∙◌, List, ap, sym, subst, reverse, refl}
use Rattle.level_terms.specs.declared.node.TermId.{TermId}
use Rattle.beta_fragment.specs.HeadForm.{AllValidAt}
use Rattle.beta_fragment.specs.inside.Turn.{IsFirst, FirstReady}
use Rattle.beta_fragment.specs.declared.glance.Readiness.TheVariants.{Ready}
use Rattle.level_terms.proofs.ReadLemmas.{valid-below}
use Rattle.beta_fragment.proofs.FirmLemmas.{last-split}
use Rattle.beta_fragment.proofs.HeadLemmas.{newest-arg}
use Rattle.beta_fragment.proofs.FirstLemmas.{first-known}
use Rattle.beta_fragment.proofs.head.first_of.Goals as goal

pub looked_at-requires : goal.looked_at-requires
looked_at-requires c =
    let split = last-split c.args.args.now c.in-Some.arg.now c.in-Some.ensures.value in
    let order = ap reverse split.1 ∙ newest-arg split.0 c.in-Some.arg.now in
    valid-below c.args.heap.now c.in-Some.arg.now.index c.args.depth (subst (λ ts. AllValidAt c.args.heap.now ts c.args.depth) order c.requires.args).0

pub returns-then-known : goal.returns-then-known
returns-then-known c =
    let split = last-split c.args.args.now c.in-Some.arg.now c.in-Some.ensures.value in
    let order = ap reverse split.1 ∙ newest-arg split.0 c.in-Some.arg.now in
    subst (λ (ts : List TermId). IsFirst c.args.heap.now c.args.depth ts (Ready c.in-Some.arg.now)) (sym order)
    (refl, (subst (λ ts. AllValidAt c.args.heap.now ts c.args.depth) order c.requires.args).0, subst (FirstReady c.args.heap.now) order (c.requires.known c.if-known.true))

pub returns-else-known : goal.returns-else-known
returns-else-known c =
    let split = last-split c.args.args.now c.in-Some.arg.now c.in-Some.ensures.value in
    let order = ap reverse split.1 ∙ newest-arg split.0 c.in-Some.arg.now in
    subst (λ (ts : List TermId). IsFirst c.args.heap.now c.args.depth ts c.looked_at.result) (sym order)
    (first-known c.args.heap.now c.args.depth c.in-Some.arg.now (reverse split.0) c.looked_at.result (c.looked_at.ensures c.args.depth (subst (λ ts. AllValidAt c.args.heap.now ts c.args.depth) order c.requires.args).0))
