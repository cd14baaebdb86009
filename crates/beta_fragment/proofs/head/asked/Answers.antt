use Rattle.std.proofs.Common.{◌∙◌, ap, subst, reverse}
use Rattle.beta_fragment.specs.HeadForm.{AllValidAt}
use Rattle.level_terms.proofs.ReadLemmas.{valid-below}
use Rattle.beta_fragment.proofs.FirmLemmas.{last-split}
use Rattle.beta_fragment.proofs.HeadLemmas.{newest-arg}
use Rattle.beta_fragment.proofs.head.asked.Goals as goal

pub looked_at-requires : goal.looked_at-requires
looked_at-requires c =
    let split = last-split c.args.args.now c.in-Some.arg.now c.in-Some.ensures.value in
    let order = ap reverse split.1 ∙ newest-arg split.0 c.in-Some.arg.now in
    valid-below c.args.heap.now c.in-Some.arg.now.index c.args.depth (subst (λ ts. AllValidAt c.args.heap.now ts c.args.depth) order c.requires.args).0
