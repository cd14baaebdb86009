use Rattle.std.proofs.Common.{Some, ap, ◌∙◌, subst, arith}
use Rattle.level_terms.specs.declared.node.Node.TheVariants.{Lam}
use Rattle.level_terms.specs.Valid.{IsValid}
use Rattle.level_terms.proofs.ReadLemmas.{valid-below}
use Rattle.beta_fragment.proofs.EnterLemmas.{body-entered, body-valid, enter-made}
use Rattle.beta_fragment.proofs.body.enter.Goals as goal

pub view-requires : goal.view-requires
view-requires c = valid-below c.args.heap.now c.args.lam.index c.args.depth c.requires.valid

pub returns-in-Lam-clause-own : goal.returns-in-Lam-clause-own
returns-in-Lam-clause-own c =
    let here = c.view.ensures ∙ ap Some c.in-Lam.is in
    let made = enter-made c.args.heap.now c.args.lam.index c.args.depth c.in-Lam.depth c.in-Lam.body c.requires.made here in
    here ∙ ap (λ d. Some (Lam d c.in-Lam.body)) made

pub returns-in-Lam-clause-valid : goal.returns-in-Lam-clause-valid
returns-in-Lam-clause-valid c =
    let own = returns-in-Lam-clause-own c in
    subst (IsValid c.args.heap.now c.in-Lam.body.index) (omega arith) (body-valid c.args.heap.now c.is_sound.ensures c.args.lam.index c.args.depth c.in-Lam.body c.args.depth own c.requires.valid)

pub returns-in-Lam-clause-reads : goal.returns-in-Lam-clause-reads
returns-in-Lam-clause-reads c = body-entered c.args.heap.now c.is_sound.ensures c.args.lam.index c.args.depth c.in-Lam.body (returns-in-Lam-clause-own c)
