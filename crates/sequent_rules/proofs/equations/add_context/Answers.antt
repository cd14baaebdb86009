use Rattle.std.proofs.Common.{IfSome, sym, subst, length, ◌<◌}
use Rattle.level_terms.specs.declared.node.TermId.{TermId}
use Rattle.level_terms.specs.Valid.{IsValid}
use Rattle.level_terms.proofs.GainLemmas.{gains-refl}
use Rattle.sequent_rules.proofs.EquationLemmas.{valid-at}
use Rattle.sequent_rules.proofs.equations.add_context.Goals as goal

pub add_list-requires-clause-pattern : goal.add_list-requires-clause-pattern
add_list-requires-clause-pattern c =
    subst (λ (t : TermId). IsValid c.args.heap.now t.index c.args.lifting.now.depth) (sym c.index.ensures)
    (valid-at c.args.heap.now c.args.lifting.now.depth c.args.tuple.now.made.now.variables.items c.in-Some.v c.index.result.now c.requires.variables
    (subst (λ o. IfSome o (λ v. v < length c.args.tuple.now.made.now.variables.items)) c.in-Some.is c.requires.low))

pub returns-in-None-clause-gains : goal.returns-in-None-clause-gains
returns-in-None-clause-gains c = gains-refl c.args.heap.now
