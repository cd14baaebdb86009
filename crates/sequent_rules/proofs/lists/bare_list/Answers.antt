use Rattle.std.proofs.Common.{Some, sym, ap, ◌∙◌}
use Rattle.ref_terms.specs.terms.Term.{At, Con}
use Rattle.sequent_rules.proofs.ItemLemmas.{nil-number}
use Rattle.sequent_rules.proofs.lists.bare_list.Goals as goal

pub returns-in-Some-Nil : goal.returns-in-Some-Nil
returns-in-Some-Nil c = λ g depth. ap (λ n. At (Con n)) (nil-number c.args.c.0 (sym c.of.ensures ∙ c.in-Some-Nil.is ∙ ap Some c.in-Some-Nil.field-0-is))
