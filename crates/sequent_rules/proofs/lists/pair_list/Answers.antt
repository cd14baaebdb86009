use Rattle.std.proofs.Common.{Some, sym, ap, ◌∙◌}
use Rattle.level_terms.specs.Reading.{read}
use Rattle.beta_fragment.specs.Names.{names}
use Rattle.ref_terms.specs.terms.Term.{At, App, Con}
use Rattle.sequent_rules.proofs.ItemLemmas.{cons-number}
use Rattle.sequent_rules.proofs.lists.pair_list.Goals as goal

pub returns-in-Some-Cons : goal.returns-in-Some-Cons
returns-in-Some-Cons c = λ g depth v u.
    (v, u, ap (λ n. App (App (At (Con n)) (read g c.args.item.index names)) (read g c.args.rest.index names)) (cons-number c.args.c.0 (sym c.of.ensures ∙ c.in-Some-Cons.is ∙ ap Some c.in-Some-Cons.field-0-is)))
