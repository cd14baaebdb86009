use Rattle.std.proofs.Common.{◌≡◌, ◌∙◌, sym, ap, Option, Some, map, reverse, option_map, nat_eq, true, false}
use Rattle.std.specs.List.{list_any}
use Rattle.level_terms.specs.Reading.{read}
use Rattle.ref_terms.specs.unification.Pattern.{SpineName, spine_name, add_distinct, of_name}
use Rattle.beta_fragment.specs.Names.{names}
use Rattle.pattern_unify.proofs.SpineNameLemmas.{name-there, name-put}
use Rattle.pattern_unify.proofs.spine.add_name.Goals as goal

pub returns-then-contains-clause-added : goal.returns-then-contains-clause-added
returns-then-contains-clause-added c =
    let named : Some (of_name c.in-Some.name) ≡ spine_name (read c.args.heap.now c.args.t.index names) = ap (option_map of_name) (sym c.in-Some.is) ∙ c.in_ok-name.ensures.name in
    let there : list_any (λ m. nat_eq m c.in-Some.name) c.args.ns.now.items ≡ true = ap (list_any (λ m. nat_eq m c.in-Some.name)) (sym c.deref.ensures.value) ∙ sym c.if-contains.ensures.value in
    name-there c.in-Some.name c.args.ns.now.items there
    ∙ ap (λ (o : Option SpineName). add_distinct o (Some (map of_name (reverse c.args.ns.now.items)))) named

pub returns-clause-added : goal.returns-clause-added
returns-clause-added c =
    let named : Some (of_name c.in-Some.name) ≡ spine_name (read c.args.heap.now c.args.t.index names) = ap (option_map of_name) (sym c.in-Some.is) ∙ c.in_ok-name.ensures.name in
    let absent : list_any (λ m. nat_eq m c.in-Some.name) c.args.ns.now.items ≡ false = ap (list_any (λ m. nat_eq m c.in-Some.name)) (sym c.deref.ensures.value) ∙ sym c.if-contains.ensures.value in
    name-put c.in-Some.name c.args.ns.now.items c.push.new.self.items c.in_ok-push.ensures.items absent
    ∙ ap (λ (o : Option SpineName). add_distinct o (Some (map of_name (reverse c.args.ns.now.items)))) named
