use Rattle.std.proofs.Common.{◌∙◌, ℕ, [], List, Option, ap}
use mathlib.Core.Path.{fun_ext}
use Rattle.std.specs.List.{flat_map}
use Rattle.decl_trees.specs.declared.rule.TypeRule.TheVariants.{Y1, Y2}
use Rattle.decl_types.specs.declared.names.DeclaredName.{DeclaredName}
use Rattle.decl_types.specs.TypeRules.{first_breach, kind_names, typed_names, name_breaches, kinds_in, arrows_of, breaches_of_words, first_of, first_breach}
use Rattle.decl_types.proofs.Firsts.{first-three}
use Rattle.decl_types.proofs.declarations.first_breach.Goals as goal

pub returns : goal.returns
unfolding first_breach
returns c =
    let table = c.args.symbols.now in
    let decls = c.args.decls.now in
    first-three (name_breaches Y1 [] (flat_map (kind_names table) decls)) (name_breaches Y2 [] (flat_map typed_names decls)) (flat_map (breaches_of_words (arrows_of (flat_map kinds_in decls))) decls)
    c.in_ok-in_kinds.in_kinds c.in_ok-in_types.in_types c.first_misused.result c.earlier.result c.earlier-2.result
    (c.in_ok-in_kinds.ensures ∙ ap (λ (ns : List DeclaredName). first_of (name_breaches Y1 [] ns)) (c.as_slice.ensures.value ∙ c.in_ok-kind_names.ensures))
    (c.in_ok-in_types.ensures ∙ ap (λ (ns : List DeclaredName). first_of (name_breaches Y2 [] ns)) (c.as_slice-2.ensures.value ∙ c.in_ok-typed_names.ensures))
    (c.first_misused.ensures ∙ ap (λ (f : ℕ → Option ℕ). first_of (flat_map (breaches_of_words f) decls)) (fun_ext c.in_ok-kinds.ensures))
    c.earlier.ensures c.earlier-2.ensures
