use Rattle.std.proofs.Common.{◌≡◌, ◌∙◌, ℕ, ◌++◌, ◌∷◌, [], List, Option, Some, None, false, cond, nat_eq, length, subst, sym, ap}
use Rattle.std.specs.Prelude.{position}
use Rattle.indexmap.specs.IndexMap.{get}
use Rattle.lp_parser.specs.declared.ast.Place.{Place}
use Rattle.lp_resolve.specs.declared.variable.Variable.{Variable}
use Rattle.lp_resolve.specs.Variables.{Met, is_of, variable, met_word, AreNumbered}
use Rattle.lp_resolve.proofs.Numbered.{met-known, met-new, number-new, numbered-new}
use Rattle.lp_resolve.proofs.variables.Variables.meet_word.Goals as goal

pub returns-in-Some-clause-met : goal.returns-in-Some-clause-met
returns-in-Some-clause-met c =
    let names = c.self.inside.names.items in
    let old = c.self.inside.places.items in
    let w = c.args.word.0 in
    ap (λ (ps : List Place). record { names = names; places = ps }) c.in_ok-push.ensures.items
    ∙ met-known c.args.self.now names old c.args.place w c.in-Some.number.now c.self.view_is (c.in-Some.ensures.value ∙ c.self.invariant w)

pub invariant_of-self-in-Ok : goal.invariant_of-self-in-Ok
invariant_of-self-in-Ok c =
    let names = c.self.inside.names.items in
    let w = c.args.word.0 in
    let length_is : c.len-number.result ≡ length names = c.len-number.ensures ∙ c.self.inside.names.ok.0 in
    let new = numbered-new names (λ (q : ℕ). get nat_eq c.self.inside.numbers q) (λ (q : ℕ). get nat_eq c.insert.new.self q) w c.self.invariant c.in_default.ensures.value
    (λ q. c.in-Ok.ensures.updates.0 q ∙ ap (λ (n : ℕ). cond (nat_eq w q) (Some n) (get nat_eq c.self.inside.numbers q)) length_is) in
    let P : List Variable → Type 0 = λ vs. AreNumbered vs (λ (q : ℕ). get nat_eq c.insert.new.self q) in
    subst P (sym c.in_ok-push-2.ensures.items) new

pub returns-in-Ok-clause-number : goal.returns-in-Ok-clause-number
returns-in-Ok-clause-number c =
    let names = c.self.inside.names.items in
    let w = c.args.word.0 in
    let none : None ≡ position (is_of w) names = c.in_default.ensures.value ∙ c.self.invariant w in
    c.len-number.ensures ∙ c.self.inside.names.ok.0 ∙ number-new c.args.self.now names c.self.inside.places.items w c.self.view_is none

pub returns-in-Ok-clause-met : goal.returns-in-Ok-clause-met
returns-in-Ok-clause-met c =
    let names = c.self.inside.names.items in
    let w = c.args.word.0 in
    let none : None ≡ position (is_of w) names = c.in_default.ensures.value ∙ c.self.invariant w in
    ap (λ (vs : List Variable). record { names = vs; places = c.push.new.self.items }) c.in_ok-push-2.ensures.items
    ∙ ap (λ (ps : List Place). record { names = names ++ variable w false ∷ []; places = ps }) c.in_ok-push.ensures.items
    ∙ met-new c.args.self.now names c.self.inside.places.items c.args.place w c.self.view_is none
