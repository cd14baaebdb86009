use Rattle.std.proofs.Common.{◌≡◌, ◌∙◌, ℕ, ◌-◌, ◌<◌, List, Option, Some, None, length, nat_eq, sym, ap, arith}
use Rattle.std.specs.Prelude.{position, reverse}
use Rattle.std.specs.Option.{option_map}
use Rattle.std.proofs.lemmas.List.{length-reverse}
use Rattle.lp_resolve.specs.inside.Scopes.{words_of, level_of}
use Rattle.lp_resolve.proofs.Levels.{level-within, level-position}
use Rattle.lp_resolve.proofs.scope.Scope.index_of.Goals as goal

pub overflow_sub-result-in-Some : goal.overflow_sub-result-in-Some
overflow_sub-result-in-Some c =
    let binders = c.self.inside.binders.items in
    let level = level-within (reverse binders) c.args.word.0 c.in-Some.level.now (c.in-Some.ensures.value ∙ c.self.invariant.levels c.args.word.0) in
    omega (arith, level, length-reverse binders, c.len.ensures)

pub returns-in-Some : goal.returns-in-Some
returns-in-Some c =
    let binders = c.self.inside.binders.items in
    let w = c.args.word.0 in
    let level : Some c.in-Some.level.now ≡ level_of (reverse binders) w = c.in-Some.ensures.value ∙ c.self.invariant.levels w in
    let len : c.len.result ≡ length (reverse binders) = omega (arith, length-reverse binders, c.len.ensures) in
    ap (λ (n : ℕ). Some (n - 1 - c.in-Some.level.now)) len
    ∙ ap (λ (o : Option ℕ). option_map (λ l. length (reverse binders) - 1 - l) o) level ∙ level-position (reverse binders) w ∙ ap (position (nat_eq w)) c.self.view_is

pub returns-in-None : goal.returns-in-None
returns-in-None c =
    let binders = c.self.inside.binders.items in
    let w = c.args.word.0 in
    let level : None ≡ level_of (reverse binders) w = c.in-None.ensures.value ∙ c.self.invariant.levels w in
    ap (λ (o : Option ℕ). option_map (λ l. length (reverse binders) - 1 - l) o) level ∙ level-position (reverse binders) w ∙ ap (position (nat_eq w)) c.self.view_is
