use Rattle.std.proofs.Common.{◌++◌, ◌<◌, List, ℕ, take, ap, ◌∙◌, arith}
use Rattle.std.specs.List.{range_with_len}
use Rattle.beta_fragment.proofs.LevelListLemmas.{fewer-own, fewer-more}
use Rattle.beta_fragment.proofs.levels.Levels.truncate.Goals as goal

pub returns-then-count-self : goal.returns-then-count-self
returns-then-count-self c =
    ap (λ (more : List ℕ). range_with_len 0 c.args.count ++ more) c.clear.ensures.items
    ∙ fewer-own c.self.inside.own c.self.inside.more.items c.args.count c.if-count-self.true
    ∙ ap (take c.args.count) c.self.view_is

pub returns-else-count-self : goal.returns-else-count-self
returns-else-count-self c =
    let more : c.self.inside.own < c.args.count = c.if-count-self.false in
    ap (λ (more : List ℕ). range_with_len 0 c.self.inside.own ++ more) c.truncate.ensures.items
    ∙ fewer-more c.self.inside.own c.self.inside.more.items c.args.count (omega (arith, more))
    ∙ ap (take c.args.count) c.self.view_is
