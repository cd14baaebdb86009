use Rattle.std.proofs.Common.{ℕ, List, ◌-◌, ◌<◌, length, slice_index, ap, ◌∙◌, arith}
use Rattle.std.proofs.lemmas.List.{get_or_default}
use Rattle.beta_fragment.proofs.LevelListLemmas.{levels-length, own-name, more-name}
use Rattle.beta_fragment.proofs.levels.Levels.name.Goals as goal

pub returns-then-level-self : goal.returns-then-level-self
returns-then-level-self c = own-name c.self.inside.own c.self.inside.more.items c.args.level c.if-level-self.true ∙ ap (λ (ls : List ℕ). slice_index ls c.args.level) c.self.view_is

pub index-requires : goal.index-requires
index-requires c =
    let seen = ap length c.self.view_is in
    let long = levels-length c.self.inside.own c.self.inside.more.items in
    omega (arith, seen, long, c.requires, c.if-level-self.false, c.self.inside.more.ok)

pub returns : goal.returns
returns c =
    let seen = ap length c.self.view_is in
    let long = levels-length c.self.inside.own c.self.inside.more.items in
    let within : c.args.level - c.self.inside.own < length c.self.inside.more.items = omega (arith, seen, long, c.requires, c.if-level-self.false) in
    c.index.ensures ∙ get_or_default c.self.inside.more.items (c.args.level - c.self.inside.own) c.index.result.now 0 within
    ∙ more-name c.self.inside.own c.self.inside.more.items c.args.level c.if-level-self.false
    ∙ ap (λ (ls : List ℕ). slice_index ls c.args.level) c.self.view_is
