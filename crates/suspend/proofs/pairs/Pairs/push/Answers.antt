use Rattle.std.proofs.Common.{◌∙◌, ◌++◌, ◌∷◌, [], ap, if◌then◌else◌}
use Rattle.std.specs.List.{list_any}
use mathlib.Core.Path.{fun_ext}
use Rattle.suspend.specs.Store.{has_fired}
use Rattle.suspend.proofs.PairLemmas.{pair-is}
use Rattle.suspend.proofs.pairs.Pairs.push.Goals as goal

pub returns-clause-ok : goal.returns-clause-ok
returns-clause-ok c =
    let keys = c.self.inside.set.keys in
    let absent = ap (λ fs. has_fired fs c.args.pair) c.self.view_is ∙ c.requires in
    c.in_ok-insert.ensures.keys
    ∙ ap (λ f. if list_any f c.self.inside.set.keys then c.self.inside.set.keys else c.self.inside.set.keys ++ c.args.pair ∷ []) (fun_ext (λ h. pair-is c.args.pair h))
    ∙ ap (λ b. if b then c.self.inside.set.keys else c.self.inside.set.keys ++ c.args.pair ∷ []) absent
    ∙ ap (λ fs. fs ++ c.args.pair ∷ []) c.self.view_is
