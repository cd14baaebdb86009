use Rattle.std.proofs.Common.{◌∙◌, ap}
use Rattle.std.specs.List.{list_any}
use mathlib.Core.Path.{fun_ext}
use Rattle.suspend.specs.Store.{has_fired}
use Rattle.suspend.proofs.PairLemmas.{pair-is}
use Rattle.suspend.proofs.pairs.Pairs.has.Goals as goal

pub returns : goal.returns
returns c =
    c.contains.ensures ∙ ap (λ f. list_any f c.self.inside.set.keys) (fun_ext (λ h. pair-is c.args.pair.now h))
    ∙ ap (λ fs. has_fired fs c.args.pair.now) c.self.view_is
