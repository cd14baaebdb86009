use Rattle.std.proofs.Common.{◌<◌, length, sym, subst, ◌∙◌}
use Rattle.suspend.proofs.PairLemmas.{last-out}
use Rattle.suspend.proofs.pairs.Pairs.drop_last.Goals as goal

pub returns : goal.returns
returns c =
    let low = subst (λ fs. 0 < length fs) (sym c.self.view_is) c.requires in
    let out = last-out c.self.inside.set.keys c.pop-last.new.self.keys c.pop-last.result low c.pop-last.ensures.found c.pop-last.ensures.keys in
    (out.0, sym c.self.view_is ∙ out.1)
