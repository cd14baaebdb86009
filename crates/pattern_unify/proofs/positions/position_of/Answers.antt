use Rattle.std.proofs.Common.{◌∙◌, nat_eq, rules, tests}
use Rattle.std.proofs.lemmas.Iterator.{YieldsList-from_slice}
use Rattle.std.proofs.lemmas.Iterator.Adapters.{position_from-zero}
use Rattle.std.proofs.lemmas.Iterator.Search.{position_from_yields_List}
use Rattle.pattern_unify.proofs.PositionLemmas.{place-is}
use Rattle.pattern_unify.proofs.positions.position_of.Goals as goal

pub returns : goal.returns
returns c =
    position_from_yields_List (λ y. nat_eq y c.args.x) _ _ c.position.result c.position.ensures.ran (YieldsList-from_slice c.args.ys.now cc) (λ x b q k. search (rules, tests))
    ∙ position_from-zero (λ y. nat_eq y c.args.x) c.args.ys.now
    ∙ place-is c.args.x c.args.ys.now
