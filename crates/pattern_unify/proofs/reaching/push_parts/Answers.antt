use Rattle.std.proofs.Common.{refl, sym, ◌∙◌}
use Rattle.std.proofs.lemmas.Result.{on_ok_weaker}
use Rattle.pattern_unify.specs.inside.Reaching.{bare, with_next}
use Rattle.pattern_unify.proofs.reaching.push_parts.Goals as goal

pub returns-then-is_ground_normal : goal.returns-then-is_ground_normal
returns-then-is_ground_normal c = bare (sym c.is_ground_normal.ensures ∙ c.if-is_ground_normal.true) refl

pub returns : goal.returns
returns c = on_ok_weaker c.push_next.result with_next c.push_next.ensures
