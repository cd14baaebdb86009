use Rattle.std.proofs.Common.{◌≡◌, ◌∙◌, ◌++◌, ◌∷◌, [], ◌+◌, ℕ, suc, List, Option, None, replicate, sym, ap, arith}
use Rattle.eigen_align.proofs.JointLemmas.{repeated-more}
use Rattle.eigen_align.proofs.joint.no_names.Goals as goal

pub loop-i-preserved : goal.loop-i-preserved
loop-i-preserved c = c.in_ok-push.ensures.items ∙ ap (λ (ms : List (Option ℕ)). ms ++ None ∷ []) c.loop-i.invariant ∙ sym (repeated-more c.loop-i.i None) ∙ ap (λ (n : ℕ). replicate n None) (let up : suc c.loop-i.i ≡ c.loop-i.i + 1 = omega arith in up)
