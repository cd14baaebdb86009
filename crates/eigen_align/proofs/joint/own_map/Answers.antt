use Rattle.std.proofs.Common.{◌≡◌, ◌∙◌, ◌++◌, ◌∷◌, [], ◌+◌, ℕ, suc, List, sym, ap, arith}
use Rattle.ref_terms.specs.unification.Closing.{names_below}
use Rattle.eigen_align.proofs.JointLemmas.{own-more}
use Rattle.eigen_align.proofs.joint.own_map.Goals as goal

pub loop-i-preserved : goal.loop-i-preserved
loop-i-preserved c = c.in_ok-push.ensures.last ∙ ap (λ (ns : List ℕ). ns ++ c.loop-i.i ∷ []) c.loop-i.invariant ∙ sym (own-more c.loop-i.i) ∙ ap names_below (let up : suc c.loop-i.i ≡ c.loop-i.i + 1 = omega arith in up)
