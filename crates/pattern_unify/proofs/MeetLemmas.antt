-- A new variable, over which another one is bound.
use Rattle.std.proofs.Common.{◌≡◌, ℕ, suc, ◌<◌, false, nat_eq, List, [], ◌∷◌, ◌++◌, length, length-append, sym, ap, ap₂, ◌∙◌, subst, arith}
use Rattle.level_terms.specs.Graph.{Graph}
use Rattle.level_terms.specs.declared.node.Change.{Change}
use Rattle.level_terms.specs.Growth.{Grows}
use Rattle.level_terms.specs.Reading.{read}
use Rattle.level_terms.specs.Sound.{IsSound}
use Rattle.level_terms.proofs.UndoLemmas.{value_in-past}
use Rattle.ref_terms.specs.terms.Term.{Term}
use Rattle.ref_terms.specs.terms.Instance.{inst}
use Rattle.pattern_unify.specs.Bound.{IsOpen, IsBound, LeavesOthers}
use Rattle.pattern_unify.proofs.KeptLemmas.{grown-nodes}

-- a heap with one more variable, which was made without levels
abbrev pub more : Graph → Graph
more g = record g { depths = g.depths ++ 0 ∷ [] }

one-more : (ds : List ℕ) → length (ds ++ 0 ∷ []) ≡ suc (length ds)
one-more ds = omega (arith, length-append ds (0 ∷ []))

-- the new variable is open
pub new-open : (g h : Graph) (r : ℕ) → IsSound g → r ≡ length g.depths → h ≡ more g → IsOpen h r
new-open g h r s e made = subst (λ (k : Graph). IsOpen k r) (sym made) (subst (IsOpen (more g)) (sym e) (record {
  there = omega (arith, one-more g.depths);
  free = value_in-past (length g.nodes) g.assigned (length g.depths) (length g.depths) s.assigned (omega arith);
}))

-- another variable stays open
pub stays-open : (g h : Graph) (r s : List Change) (v w : ℕ) → Grows g h r s → LeavesOthers v g h → nat_eq v w ≡ false → IsOpen g w → IsOpen h w
stays-open g h r s v w grows others n o = let there = o.there in let e = ap length grows.depths in record {
  there = omega (arith, e, length-append g.depths grows.new_depths);
  free = others w n ∙ o.free;
}

-- two variables, one after the other
pub two-bound : (g h k : Graph) (r s : List Change) (v w : ℕ) (u u' z z' : Term) → u ≡ u' → z ≡ z' → Grows g h r s → IsBound g h v u → IsBound h k w z → (t : ℕ) (env : ℕ → Term) → t < length g.nodes →
    read k t env ≡ inst w z' (inst v u' (read g t env))
two-bound g h k r s v w u u' z z' e f grows a b t env l =
    b t env (let kept = grown-nodes g h r s grows in omega (arith, l, kept))
    ∙ ap₂ (inst w) f (a t env l ∙ ap (λ (x : Term). inst v x (read g t env)) e)
