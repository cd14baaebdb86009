-- The value by which a variable keeps some positions.
use Rattle.std.proofs.Common.{◌≡◌, ℕ, ◌<◌, List, [], None, slice_index, ap, ◌∙◌, arith, ne_eqb}
use Rattle.level_terms.specs.declared.node.VarId.{VarId}
use Rattle.level_terms.specs.Graph.{Graph, value_in}
use Rattle.level_terms.specs.Sound.{IsSound}
use Rattle.level_terms.specs.Growth.{Grows}
use Rattle.level_terms.specs.Reading.{read}
use Rattle.level_terms.specs.Reached.{IsUnreached}
use Rattle.ref_terms.specs.unification.Closing.{close_all, names_below, keeping}
use Rattle.beta_fragment.specs.Names.{names}
use Rattle.beta_fragment.proofs.EnterLemmas.{names-places}
use Rattle.beta_fragment.proofs.MoveLemmas.{assigned-before}
use Rattle.pattern_unify.specs.Bound.{IsBound}
use Rattle.pattern_unify.specs.inside.Keeping.{IsVarOver}
use Rattle.pattern_unify.proofs.KeepNodes.{over-reads, over-unreached}
use Rattle.pattern_unify.proofs.KeptLemmas.{bound-after}

-- a node over kept positions of a variable that has no value and was made without levels
pub record IsKeeper (g : Graph) (x : VarId) (kept : List ℕ) (body : ℕ) : Type 0 where
  pub sound : IsSound g
  pub over : IsVarOver g body x kept
  pub free : value_in g.assigned x.index ≡ None
  pub none : slice_index g.depths x.index ≡ 0

pub keeper-made : (old g : Graph) (x : VarId) (kept : List ℕ) (body : ℕ) → IsSound g → Grows old g [] [] → g.depths ≡ old.depths → IsVarOver g body x kept → value_in old.assigned x.index ≡ None → slice_index old.depths x.index ≡ 0 → IsKeeper g x kept body
keeper-made old g x kept body s w d over free none = record {
  sound = s;
  over = over;
  free = assigned-before old g w x.index ∙ free;
  none = ap (λ (ds : List ℕ). slice_index ds x.index) d ∙ none;
}

pub keeper-unreached : (g : Graph) (x : VarId) (kept : List ℕ) (body : ℕ) → IsKeeper g x kept body → (v : ℕ) → v < x.index → IsUnreached g v body
keeper-unreached g x kept body w v h = over-unreached g v body x kept w.sound w.free (ne_eqb v x.index (omega (arith, h))) w.over

-- a variable that gets it, in the heap in which it was made, gets it in the one before
pub keeper-binds : (old g new : Graph) (x : VarId) (kept : List ℕ) (arity body v : ℕ) → IsKeeper g x kept body → IsSound old → Grows old g [] [] → IsBound g new v (close_all (names_below arity) (read g body names)) → IsBound old new v (keeping arity kept x.index)
keeper-binds old g new x kept arity body v w s grows bound =
    bound-after old g new v (close_all (names_below arity) (read g body names)) (keeping arity kept x.index) s grows (ap (close_all (names_below arity)) (over-reads g body x kept w.sound w.free w.none w.over names names-places)) bound
