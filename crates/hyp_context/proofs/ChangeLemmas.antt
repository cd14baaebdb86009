-- Contexts in a heap that changes.
use Rattle.std.proofs.Common.{◌≡◌, ◌≤◌, ◌||◌, Bool, true, false, not, List, [], ◌∷◌, map, cond, length, refl, sym, ap, ap₂, ◌∙◌, arith, subst}
use Rattle.std.specs.List.{list_any}
use Rattle.ref_terms.specs.search.Assumption.{Assumption}
use Rattle.ref_terms.specs.search.Branch.{bound_assumption}
use Rattle.ref_terms.specs.search.Touched.{assumption_has}
use Rattle.level_terms.specs.Graph.{Graph}
use Rattle.level_terms.specs.Undo.{mark_of}
use Rattle.level_terms.proofs.GrowthLemmas.{ignores_growth, undo_now}
use Rattle.hyp_clause.specs.Hyps.{assumption_in}
use Rattle.hyp_clause.proofs.HypLemmas.{hyps-valid}
use Rattle.hyp_clause.proofs.FixedLemmas.{flagged-read_same, flagged-no_variable}
use Rattle.hyp_clause.proofs.LawLemmas.{hyps-bound}
use Rattle.hyp_clause.proofs.HeadedLemmas.{bound-headed}
use Rattle.hyp_context.specs.Contexts.{changeable_hyps, IsContext, BindingsReachContexts, UndoRestoresContexts, VariablesAreInChangeable, UnchangeableReadTheSame}

pub bindings-reach : BindingsReachContexts
bindings-reach g h r s bs depth hs assumptions sound w follow v = record {
  reads = hyps-bound g h bs hs follow v.valid ∙ ap (map (bound_assumption bs)) v.reads;
  valid = hyps-valid g h r s hs sound w v.valid;
  within = v.within;
  headed = bound-headed bs assumptions v.headed;
}

pub undo-restores : UndoRestoresContexts
undo-restores g h r s depth hs assumptions w v =
    let n : length g.nodes ≤ length g.nodes = omega arith in
    let d : length g.depths ≤ length g.depths = omega arith in
    let a : length g.assigned ≤ length g.assigned = omega arith in
    let same = ignores_growth g h r s (mark_of g) w (record { nodes = n; variables = d; entries = a }) ∙ undo_now g in
    subst (λ (f : Graph). IsContext f depth hs assumptions) (sym same) v

-- a clause in which nothing can change has no variable
pub variables-changeable : VariablesAreInChangeable
variables-changeable g v [] w = refl
variables-changeable g v (h ∷ hs) w = go h.ground_normal refl (variables-changeable g v hs w.1)
  where
    go : (b : Bool) → h.ground_normal ≡ b → list_any (assumption_has v) (map (assumption_in g) hs) ≡ list_any (assumption_has v) (map (assumption_in g) (changeable_hyps hs)) →
        (assumption_has v (assumption_in g h) || list_any (assumption_has v) (map (assumption_in g) hs)) ≡ list_any (assumption_has v) (map (assumption_in g) (cond (not b) (h ∷ changeable_hyps hs) (changeable_hyps hs)))
    go true e k = ap (λ (x : Bool). x || list_any (assumption_has v) (map (assumption_in g) hs)) (flagged-no_variable g h v w.0 e) ∙ k
    go false e k = ap (λ (x : Bool). assumption_has v (assumption_in g h) || x) k

-- and reads the same
pub unchangeable-same : UnchangeableReadTheSame
unchangeable-same g h r s [] sound w v n = refl
unchangeable-same g h r s (x ∷ hs) sound w v n = go x.ground_normal refl n (λ e. unchangeable-same g h r s hs sound w v.1 e)
  where
    go : (b : Bool) → x.ground_normal ≡ b → cond (not b) (x ∷ changeable_hyps hs) (changeable_hyps hs) ≡ [] → (changeable_hyps hs ≡ [] → map (assumption_in h) hs ≡ map (assumption_in g) hs) → map (assumption_in h) (x ∷ hs) ≡ map (assumption_in g) (x ∷ hs)
    go true e k more = ap₂ (λ (a : Assumption) (more : List Assumption). a ∷ more) (flagged-read_same g h r s x sound w v.0 e) (more k)
    go false e k more = absurd (let z : x ∷ changeable_hyps hs ≡ [] = k in cc)
