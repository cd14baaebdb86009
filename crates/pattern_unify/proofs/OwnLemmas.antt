-- A variable at its own depth: its spine has the names of all levels below the depth.
use Rattle.std.proofs.Common.{◌≡◌, ℕ, zero, suc, ◌+◌, ◌<◌, ◌||◌, ◌++◌, List, [], ◌∷◌, map, Bool, false, Some, None, cond, slice_index, refl, ap, ap₂, ◌∙◌, arith, ne_eqb}
use Rattle.std.specs.List.{list_any}
use Rattle.level_terms.specs.declared.node.Node.TheVariants.{Var}
use Rattle.level_terms.specs.declared.node.VarId.{VarId}
use Rattle.level_terms.specs.Graph.{Graph}
use Rattle.level_terms.specs.Growth.{Grows}
use Rattle.level_terms.specs.Reading.{read, levels, variable_reads}
use Rattle.level_terms.specs.Sound.{IsSound}
use Rattle.level_terms.proofs.NodeLemmas.{nodes_read}
use Rattle.ref_terms.specs.terms.Term as term
use Rattle.ref_terms.specs.terms.Term.{Term, At}
use Rattle.ref_terms.specs.unification.Problem.{Binding}
use Rattle.ref_terms.specs.unification.Closing.{up_from, names_below}
use Rattle.ref_terms.specs.unification.Pattern.{of_name, same_name, add_distinct, pattern_of}
use Rattle.ref_terms.specs.unification.Rules.{bind_to}
use Rattle.ref_terms.specs.unification.Shape as shape
use Rattle.ref_terms.specs.unification.Shape.{Shape, shape}
use Rattle.ref_terms.specs.unification.Spine.{apply_all}
use Rattle.beta_fragment.specs.Names.{names}
use Rattle.beta_fragment.proofs.EnterLemmas.{names-places}
use Rattle.pattern_unify.specs.declared.equation.Equation.{Equation}
use Rattle.pattern_unify.specs.declared.side.Side.{Side}
use Rattle.pattern_unify.specs.declared.side.Side.TheVariants.{Abstraction, Redex, Rigid, Flexible}
use Rattle.pattern_unify.specs.inside.Equations.{equation_at, equations_at, problem_at}
use Rattle.pattern_unify.specs.inside.Own.{IsOwn}
use Rattle.pattern_unify.specs.inside.Sides.{shape_at, IsRigid}
use Rattle.pattern_unify.specs.inside.Turns.{rule_at}
use Rattle.pattern_unify.proofs.KeepNodes.{node-kept}
use Rattle.pattern_unify.proofs.KeptLemmas.{open-kept}
use Rattle.pattern_unify.proofs.SearchLemmas.{below_false}
use Rattle.pattern_unify.proofs.SideLemmas.{head-shape}

-- the levels from k on are the names from k on
levels-names : (d k : ℕ) (env : ℕ → Term) → ((i : ℕ) → env i ≡ names (k + i)) → levels d env ≡ map names (up_from k d)
levels-names zero k env h = refl
levels-names (suc d) k env h =
    ap₂ (λ (x : Term) (xs : List Term). x ∷ xs) (h 0 ∙ ap names (let e : k + 0 ≡ k = omega arith in e))
    (levels-names d (suc k) (λ i. env (suc i)) (λ i. h (suc i) ∙ ap names (let e : k + suc i ≡ suc k + i = omega arith in e)))

-- a name below isn't among them
below-lacks : (d k n : ℕ) → n < k → list_any (same_name (of_name n)) (map of_name (up_from k d)) ≡ false
below-lacks zero k n h = refl
below-lacks (suc d) k n h = ap₂ (λ (a b : Bool). a || b) (ne_eqb n k (omega (arith, h))) (below-lacks d (suc k) n (omega (arith, h)))

-- so they are a pattern spine
pub up_from-pattern : (d k : ℕ) → pattern_of (map names (up_from k d)) ≡ Some (map of_name (up_from k d))
up_from-pattern zero k = refl
up_from-pattern (suc d) k =
    ap (add_distinct (Some (of_name k))) (up_from-pattern d (suc k))
    ∙ ap (λ (b : Bool). cond b None (Some (of_name k ∷ map of_name (up_from (suc k) d)))) (below-lacks d (suc k) k (omega arith))

module _ (g : Graph) (m depth t : ℕ) (v : VarId) (sound : IsSound g) (own : IsOwn g m depth t v) where
  -- the node reads as the variable before the names of all levels
  own-reads : read g t names ≡ apply_all (At (term.Var v.index)) (map names (names_below depth))
  own-reads =
      nodes_read g t (Var v) names sound names-places own.node
      ∙ ap (λ o. variable_reads g v.index o names) own.variable.free
      ∙ ap (apply_all (At (term.Var v.index))) (ap (λ d. levels d names) own.levels ∙ levels-names depth 0 names (λ i. ap names (omega arith)))

  pub own-shape : shape m (read g t names) ≡ shape.Flex v.index (map names (names_below depth))
  own-shape =
      ap (shape m) own-reads
      ∙ head-shape m (term.Var v.index) (map names (names_below depth))
      ∙ ap (λ b. cond b (shape.Rigid (term.Var v.index) (map names (names_below depth))) (shape.Flex v.index (map names (names_below depth)))) (below_false v.index m own.assignable)

-- beside a rigid head it is bound to that side
pub own-left : (g : Graph) (m : ℕ) (e : Equation) (work : List Equation) (v : VarId) (right : Side) (bs : List Binding) → IsSound g → IsOwn g m e.depth e.left.index v → IsRigid right →
    rule_at m g e work (shape m (read g e.left.index names)) (shape_at g right) bs ≡ bind_to m v.index (Some (map of_name (names_below e.depth))) (read g e.right.index names) (equation_at g e) (equations_at g work) (problem_at g (work ++ e ∷ []) bs)
own-left g m e work v right bs sound own r =
    ap (λ (s : Shape). rule_at m g e work s (shape_at g right) bs) (own-shape g m e.depth e.left.index v sound own) ∙ go right r
  where
    go : (s : Side) → IsRigid s → rule_at m g e work (shape.Flex v.index (map names (names_below e.depth))) (shape_at g s) bs ≡ bind_to m v.index (Some (map of_name (names_below e.depth))) (read g e.right.index names) (equation_at g e) (equations_at g work) (problem_at g (work ++ e ∷ []) bs)
    go (Rigid h xs) k = ap (λ o. bind_to m v.index o (read g e.right.index names) (equation_at g e) (equations_at g work) (problem_at g (work ++ e ∷ []) bs)) (up_from-pattern e.depth 0)
    go Abstraction k = absurd k
    go Redex k = absurd k
    go (Flexible w xs) k = absurd k

pub own-right : (g : Graph) (m : ℕ) (e : Equation) (work : List Equation) (left : Side) (w : VarId) (bs : List Binding) → IsSound g → IsRigid left → IsOwn g m e.depth e.right.index w →
    rule_at m g e work (shape_at g left) (shape m (read g e.right.index names)) bs ≡ bind_to m w.index (Some (map of_name (names_below e.depth))) (read g e.left.index names) (equation_at g e) (equations_at g work) (problem_at g (work ++ e ∷ []) bs)
own-right g m e work left w bs sound r own =
    ap (λ (s : Shape). rule_at m g e work (shape_at g left) s bs) (own-shape g m e.depth e.right.index w sound own) ∙ go left r
  where
    go : (s : Side) → IsRigid s → rule_at m g e work (shape_at g s) (shape.Flex w.index (map names (names_below e.depth))) bs ≡ bind_to m w.index (Some (map of_name (names_below e.depth))) (read g e.left.index names) (equation_at g e) (equations_at g work) (problem_at g (work ++ e ∷ []) bs)
    go (Rigid h xs) k = ap (λ o. bind_to m w.index o (read g e.left.index names) (equation_at g e) (equations_at g work) (problem_at g (work ++ e ∷ []) bs)) (up_from-pattern e.depth 0)
    go Abstraction k = absurd k
    go Redex k = absurd k
    go (Flexible v xs) k = absurd k

-- a call that assigns nothing and makes no variable leaves it
pub own-later : (g h : Graph) (m depth t : ℕ) (v : VarId) → Grows g h [] [] → h.depths ≡ g.depths → IsOwn g m depth t v → IsOwn h m depth t v
own-later g h m depth t v w d own = record {
  node = node-kept g h w t (Var v) own.node;
  variable = open-kept g h v.index w d own.variable;
  assignable = own.assignable;
  levels = ap (λ (ds : List ℕ). slice_index ds v.index) d ∙ own.levels;
}
