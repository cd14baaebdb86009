-- Readings are proper sides of an equation.
use Rattle.std.proofs.Common.{◌≡◌, ℕ, zero, suc, ◌≤◌, List, [], ◌∷◌, map, length, cond, nat_eq, Bool, true, false, slice_index, refl, ◌∙◌, arith, ne_eqb}
use Rattle.level_terms.specs.declared.node.Node.{Node}
use Rattle.level_terms.specs.declared.node.Node.TheVariants.{Con, Int, Str, Level, Lam, App, Var}
use Rattle.level_terms.specs.declared.node.TermId.{TermId}
use Rattle.level_terms.specs.Graph.{Graph, Assigned}
use Rattle.level_terms.specs.Layer.{layer_of}
use Rattle.level_terms.specs.Sound.{IsSound}
use Rattle.level_terms.specs.Valid.{IsValid}
use Rattle.level_terms.specs.Reading.{read, enter, levels, layer_term, node_term, closed_term, value_term, values_of}
use Rattle.level_terms.proofs.FoldLemmas.{IsKnown, AllKnown, all_known}
use Rattle.level_terms.proofs.ValidLemmas.{valid_deeper}
use Rattle.ref_terms.specs.terms.Term as term
use Rattle.ref_terms.specs.terms.Term.{Term, Head, At}
use Rattle.ref_terms.specs.terms.Index.{ren, shift, next}
use Rattle.ref_terms.specs.terms.Apply.{apply}
use Rattle.ref_terms.specs.terms.Occurs.{is_variable, occurs}
use Rattle.ref_terms.specs.terms.Instance.{only, valued, inst_all}
use Rattle.ref_terms.specs.unification.Spine.{apply_all}
use Rattle.ref_terms.specs.unification.Proper.{IsSide, AreProper}
use Rattle.ref_terms.specs.lemmas.TermLemmas.{ren_sub}
use Rattle.ref_terms.proofs.unification.GeneralRun.{most-general}
use Rattle.ref_terms.proofs.unification.RealRuns.{real-clashes}
use Rattle.beta_fragment.specs.Names.{names}
use Rattle.level_terms.proofs.ReadLemmas.{read-follows}
use Rattle.pattern_unify.specs.Answers.{problem_of}
use Rattle.pattern_unify.specs.Unifiers.{IsMostGeneral, IsWithoutUnifier}
use Rattle.pattern_unify.proofs.AbsentLemmas.{absent-apply, absent-fill}
use Rattle.pattern_unify.proofs.ClosedTerms.{read-lacks}
use Rattle.pattern_unify.proofs.OccursLemmas.{occurs-ren, occurs-lam}

-- the variable stands in no term that a level stands for
abbrev AreWithout : ℕ → (ℕ → Term) → Type 0
AreWithout v env = (i : ℕ) → occurs v (env i) ≡ false

absent-enter : (v d : ℕ) (env : ℕ → Term) → AreWithout v env → AreWithout v (enter d env)
absent-enter v d env w i = go (nat_eq d i)
  where
    go : (b : Bool) → occurs v (cond b (At (term.Bound 0)) (shift (env i))) ≡ false
    go true = refl
    go false = occurs-ren v next (env i) ∙ w i

abbrev NoneHas : ℕ → List Term → Type 0
NoneHas v [] = Unit {0}
NoneHas v (x ∷ xs) = (occurs v x ≡ false) × NoneHas v xs

absent-apply_all : (v : ℕ) (xs : List Term) (t : Term) → occurs v t ≡ false → NoneHas v xs → occurs v (apply_all t xs) ≡ false
absent-apply_all v [] t w n = w
absent-apply_all v (x ∷ xs) t w n = absent-apply_all v xs (apply t x) (absent-apply v t x w n.0) n.1

absent-levels : (v d : ℕ) (env : ℕ → Term) → AreWithout v env → NoneHas v (levels d env)
absent-levels v zero env w = tt
absent-levels v (suc d) env w = (w 0, absent-levels v d (λ i. env (suc i)) (λ i. w (suc i)))

absent-parts : (v : ℕ) (f : ℕ → (ℕ → Term) → Term) (env : ℕ → Term) → ((k : ℕ) → occurs v (f k env) ≡ false) → (ts : List TermId) → NoneHas v (map (λ r. r env) (map (λ t. f t.index) ts))
absent-parts v f env w [] = tt
absent-parts v f env w (t ∷ ts) = (w t.index, absent-parts v f env w ts)

-- a variable that no node has stands in no node's term
absent-node : (v variables : ℕ) → variables ≤ v → (depths : List ℕ) (f : ℕ → (ℕ → Term) → Term) → ((k : ℕ) (env : ℕ → Term) → AreWithout v env → occurs v (f k env) ≡ false)
    → (n : Node) → IsKnown variables n → (env : ℕ → Term) → AreWithout v env → occurs v (layer_term depths (layer_of f n) env) ≡ false
absent-node v m h depths f w (Con c) k env l = refl
absent-node v m h depths f w (Int c) k env l = refl
absent-node v m h depths f w (Str c) k env l = refl
absent-node v m h depths f w (Level i) k env l = l i
absent-node v m h depths f w (Lam d t) k env l = occurs-lam v (f t.index (enter d env)) ∙ w t.index (enter d env) (absent-enter v d env l)
absent-node v m h depths f w (App t ts) k env l = absent-apply_all v (map (λ r. r env) (map (λ t. f t.index) ts)) (f t.index env) (w t.index env l) (absent-parts v f env (λ i. w i env l) ts)
absent-node v m h depths f w (Var x) k env l = absent-apply_all v (levels (slice_index depths x.index) env) (At (term.Var x.index)) (ne_eqb v x.index (omega (arith, h, k))) (absent-levels v (slice_index depths x.index) env l)

absent-term : (v variables : ℕ) → variables ≤ v → (nodes : List Node) → AllKnown variables nodes → (depths : List ℕ) (t : ℕ) (env : ℕ → Term) → AreWithout v env → occurs v (node_term nodes depths t env) ≡ false
absent-term v m h [] k depths t env l = refl
absent-term v m h (n ∷ older) k depths t env l = go (nat_eq (length older) t) (λ i e w. absent-term v m h older k.1 depths i e w)
  where
    go : (x : Bool) → ((i : ℕ) (e : ℕ → Term) → AreWithout v e → occurs v (node_term older depths i e) ≡ false) → occurs v (cond x (layer_term depths (layer_of (node_term older depths) n)) (node_term older depths t) env) ≡ false
    go true before = absent-node v m h depths (node_term older depths) before n k.0 env l
    go false before = before t env l

absent-closed : (v variables : ℕ) → variables ≤ v → (nodes : List Node) → AllKnown variables nodes → (depths : List ℕ) (d j t : ℕ) (env : ℕ → Term) → AreWithout v env → occurs v (closed_term nodes depths d j t env) ≡ false
absent-closed v m h nodes k depths d zero t env l = absent-term v m h nodes k depths t env l
absent-closed v m h nodes k depths d (suc j) t env l =
    occurs-lam v (closed_term nodes depths (suc d) j t (enter d env)) ∙ absent-closed v m h nodes k depths (suc d) j t (enter d env) (absent-enter v d env l)

-- nor in a term for another head
valued-absent : (v : ℕ) (u : ℕ → Term) → ((x : ℕ) → nat_eq v x ≡ false → occurs v (u x) ≡ false) → (h : Head) → is_variable v h ≡ false → occurs v (valued u h) ≡ false
valued-absent v u w (term.Var x) e = w x e
valued-absent v u w (term.Name c) e = refl
valued-absent v u w (term.Con c) e = refl
valued-absent v u w (term.Int c) e = refl
valued-absent v u w (term.Str c) e = refl
valued-absent v u w (term.Bound c) e = refl

only-absent : (v x : ℕ) (u : Term) → occurs v u ≡ false → (h : Head) → is_variable v h ≡ false → occurs v (only x u h) ≡ false
only-absent v x u w h e = go (is_variable x h)
  where
    go : (b : Bool) → occurs v (cond b u (At h)) ≡ false
    go true = w
    go false = e

absent-values : (v variables : ℕ) → variables ≤ v → (nodes : List Node) → AllKnown variables nodes → (depths : List ℕ) (bs : List Assigned) (x : ℕ) → nat_eq v x ≡ false → occurs v (values_of nodes depths bs x) ≡ false
unfolding values_of
absent-values v m h nodes k depths [] x e = e
absent-values v m h nodes k depths (a ∷ older) x e =
    absent-fill v (only a.variable (inst_all (values_of nodes depths older) (value_term nodes depths a)))
    (only-absent v a.variable (inst_all (values_of nodes depths older) (value_term nodes depths a))
    (absent-fill v (valued (values_of nodes depths older)) (valued-absent v (values_of nodes depths older) (absent-values v m h nodes k depths older)) (value_term nodes depths a)
    (absent-closed v m h nodes k depths 0 (slice_index depths a.variable) a.value (λ i. At (term.Bound i)) (λ i. refl))))
    (values_of nodes depths older x) (absent-values v m h nodes k depths older x e)

-- a variable that the heap doesn't have stands in no reading
read-known : (g : Graph) → IsSound g → (t v : ℕ) → length g.depths ≤ v → occurs v (read g t names) ≡ false
unfolding read
read-known g s t v h =
    let k = all_known (length g.depths) g.nodes s.made in
    absent-fill v (valued (values_of g.nodes g.depths g.assigned)) (valued-absent v (values_of g.nodes g.depths g.assigned) (absent-values v (length g.depths) h g.nodes k g.depths g.assigned))
    (node_term g.nodes g.depths t names) (absent-term v (length g.depths) h g.nodes k g.depths t names (λ i. refl))

-- a reading over names has no free bound index
read-closed : (g : Graph) → IsSound g → (t : ℕ) (f : ℕ → ℕ) → ren f (read g t names) ≡ read g t names
read-closed g s t f = ren_sub f (read g t names) ∙ read-follows g s t names (λ i. At (term.Bound (f i))) (λ i. tt)

-- what a valid node reads as is a side of an equation at its depth
pub side-read : (g : Graph) (t depth : ℕ) → IsSound g → IsValid g t depth → IsSide (length g.depths) depth (read g t names)
side-read g t depth s w = record {
  closed = read-closed g s t;
  scoped = λ x h. read-lacks g t x (valid_deeper g t depth x w h);
  known = read-known g s t;
}

-- so the equation of two valid nodes is proper
problem-proper : (g : Graph) (s t depth : ℕ) → IsSound g → IsValid g s depth → IsValid g t depth → AreProper (length g.depths) (problem_of g s t depth).equations
problem-proper g s t depth sound v w = (side-read g s depth sound v, side-read g t depth sound w, tt)

-- its bindings are a most general unifier
pub problem-general : (g : Graph) (s t depth : ℕ) → IsSound g → IsValid g s depth → IsValid g t depth → IsMostGeneral (problem_of g s t depth)
problem-general g s t depth sound v w q e = most-general 0 (problem_of g s t depth) q (omega arith) (problem-proper g s t depth sound v w) refl e

-- and its clash that is no knot has no unifier
pub problem-clash : (g : Graph) (s t depth : ℕ) → IsSound g → IsValid g s depth → IsValid g t depth → IsWithoutUnifier (problem_of g s t depth)
problem-clash g s t depth sound v w e = real-clashes 0 (problem_of g s t depth) (omega arith) (problem-proper g s t depth sound v w) e
