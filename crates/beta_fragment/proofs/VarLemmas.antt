-- Variables that have no value.
use Rattle.std.proofs.Common.{◌≡◌, ℕ, zero, suc, ◌<◌, ◌≤◌, ◌+◌, ◌-◌, ◌*◌, min, ◌++◌, List, [], ◌∷◌, length, map, cond, nat_eq, Bool, true, false, Some, None, slice_index, refl, sym, ap, ap₂, ◌∙◌, arith, subst, ne_eqb, eq-eqb}
use Rattle.std.specs.List.{list_all}
use mathlib.Core.Path.{fun_ext}
use Rattle.level_terms.specs.declared.node.Node.{Node}
use Rattle.level_terms.specs.declared.node.Node.TheVariants.{Var}
use Rattle.level_terms.specs.declared.node.TermId.{TermId}
use Rattle.level_terms.specs.declared.node.VarId.{VarId}
use Rattle.level_terms.specs.Graph.{Graph, node_at, value_in}
use Rattle.level_terms.specs.Laws.{IsPlace, ArePlaces}
use Rattle.level_terms.specs.Sound.{IsSound, IsMade, AllMade}
use Rattle.level_terms.specs.Growth.{Grows}
use Rattle.level_terms.specs.Reached.{tree, tree_size}
use Rattle.level_terms.proofs.TreeLemmas.{value_below}
use Rattle.std.proofs.Math.ListN.{get_or-append}
use Rattle.beta_fragment.specs.declared.renaming.Task.{Task}
use Rattle.beta_fragment.specs.declared.renaming.Task.TheVariants.{Visit}
use Rattle.beta_fragment.specs.inside.Work.{Leads, work_size}
use Rattle.level_terms.specs.Valid.{IsValid}
use Rattle.level_terms.specs.Reading.{enter, levels, variable_reads}
use Rattle.level_terms.proofs.CoverLemmas.{places-enter}
use Rattle.level_terms.proofs.NodeLemmas.{nodes_read, value-valid}
use Rattle.level_terms.proofs.ValidLemmas.{nodes_valid}
use Rattle.ref_terms.specs.terms.Term as term
use Rattle.ref_terms.specs.terms.Term.{Term, At}
use Rattle.ref_terms.specs.terms.Index.{shift, next}
use Rattle.ref_terms.specs.terms.Eta.{lam}
use Rattle.ref_terms.specs.terms.Apply.{apply}
use Rattle.ref_terms.specs.terms.Built.{IsBuilt}
use Rattle.ref_terms.specs.unification.Spine.{apply_all}
use Rattle.ref_terms.specs.lemmas.FillLemmas.{built-apply}
use Rattle.ref_terms.specs.lemmas.ComposeLemmas.{ren-apply, lam-apply}
use Rattle.beta_fragment.specs.Names.{AllBelow}
use Rattle.level_terms.specs.Values.{Value, IsLamOf, IsAppOf, IsLevelOf, IsVarOf}
use Rattle.beta_fragment.specs.Moves.{Moves, AreLevelsOf, IsMovedVar, naming, moved, moved_level}
use Rattle.level_terms.proofs.MakeLemmas.{and_both}
use Rattle.beta_fragment.proofs.MoveLemmas.{below_from, moved-places, moved-below, node-before, assigned-before, value-moves}
use Rattle.level_terms.proofs.ReadLemmas.{valid-below}

-- the last of so many levels
levels-last : (d : ℕ) (e : ℕ → Term) → levels (suc d) e ≡ levels d e ++ e d ∷ []
levels-last zero e = refl
levels-last (suc d) e = ap (λ (xs : List Term). e 0 ∷ xs) (levels-last d (λ i. e (suc i)))

pub levels-agree : (d : ℕ) (e f : ℕ → Term) → ((i : ℕ) → i < d → e i ≡ f i) → levels d e ≡ levels d f
levels-agree zero e f h = refl
levels-agree (suc d) e f h = ap₂ (λ (x : Term) (xs : List Term). x ∷ xs) (h 0 (omega arith)) (levels-agree d (λ i. e (suc i)) (λ i. f (suc i)) (λ i k. h (suc i) (omega (arith, k))))

levels-shift : (d : ℕ) (e : ℕ → Term) → levels d (λ i. shift (e i)) ≡ map shift (levels d e)
levels-shift zero e = refl
levels-shift (suc d) e = ap (λ (xs : List Term). shift (e 0) ∷ xs) (levels-shift d (λ i. e (suc i)))

pub enter-own : (d : ℕ) (env : ℕ → Term) → enter d env d ≡ At (term.Bound 0)
enter-own d env = ap (λ b. cond b (At (term.Bound 0)) (shift (env d))) (eq-eqb d d refl)

pub enter-other : (d : ℕ) (env : ℕ → Term) (i : ℕ) → i < d → enter d env i ≡ shift (env i)
enter-other d env i h = ap (λ b. cond b (At (term.Bound 0)) (shift (env i))) (ne_eqb d i (omega (arith, h)))

apply_all-last : (xs : List Term) (t x : Term) → apply_all t (xs ++ x ∷ []) ≡ apply (apply_all t xs) x
apply_all-last [] t x = refl
apply_all-last (y ∷ xs) t x = apply_all-last xs (apply t y) x

apply_all-shift : (xs : List Term) (t : Term) → apply_all (shift t) (map shift xs) ≡ shift (apply_all t xs)
apply_all-shift [] t = refl
apply_all-shift (x ∷ xs) t = ap (λ z. apply_all z (map shift xs)) (sym (ren-apply next t x)) ∙ apply_all-shift xs (apply t x)

place-built : (t : Term) → IsPlace t → IsBuilt t
place-built (At h) w = tt
place-built (term.Lam b) w = absurd w
place-built (term.App f a) w = absurd w

built-levels : (d : ℕ) (e : ℕ → Term) (t : Term) → ArePlaces e → IsBuilt t → IsBuilt (apply_all t (levels d e))
built-levels zero e t p w = w
built-levels (suc d) e t p w = built-levels d (λ i. e (suc i)) (apply t (e 0)) (λ i. p (suc i)) (built-apply t (e 0) w (place-built (e 0) (p 0)))

-- abstracting the last level takes it off
abstracted : (v d : ℕ) (env : ℕ → Term) → ArePlaces env → lam (apply_all (At (term.Var v)) (levels (suc d) (enter d env))) ≡ apply_all (At (term.Var v)) (levels d env)
abstracted v d env p =
    ap lam (ap (apply_all (At (term.Var v))) (levels-last d (enter d env) ∙ ap₂ (λ (xs : List Term) (x : Term). xs ++ x ∷ []) (levels-agree d (enter d env) (λ i. shift (env i)) (enter-other d env) ∙ levels-shift d env) (enter-own d env))
    ∙ apply_all-last (map shift (levels d env)) (At (term.Var v)) (At (term.Bound 0))
    ∙ ap (λ f. apply f (At (term.Bound 0))) (apply_all-shift (levels d env) (At (term.Var v))))
    ∙ lam-apply (apply_all (At (term.Var v)) (levels d env)) (built-levels d env (At (term.Var v)) p tt)

pub lam-var : (v d : ℕ) (y x : Value) → IsLamOf d y x → IsVarOf v (suc d) y → IsVarOf v d x
lam-var v d y x w m = record {
  term = λ env p. w.term env p ∙ ap lam (m.term (enter d env) (places-enter d env p)) ∙ abstracted v d env p;
  holds = λ e k. w.holds (m.holds (d + 1) (omega arith)) e k;
  misses = λ u q. w.misses u (m.misses u q);
}

-- levels, moved
pub levels-terms : (ns : List ℕ) (base to k : ℕ) (xs : List Value) → AreLevelsOf ns base to k xs → (env : ℕ → Term) → ArePlaces env →
    map (λ (y : Value). y.term env) xs ≡ levels (length xs) (λ i. moved ns base to env (k + i))
levels-terms ns base to k [] w env p = refl
levels-terms ns base to k (x ∷ xs) w env p =
    let here : moved ns base to env k ≡ moved ns base to env (k + 0) = ap (moved ns base to env) (let q : k ≡ k + 0 = omega arith in q) in
    ap₂ (λ (y : Term) (ys : List Term). y ∷ ys) (w.0.term env p ∙ here) (levels-terms ns base to (suc k) xs w.1 env p
    ∙ ap (levels (length xs)) (fun_ext (λ i. ap (moved ns base to env) (let q : suc k + i ≡ k + suc i = omega arith in q))))

pub levels-hold : (ns : List ℕ) (base to k : ℕ) (xs : List Value) → AreLevelsOf ns base to k xs → (e : ℕ) → ((i : ℕ) → i < k + length xs → moved_level ns base to i < e) → list_all (λ (y : Value). y.holds e) xs ≡ true
levels-hold ns base to k [] w e h = refl
levels-hold ns base to k (x ∷ xs) w e h = and_both (x.holds e) _ (w.0.holds e (h k (omega arith))) (levels-hold ns base to (suc k) xs w.1 e (λ i q. h i (omega (arith, q))))

pub levels-more : (ns : List ℕ) (base to k : ℕ) (xs : List Value) (x : Value) → AreLevelsOf ns base to k xs → IsLevelOf (moved_level ns base to (k + length xs)) x → AreLevelsOf ns base to k (xs ++ x ∷ [])
levels-more ns base to k [] x w m = (subst (λ i. IsLevelOf (moved_level ns base to i) x) (let q : k + 0 ≡ k = omega arith in q) m, tt)
levels-more ns base to k (y ∷ ys) x w m = (w.0, levels-more ns base to (suc k) ys x w.1 (subst (λ i. IsLevelOf (moved_level ns base to i) x) (let q : k + suc (length ys) ≡ suc k + length ys = omega arith in q) m))

pub var-applied : (ns : List ℕ) (base to v depth : ℕ) (h x : Value) (xs : List Value) → IsVarOf v 0 h → AreLevelsOf ns base to 0 xs → length xs ≡ depth → IsAppOf h xs x → IsMovedVar ns base to v depth x
var-applied ns base to v depth h x xs m w l a = record {
  term = λ env p. a.term env p
      ∙ ap₂ apply_all (m.term env p) (levels-terms ns base to 0 xs w env p
      ∙ ap₂ levels l (fun_ext (λ i. ap (moved ns base to env) (let q : 0 + i ≡ i = omega arith in q))));
  holds = λ e k. a.holds e (m.holds e (omega arith)) (levels-hold ns base to 0 xs w e (λ i q. k i (omega (arith, q, l))));
}

pub var-moves : (g : Graph) (ns : List ℕ) (to t base s : ℕ) (v : VarId) (x : Value) → IsSound g → AllBelow ns to → node_at g.nodes t ≡ Some (Var v) → value_in g.assigned v.index ≡ None → IsValid g t s → base ≤ s → base ≤ length ns →
    IsMovedVar ns base to v.index (slice_index g.depths v.index) x → Moves g ns to t base s x
var-moves g ns to t base s v x sound all e free valid low few m = record {
  term = λ env p. m.term env p
      ∙ sym (nodes_read g t (Var v) (moved ns base to env) sound (moved-places ns base to env p) e ∙ ap (λ o. variable_reads g v.index o (moved ns base to env)) free);
  holds = λ f q.
      let deep : slice_index g.depths v.index < suc s = below_from (slice_index g.depths v.index) (suc s) (sym (nodes_valid g t (Var v) s sound e) ∙ valid) in
      m.holds f (λ i k. let lt : moved_level ns base to i < s - base + to = moved-below ns base to s i all few low (omega (arith, k, deep)) in omega (arith, lt, q));
}

-- a variable's node has a variable that is there
var-known-in : (variables : ℕ) (t : ℕ) (v : VarId) (nodes : List Node) → AllMade variables nodes → node_at nodes t ≡ Some (Var v) → v.index < variables
var-known-in variables t v [] m q = absurd (let z : None ≡ Some (Var v) = q in cc)
var-known-in variables t v (n ∷ older) m q = at (nat_eq (length older) t) q (λ z. var-known-in variables t v older m.1 z)
  where
    at : (b : Bool) → cond b (Some n) (node_at older t) ≡ Some (Var v) → (node_at older t ≡ Some (Var v) → v.index < variables) → v.index < variables
    at true z f = let same : n ≡ Var v = cc in subst (IsMade older variables) same m.0
    at false z f = f z

pub var-known : (g : Graph) (t : ℕ) (v : VarId) → IsSound g → node_at g.nodes t ≡ Some (Var v) → v.index < length g.depths
var-known g t v s e = var-known-in (length g.depths) t v g.nodes s.made e

pub depth-before : (g h : Graph) → Grows g h [] [] → (v : ℕ) → v < length g.depths → slice_index h.depths v ≡ slice_index g.depths v
depth-before g h w v k = ap (λ (ds : List ℕ). slice_index ds v) w.depths ∙ get_or-append g.depths w.new_depths 0 v k

-- a visit of a variable that has a value
module _ (ns : List ℕ) (to : ℕ) where
  pub value-leads : (g h : Graph) (t base source : ℕ) (node value : TermId) (v : VarId) (b : ℕ) (k : List Task) (xs : List Value) → IsSound g → Grows g h [] [] → node_at h.nodes node.index ≡ Some (Var v) → value_in h.assigned v.index ≡ Some value.index →
      Leads g (naming ns to) t base source (Visit node b ∷ k) xs → Leads g (naming ns to) t base source (Visit value (min b (slice_index h.depths v.index)) ∷ k) xs
  value-leads g h t base source node value v b k xs sg gr e f l =
      let here = node-before g h gr node.index (Var v) (valid-below g node.index l.0 l.1) e in
      let known = var-known g node.index v sg here in
      let has = sym (assigned-before g h gr v.index) ∙ f in
      let deep = value-valid g.nodes g.depths g.assigned sg.valid v.index value.index has in
      let few = l.3 in
      subst (λ d. Leads g (naming ns to) t base source (Visit value (min b d) ∷ k) xs) (sym (depth-before g h gr v.index known)) (
        slice_index g.depths v.index,
        deep,
        omega arith,
        omega (arith, few),
        λ x m. l.4 x (value-moves g ns to node.index b l.0 value.index v x sg here has l.1 l.2 l.3 m),
      )

pub value-falls : (g h : Graph) (node value : TermId) (v : VarId) (b : ℕ) → IsSound g → Grows g h [] [] → node.index < length g.nodes → node_at h.nodes node.index ≡ Some (Var v) → value_in h.assigned v.index ≡ Some value.index →
    work_size g (Visit value b ∷ []) < 2 * tree_size (tree g node.index)
value-falls g h node value v b sg gr below e f =
    let here = node-before g h gr node.index (Var v) below e in
    let less = value_below g sg node.index v.index value.index v refl here (sym (assigned-before g h gr v.index) ∙ f) in
    omega (arith, less)
