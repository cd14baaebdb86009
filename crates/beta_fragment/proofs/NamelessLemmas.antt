-- A name stands in a reading only where a level stands for it.
use Rattle.std.proofs.Common.{◌≡◌, ℕ, zero, suc, List, [], ◌∷◌, map, length, cond, nat_eq, Bool, true, false, slice_index, refl, ◌∙◌}
use Rattle.level_terms.specs.declared.node.Node.{Node}
use Rattle.level_terms.specs.declared.node.Node.TheVariants.{Con, Int, Str, Level, Lam, App, Var}
use Rattle.level_terms.specs.declared.node.TermId.{TermId}
use Rattle.level_terms.specs.Graph.{Graph, Assigned}
use Rattle.level_terms.specs.Layer.{layer_of}
use Rattle.level_terms.specs.Reading.{read, enter, levels, layer_term, node_term, closed_term, value_term, values_of}
use Rattle.ref_terms.specs.terms.Term as term
use Rattle.ref_terms.specs.terms.Term.{Term, Head, At}
use Rattle.ref_terms.specs.terms.Index.{shift, next}
use Rattle.ref_terms.specs.terms.Apply.{apply}
use Rattle.ref_terms.specs.terms.Occurs.{is_name, is_variable, has_name}
use Rattle.ref_terms.specs.terms.Instance.{only, valued, inst_all}
use Rattle.ref_terms.specs.unification.Spine.{apply_all}
use Rattle.ref_terms.specs.lemmas.NameLemmas.{has_name-ren, nameless-apply, nameless-lam, nameless-fill}
use Rattle.beta_fragment.specs.Moves.{Lacks}

pub lacks-enter : (n d : ℕ) (env : ℕ → Term) → Lacks n env → Lacks n (enter d env)
lacks-enter n d env w i = go (nat_eq d i)
  where
    go : (b : Bool) → has_name n (cond b (At (term.Bound 0)) (shift (env i))) ≡ false
    go true = refl
    go false = has_name-ren n next (env i) ∙ w i

abbrev NoneHas : ℕ → List Term → Type 0
NoneHas n [] = Unit {0}
NoneHas n (x ∷ xs) = (has_name n x ≡ false) × NoneHas n xs

nameless-apply_all : (n : ℕ) (xs : List Term) (t : Term) → has_name n t ≡ false → NoneHas n xs → has_name n (apply_all t xs) ≡ false
nameless-apply_all n [] t w v = w
nameless-apply_all n (x ∷ xs) t w v = nameless-apply_all n xs (apply t x) (nameless-apply n t x w v.0) v.1

nameless-levels : (n d : ℕ) (env : ℕ → Term) → Lacks n env → NoneHas n (levels d env)
nameless-levels n zero env w = tt
nameless-levels n (suc d) env w = (w 0, nameless-levels n d (λ i. env (suc i)) (λ i. w (suc i)))

nameless-parts : (n : ℕ) (f : ℕ → (ℕ → Term) → Term) (env : ℕ → Term) → ((k : ℕ) → has_name n (f k env) ≡ false) → (ts : List TermId) → NoneHas n (map (λ r. r env) (map (λ t. f t.index) ts))
nameless-parts n f env w [] = tt
nameless-parts n f env w (t ∷ ts) = (w t.index, nameless-parts n f env w ts)

nameless-node : (n : ℕ) (depths : List ℕ) (f : ℕ → (ℕ → Term) → Term) → ((k : ℕ) (env : ℕ → Term) → Lacks n env → has_name n (f k env) ≡ false) → (m : Node) (env : ℕ → Term) → Lacks n env → has_name n (layer_term depths (layer_of f m) env) ≡ false
nameless-node n depths f w (Con c) env l = refl
nameless-node n depths f w (Int c) env l = refl
nameless-node n depths f w (Str c) env l = refl
nameless-node n depths f w (Level i) env l = l i
nameless-node n depths f w (Lam d t) env l = nameless-lam n (f t.index (enter d env)) (w t.index (enter d env) (lacks-enter n d env l))
nameless-node n depths f w (App h ts) env l = nameless-apply_all n (map (λ r. r env) (map (λ t. f t.index) ts)) (f h.index env) (w h.index env l) (nameless-parts n f env (λ k. w k env l) ts)
nameless-node n depths f w (Var v) env l = nameless-apply_all n (levels (slice_index depths v.index) env) (At (term.Var v.index)) refl (nameless-levels n (slice_index depths v.index) env l)

nameless-term : (n : ℕ) (nodes : List Node) (depths : List ℕ) (t : ℕ) (env : ℕ → Term) → Lacks n env → has_name n (node_term nodes depths t env) ≡ false
nameless-term n [] depths t env l = refl
nameless-term n (m ∷ older) depths t env l = go (nat_eq (length older) t) (λ k e w. nameless-term n older depths k e w)
  where
    go : (x : Bool) → ((k : ℕ) (e : ℕ → Term) → Lacks n e → has_name n (node_term older depths k e) ≡ false) → has_name n (cond x (layer_term depths (layer_of (node_term older depths) m)) (node_term older depths t) env) ≡ false
    go true before = nameless-node n depths (node_term older depths) before m env l
    go false before = before t env l

nameless-closed : (n : ℕ) (nodes : List Node) (depths : List ℕ) (d k t : ℕ) (env : ℕ → Term) → Lacks n env → has_name n (closed_term nodes depths d k t env) ≡ false
nameless-closed n nodes depths d zero t env l = nameless-term n nodes depths t env l
nameless-closed n nodes depths d (suc k) t env l = nameless-lam n (closed_term nodes depths (suc d) k t (enter d env)) (nameless-closed n nodes depths (suc d) k t (enter d env) (lacks-enter n d env l))

valued-lacks : (n : ℕ) (u : ℕ → Term) → ((v : ℕ) → has_name n (u v) ≡ false) → (h : Head) → is_name n h ≡ false → has_name n (valued u h) ≡ false
valued-lacks n u w (term.Var v) e = w v
valued-lacks n u w (term.Name k) e = e
valued-lacks n u w (term.Con c) e = refl
valued-lacks n u w (term.Int c) e = refl
valued-lacks n u w (term.Str c) e = refl
valued-lacks n u w (term.Bound c) e = refl

only-lacks : (n v : ℕ) (u : Term) → has_name n u ≡ false → (h : Head) → is_name n h ≡ false → has_name n (only v u h) ≡ false
only-lacks n v u w h e = go (is_variable v h)
  where
    go : (b : Bool) → has_name n (cond b u (At h)) ≡ false
    go true = w
    go false = e

nameless-values : (n : ℕ) (nodes : List Node) (depths : List ℕ) (bs : List Assigned) (v : ℕ) → has_name n (values_of nodes depths bs v) ≡ false
unfolding values_of
nameless-values n nodes depths [] v = refl
nameless-values n nodes depths (a ∷ older) v =
    let before = nameless-values n nodes depths older in
    nameless-fill n (only a.variable (inst_all (values_of nodes depths older) (value_term nodes depths a)))
    (only-lacks n a.variable (inst_all (values_of nodes depths older) (value_term nodes depths a))
    (nameless-fill n (valued (values_of nodes depths older)) (valued-lacks n (values_of nodes depths older) (nameless-values n nodes depths older)) (value_term nodes depths a)
    (nameless-closed n nodes depths 0 (slice_index depths a.variable) a.value (λ i. At (term.Bound i)) (λ i. refl))))
    (values_of nodes depths older v) (nameless-values n nodes depths older v)

pub nameless-read : (n : ℕ) (g : Graph) (t : ℕ) (env : ℕ → Term) → Lacks n env → has_name n (read g t env) ≡ false
unfolding read
nameless-read n g t env l =
    nameless-fill n (valued (values_of g.nodes g.depths g.assigned)) (valued-lacks n (values_of g.nodes g.depths g.assigned) (nameless-values n g.nodes g.depths g.assigned)) (node_term g.nodes g.depths t env) (nameless-term n g.nodes g.depths t env l)
