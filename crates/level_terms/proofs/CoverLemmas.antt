-- Which variables a term hangs on.
use Rattle.std.proofs.Common.{◌≡◌, ℕ, zero, suc, ◌||◌, List, [], ◌∷◌, map, length, cond, nat_eq, Bool, true, false, slice_index, refl, sym, ap, ap₂, ◌∙◌, eq-eqb, eqb-true, subst}
use mathlib.Core.Path.{fun_ext}
use Rattle.level_terms.specs.declared.node.Node.{Node}
use Rattle.level_terms.specs.declared.node.Node.TheVariants.{Con, Int, Str, Level, Lam, App, Var}
use Rattle.level_terms.specs.declared.node.TermId.{TermId}
use Rattle.level_terms.specs.Graph.{Assigned}
use Rattle.level_terms.specs.Layer.{layer_of}
use Rattle.level_terms.specs.Laws.{IsPlace, ArePlaces}
use Rattle.level_terms.specs.Reached.{Tree, Leaf, Hole, One, Two, plant, reaches, grown, layer_tree, node_tree, put, trees_of}
use Rattle.level_terms.specs.Reading.{layer_term, levels, node_term, closed_term, value_term, values_of, enter}
use Rattle.level_terms.proofs.SubLemmas.{Reader}
use Rattle.level_terms.proofs.ReadingLemmas.{valued_built, valued_keeps}
use Rattle.ref_terms.specs.terms.Term as term
use Rattle.ref_terms.specs.terms.Term.{Term, Head, At}
use Rattle.ref_terms.specs.terms.Index.{shift, next}
use Rattle.ref_terms.specs.terms.Eta.{lam}
use Rattle.ref_terms.specs.terms.Apply.{apply, fill, below}
use Rattle.ref_terms.specs.terms.Built.{IsBuilt}
use Rattle.ref_terms.specs.terms.Instance.{inst, inst_all, only, valued}
use Rattle.ref_terms.specs.unification.Spine.{apply_all}
use Rattle.ref_terms.specs.lemmas.ComposeLemmas.{fill-lam, fill-apply, fill-fill}
use Rattle.ref_terms.specs.lemmas.FillLemmas.{built-ren, built-fill}
use Rattle.ref_terms.specs.lemmas.OccursLemmas.{fill_at}

-- each value is built
abbrev pub Built : (ℕ → Term) → Type 0
Built u = (v : ℕ) → IsBuilt (u v)

below-valued : (u : ℕ → Term) (h : Head) → below (valued u) h ≡ valued (λ v. shift (u v)) h
below-valued u (term.Bound zero) = refl
below-valued u (term.Bound (suc n)) = refl
below-valued u (term.Con c) = refl
below-valued u (term.Int n) = refl
below-valued u (term.Str s) = refl
below-valued u (term.Name n) = refl
below-valued u (term.Var v) = refl

-- values under an abstraction
pub inst_all-lam : (u : ℕ → Term) → Built u → (b : Term) → inst_all u (lam b) ≡ lam (inst_all (λ v. shift (u v)) b)
inst_all-lam u w b = fill-lam (valued u) (valued_built u w) b ∙ ap (λ r. lam (fill r b)) (fun_ext (below-valued u))

pub inst_all-apply : (u : ℕ → Term) → Built u → (f a : Term) → inst_all u (apply f a) ≡ apply (inst_all u f) (inst_all u a)
inst_all-apply u w f a = fill-apply (valued u) (valued_built u w) (valued_keeps u) f a

pub inst_all-apply_all : (u : ℕ → Term) → Built u → (t : Term) (xs : List Term) → inst_all u (apply_all t xs) ≡ apply_all (inst_all u t) (map (inst_all u) xs)
inst_all-apply_all u w t [] = refl
inst_all-apply_all u w t (x ∷ xs) = inst_all-apply_all u w (apply t x) xs ∙ ap (λ z. apply_all z (map (inst_all u) xs)) (inst_all-apply u w t x)

-- places have no variables
pub place-stays : (u : ℕ → Term) (t : Term) → IsPlace t → inst_all u t ≡ t
place-stays u (At (term.Name n)) w = refl
place-stays u (At (term.Bound i)) w = refl
place-stays u (At (term.Con c)) w = absurd w
place-stays u (At (term.Int n)) w = absurd w
place-stays u (At (term.Str s)) w = absurd w
place-stays u (At (term.Var v)) w = absurd w
place-stays u (term.Lam b) w = absurd w
place-stays u (term.App f a) w = absurd w

place-shift : (t : Term) → IsPlace t → IsPlace (shift t)
place-shift (At (term.Name n)) w = tt
place-shift (At (term.Bound i)) w = tt
place-shift (At (term.Con c)) w = w
place-shift (At (term.Int n)) w = w
place-shift (At (term.Str s)) w = w
place-shift (At (term.Var v)) w = w
place-shift (term.Lam b) w = w
place-shift (term.App f a) w = w

pub places-enter : (d : ℕ) (env : ℕ → Term) → ArePlaces env → ArePlaces (enter d env)
places-enter d env w i = go (nat_eq d i)
  where
    go : (b : Bool) → IsPlace (cond b (At (term.Bound 0)) (shift (env i)))
    go true = tt
    go false = place-shift (env i) (w i)

pub levels-stay : (u : ℕ → Term) (k : ℕ) (env : ℕ → Term) → ArePlaces env → map (inst_all u) (levels k env) ≡ levels k env
levels-stay u zero env w = refl
levels-stay u (suc k) env w = ap₂ (λ (x : Term) (xs : List Term). x ∷ xs) (place-stays u (env 0) (w 0)) (levels-stay u k (λ i. env (suc i)) (λ i. w (suc i)))

-- the term hangs on the variables alone that stand in the tree
abbrev pub Covers : Tree → Term → Type 0
Covers a t = (u w : ℕ → Term) → Built u → Built w → ((v : ℕ) → reaches v a ≡ true → u v ≡ w v) → inst_all u t ≡ inst_all w t

or_left : (a b : Bool) → a ≡ true → (a || b) ≡ true
or_left true b e = refl
or_left false b e = absurd (let k : false ≡ true = e in cc)

or_right : (a b : Bool) → b ≡ true → (a || b) ≡ true
or_right true b e = refl
or_right false b e = e

built-shift : (u : ℕ → Term) → Built u → Built (λ v. shift (u v))
built-shift u w v = built-ren next (u v) (w v)

pub covers-lam : (a : Tree) (b : Term) → Covers a b → Covers a (lam b)
covers-lam a b c u w bu bw e =
    inst_all-lam u bu b
    ∙ ap lam (c (λ v. shift (u v)) (λ v. shift (w v)) (built-shift u bu) (built-shift w bw) (λ v h. ap shift (e v h)))
    ∙ sym (inst_all-lam w bw b)

-- arguments that the trees of a list cover
abbrev CoversAll : List Tree → List Term → Type 0
CoversAll [] [] = Unit {0}
CoversAll [] (x ∷ xs) = ⊥
CoversAll (a ∷ more) [] = ⊥
CoversAll (a ∷ more) (x ∷ xs) = Covers a x × CoversAll more xs

covers-grown : (h : Tree) (t : Term) (trees : List Tree) (xs : List Term) → Covers h t → CoversAll trees xs → (u w : ℕ → Term) → Built u → Built w → ((v : ℕ) → reaches v (grown h trees) ≡ true → u v ≡ w v) →
    (inst_all u t ≡ inst_all w t) × (map (inst_all u) xs ≡ map (inst_all w) xs)
covers-grown h t [] [] c cs u w bu bw e = (c u w bu bw e, refl)
covers-grown h t [] (x ∷ xs) c cs u w bu bw e = absurd cs
covers-grown h t (a ∷ trees) [] c cs u w bu bw e = absurd cs
covers-grown h t (a ∷ trees) (x ∷ xs) c cs u w bu bw e =
    let rest = covers-grown h t trees xs c cs.1 u w bu bw (λ v q. e v (or_right (reaches v a) (reaches v (grown h trees)) q)) in
    (rest.0, ap₂ (λ (y : Term) (ys : List Term). y ∷ ys) (cs.0 u w bu bw (λ v q. e v (or_left (reaches v a) (reaches v (grown h trees)) q))) rest.1)

covers-parts : (f : ℕ → Tree) (r : ℕ → Reader) (env : ℕ → Term) → ArePlaces env → ((k : ℕ) (env : ℕ → Term) → ArePlaces env → Covers (f k) (r k env)) → (ts : List TermId) → CoversAll (map (λ t. f t.index) ts) (map (λ q. q env) (map (λ t. r t.index) ts))
covers-parts f r env p c [] = tt
covers-parts f r env p c (t ∷ ts) = (c t.index env p, covers-parts f r env p c ts)

covers-node : (depths : List ℕ) (f : ℕ → Tree) (r : ℕ → Reader) → ((k : ℕ) (env : ℕ → Term) → ArePlaces env → Covers (f k) (r k env)) → (n : Node) (env : ℕ → Term) → ArePlaces env → Covers (layer_tree (layer_of f n)) (layer_term depths (layer_of r n) env)
covers-node depths f r c (Con k) env p u w bu bw e = refl
covers-node depths f r c (Int k) env p u w bu bw e = refl
covers-node depths f r c (Str k) env p u w bu bw e = refl
covers-node depths f r c (Level l) env p u w bu bw e = place-stays u (env l) (p l) ∙ sym (place-stays w (env l) (p l))
covers-node depths f r c (Lam d b) env p u w bu bw e = covers-lam (f b.index) (r b.index (enter d env)) (c b.index (enter d env) (places-enter d env p)) u w bu bw e
covers-node depths f r c (App h ts) env p u w bu bw e =
    let both = covers-grown (f h.index) (r h.index env) (map (λ t. f t.index) ts) (map (λ q. q env) (map (λ t. r t.index) ts)) (c h.index env p) (covers-parts f r env p c ts) u w bu bw e in
    inst_all-apply_all u bu (r h.index env) (map (λ q. q env) (map (λ t. r t.index) ts)) ∙ ap₂ apply_all both.0 both.1 ∙ sym (inst_all-apply_all w bw (r h.index env) (map (λ q. q env) (map (λ t. r t.index) ts)))
covers-node depths f r c (Var v) env p u w bu bw e =
    let k = slice_index depths v.index in
    inst_all-apply_all u bu (At (term.Var v.index)) (levels k env)
    ∙ ap₂ apply_all (e v.index (eq-eqb v.index v.index refl)) (levels-stay u k env p ∙ sym (levels-stay w k env p))
    ∙ sym (inst_all-apply_all w bw (At (term.Var v.index)) (levels k env))

pub covers-node_term : (nodes : List Node) (depths : List ℕ) (t : ℕ) (env : ℕ → Term) → ArePlaces env → Covers (node_tree nodes t) (node_term nodes depths t env)
covers-node_term [] depths t env p = λ u w bu bw e. refl
covers-node_term (n ∷ older) depths t env p = go (nat_eq (length older) t) (λ k e q. covers-node_term older depths k e q)
  where
    go : (b : Bool) → ((k : ℕ) (e : ℕ → Term) → ArePlaces e → Covers (node_tree older k) (node_term older depths k e)) → Covers (cond b (layer_tree (layer_of (node_tree older) n)) (node_tree older t)) (cond b (layer_term depths (layer_of (node_term older depths) n)) (node_term older depths t) env)
    go true before = covers-node depths (node_tree older) (node_term older depths) before n env p
    go false before = before t env p

pub covers-closed : (nodes : List Node) (depths : List ℕ) (d k t : ℕ) (env : ℕ → Term) → ArePlaces env → Covers (node_tree nodes t) (closed_term nodes depths d k t env)
covers-closed nodes depths d zero t env p = covers-node_term nodes depths t env p
covers-closed nodes depths d (suc k) t env p = covers-lam (node_tree nodes t) (closed_term nodes depths (suc d) k t (enter d env)) (covers-closed nodes depths (suc d) k t (enter d env) (places-enter d env p))

reached-plant : (a : Tree) (f : ℕ → Tree) (v z : ℕ) → reaches v a ≡ true → reaches z (f v) ≡ true → reaches z (plant f a) ≡ true
reached-plant Leaf f v z e q = absurd (let k : false ≡ true = e in cc)
reached-plant (Hole w) f v z e q = ap (λ x. reaches z (f x)) (sym (eqb-true v w e)) ∙ q
reached-plant (One a) f v z e q = reached-plant a f v z e q
reached-plant (Two a b) f v z e q = go (reaches v a) refl e (λ r. reached-plant a f v z r q) (λ r. reached-plant b f v z r q)
  where
    go : (x : Bool) → reaches v a ≡ x → (x || reaches v b) ≡ true → (reaches v a ≡ true → reaches z (plant f a) ≡ true) → (reaches v b ≡ true → reaches z (plant f b) ≡ true) → (reaches z (plant f a) || reaches z (plant f b)) ≡ true
    go true r h left right = or_left _ _ (left r)
    go false r h left right = or_right _ _ (right h)

inst_all-inst_all : (r u : ℕ → Term) → Built r → (t : Term) → inst_all r (inst_all u t) ≡ inst_all (λ v. inst_all r (u v)) t
inst_all-inst_all r u w t = fill-fill (valued r) (valued u) (valued_built r w) (valued_keeps r) t ∙ ap (λ q. fill q t) (fun_ext same)
  where
    same : (h : Head) → fill (valued r) (valued u h) ≡ valued (λ v. inst_all r (u v)) h
    same (term.Var v) = refl
    same (term.Con c) = refl
    same _ = refl

built-inst_all : (r u : ℕ → Term) → Built r → Built (λ v. inst_all r (u v))
built-inst_all r u w v = built-fill (valued r) (valued_built r w) (u v)

pub covers-plant : (a : Tree) (f : ℕ → Tree) (t : Term) (x : ℕ → Term) → Covers a t → ((v : ℕ) → Covers (f v) (x v)) → Covers (plant f a) (inst_all x t)
covers-plant a f t x c cs u w bu bw e =
    inst_all-inst_all u x bu t
    ∙ c (λ v. inst_all u (x v)) (λ v. inst_all w (x v)) (built-inst_all u x bu) (built-inst_all w x bw) (λ v h. cs v u w bu bw (λ z q. e z (reached-plant a f v z h q)))
    ∙ sym (inst_all-inst_all w x bw t)

-- a value for one variable alone
abbrev single : ℕ → Term → ℕ → Term
single v u w = cond (nat_eq v w) u (At (term.Var w))

pub inst-single : (v : ℕ) (u t : Term) → inst v u t ≡ inst_all (single v u) t
inst-single v u t = ap (λ r. fill r t) (fun_ext same)
  where
    same : (h : Head) → only v u h ≡ valued (single v u) h
    same (term.Var w) = refl
    same (term.Con c) = refl
    same _ = refl

covers-self : (v : ℕ) → Covers (Hole v) (At (term.Var v))
covers-self v u w bu bw e = e v (eq-eqb v v refl)

covers-put : (v : ℕ) (a : Tree) (u : Term) → Covers a u → (w : ℕ) → Covers (put v a w) (single v u w)
covers-put v a u c w = go (nat_eq v w)
  where
    go : (b : Bool) → Covers (cond b a (Hole w)) (cond b u (At (term.Var w)))
    go true = c
    go false = covers-self w

bound_places : ArePlaces (λ i. At (term.Bound i))
bound_places i = tt

pub covers-values : (nodes : List Node) (depths : List ℕ) (bs : List Assigned) (v : ℕ) → Covers (trees_of nodes bs v) (values_of nodes depths bs v)
unfolding trees_of values_of
covers-values nodes depths [] v = covers-self v
covers-values nodes depths (a ∷ older) v =
    let u = inst_all (values_of nodes depths older) (value_term nodes depths a) in
    let tree = plant (trees_of nodes older) (node_tree nodes a.value) in
    let c : Covers tree u = covers-plant (node_tree nodes a.value) (trees_of nodes older) (value_term nodes depths a) (values_of nodes depths older) (covers-closed nodes depths 0 (slice_index depths a.variable) a.value (λ i. At (term.Bound i)) bound_places) (covers-values nodes depths older) in
    subst (Covers (plant (put a.variable tree) (trees_of nodes older v))) (sym (inst-single a.variable u (values_of nodes depths older v)))
    (covers-plant (trees_of nodes older v) (put a.variable tree) (values_of nodes depths older v) (single a.variable u) (covers-values nodes depths older v) (covers-put a.variable tree u c))

pub covers-assigned : (nodes : List Node) (depths : List ℕ) (older : List Assigned) (a : Assigned) → Covers (plant (trees_of nodes older) (node_tree nodes a.value)) (inst_all (values_of nodes depths older) (value_term nodes depths a))
covers-assigned nodes depths older a =
    covers-plant (node_tree nodes a.value) (trees_of nodes older) (value_term nodes depths a) (values_of nodes depths older) (covers-closed nodes depths 0 (slice_index depths a.variable) a.value (λ i. At (term.Bound i)) bound_places) (covers-values nodes depths older)

-- a variable that isn't reached makes no difference
pub unreached-stays : (a : Tree) (t : Term) (v : ℕ) (u : Term) → Covers a t → IsBuilt t → IsBuilt u → reaches v a ≡ false → inst v u t ≡ t
unreached-stays a t v u c wt wu e =
    inst-single v u t ∙ c (single v u) (λ w. At (term.Var w)) built_one (λ w. tt) other ∙ ap (λ r. fill r t) (fun_ext same) ∙ fill_at t wt
  where
    built_one : Built (single v u)
    built_one w = go (nat_eq v w)
      where
        go : (b : Bool) → IsBuilt (cond b u (At (term.Var w)))
        go true = wu
        go false = tt

    same : (h : Head) → valued (λ w. At (term.Var w)) h ≡ At h
    same (term.Var w) = refl
    same (term.Con k) = refl
    same _ = refl

    other : (w : ℕ) → reaches w a ≡ true → single v u w ≡ At (term.Var w)
    other w h = go (nat_eq v w) refl
      where
        go : (b : Bool) → nat_eq v w ≡ b → cond b u (At (term.Var w)) ≡ At (term.Var w)
        go true q = absurd (let same : v ≡ w = eqb-true v w q in let here : reaches v a ≡ true = ap (λ k. reaches k a) same ∙ h in let k : true ≡ false = sym here ∙ e in cc)
        go false q = refl
