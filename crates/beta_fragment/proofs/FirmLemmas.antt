-- What a look at a node tells of its term.
use Rattle.std.proofs.Common.{◌≡◌, ℕ, zero, suc, ◌<◌, ◌≤◌, ◌++◌, List, [], ◌∷◌, length, map, cond, true, false, Option, Some, None, slice_index, slice_get, ◌-◌, refl, sym, ap, ◌∙◌, arith, subst, ne_eqb, IfSome}
use mathlib.Core.Path.{fun_ext}
use Rattle.level_terms.specs.declared.node.Node.{Node}
use Rattle.level_terms.specs.declared.node.Node.TheVariants.{Level, Lam, App, Var}
use Rattle.level_terms.specs.declared.node.TermId.{TermId}
use Rattle.level_terms.specs.declared.node.VarId.{VarId}
use Rattle.level_terms.specs.Graph.{Graph, node_at, value_in}
use Rattle.level_terms.specs.Laws.{IsPlace, ArePlaces}
use Rattle.level_terms.specs.Sound.{IsSound}
use Rattle.level_terms.specs.Valid.{IsValid}
use Rattle.level_terms.specs.Reading.{read, enter, levels, node_reads, variable_reads}
use Rattle.level_terms.proofs.CoverLemmas.{places-enter}
use Rattle.level_terms.proofs.LocalLemmas.{readings_local}
use Rattle.level_terms.proofs.NodeLemmas.{nodes_read}
use Rattle.ref_terms.specs.terms.Term as term
use Rattle.ref_terms.specs.terms.Term.{Term, Head, At}
use Rattle.ref_terms.specs.terms.Index.{ren, up, shift, next}
use Rattle.ref_terms.specs.lemmas.TermLemmas.{ren_sub}
use Rattle.std.proofs.lemmas.List.{map-append, length-map}
use Rattle.ref_terms.specs.terms.Eta.{eta, lam, lam_of, on_index, lower}
use Rattle.ref_terms.specs.terms.Ready.{ready}
use Rattle.ref_terms.specs.terms.Apply.{apply}
use Rattle.ref_terms.specs.unification.Spine.{apply_all, head_of}
use Rattle.ref_terms.specs.lemmas.EtaLemmas.{eta-some}
use Rattle.std.proofs.Common.{nat_lt, ◌+◌}
use Rattle.level_terms.specs.Valid.{valid}
use Rattle.level_terms.proofs.ValidLemmas.{nodes_valid, valid_deeper}
use Rattle.beta_fragment.specs.declared.glance.Readiness.{Readiness}
use Rattle.beta_fragment.specs.declared.glance.Readiness.TheVariants.{Level as some_level, Ready, Unready, Unknown}
use Rattle.level_terms.specs.Values.{value_of, IsLamOf, IsVarOf}
use Rattle.level_terms.specs.Reached.{tree, tree_size}
use Rattle.level_terms.proofs.ReachLemmas.{tree-at, lam-misses, var-misses}
use Rattle.level_terms.proofs.MakeLemmas.{and_both, below_true}
use Rattle.beta_fragment.specs.HeadForm.{IsAbstraction}
use Rattle.beta_fragment.specs.Firm.{IsPlain, IsReadyNode, IsOpenNode, IsFirmHead, IsFirm, IsFirmNode, IsPlainNode, IsAbstractionNode, EndsOtherwise, IsOther, IsReadiness}
use Rattle.level_terms.proofs.ReadLemmas.{read-follows, places-ready}
use Rattle.ref_terms.specs.laws.ReadyLaws.{IsRigidHead}
use Rattle.ref_terms.specs.lemmas.ReadyFacts.{ready-var, ready-lam}

-- a fact on what a node reads as, by what stands at it
pub by-node : (P : Term → Type 0) (g : Graph) (t : ℕ) (n : Node) → IsSound g → node_at g.nodes t ≡ Some n → ((env : ℕ → Term) → ArePlaces env → P (node_reads g n env)) → (env : ℕ → Term) → ArePlaces env → P (read g t env)
by-node P g t n s e f env p = subst P (sym (nodes_read g t n env s p e)) (f env p)

place-plain : (t : Term) → IsPlace t → IsPlain t
place-plain (At h) w = tt
place-plain (term.Lam b) w = absurd w
place-plain (term.App f a) w = tt

pub level-plain : (g : Graph) (t l : ℕ) → IsSound g → node_at g.nodes t ≡ Some (Level l) → IsPlainNode g t
level-plain g t l s e = by-node IsPlain g t (Level l) s e (λ env p. place-plain (env l) (p l))

-- a term that is no abstraction keeps its head before arguments
pub apply-plain : (t x : Term) → IsPlain t → apply t x ≡ term.App t x
apply-plain (term.Lam b) x w = absurd w
apply-plain (At h) x w = refl
apply-plain (term.App f a) x w = refl

pub apply_all-plain : (xs : List Term) (t : Term) → IsPlain t → IsPlain (apply_all t xs)
apply_all-plain [] t w = w
apply_all-plain (x ∷ xs) t w = apply_all-plain xs (apply t x) (subst IsPlain (sym (apply-plain t x w)) tt)

pub apply_all-head : (xs : List Term) (t : Term) → IsPlain t → head_of (apply_all t xs) ≡ head_of t
apply_all-head [] t w = refl
apply_all-head (x ∷ xs) t w = apply_all-head xs (apply t x) (subst IsPlain (sym (apply-plain t x w)) tt) ∙ ap head_of (apply-plain t x w)

firm-plain : (t : Term) → IsPlain t → IsFirmHead (head_of t) → IsFirm t
firm-plain (term.Lam b) w h = absurd w
firm-plain (At k) w h = h
firm-plain (term.App f a) w h = h

head-firm : (t : Term) → IsPlain t → IsFirm t → IsFirmHead (head_of t)
head-firm (term.Lam b) w h = absurd w
head-firm (At k) w h = h
head-firm (term.App f a) w h = h

pub var-plain : (g : Graph) (t : ℕ) (v : VarId) → IsSound g → node_at g.nodes t ≡ Some (Var v) → value_in g.assigned v.index ≡ None → IsPlainNode g t
var-plain g t v s e f = by-node IsPlain g t (Var v) s e (λ env p. subst (λ o. IsPlain (variable_reads g v.index o env)) (sym f) (apply_all-plain (levels (slice_index g.depths v.index) env) (At (term.Var v.index)) tt))

pub var-firm : (g : Graph) (t : ℕ) (v : VarId) → IsSound g → node_at g.nodes t ≡ Some (Var v) → value_in g.assigned v.index ≡ None → IsFirmNode g t
var-firm g t v s e f = by-node IsFirm g t (Var v) s e (λ env p. subst (λ o. IsFirm (variable_reads g v.index o env)) (sym f)
    (firm-plain (apply_all (At (term.Var v.index)) (levels (slice_index g.depths v.index) env)) (apply_all-plain (levels (slice_index g.depths v.index) env) (At (term.Var v.index)) tt)
    (subst IsFirmHead (sym (apply_all-head (levels (slice_index g.depths v.index) env) (At (term.Var v.index)) tt)) tt)))

pub app-firm : (g : Graph) (t : ℕ) (k : TermId) (ts : List TermId) → IsSound g → node_at g.nodes t ≡ Some (App k ts) → IsPlainNode g k.index → IsFirmNode g k.index → IsFirmNode g t
app-firm g t k ts s e plain firm = by-node IsFirm g t (App k ts) s e (λ env p.
    let xs = map (λ u. read g u.index env) ts in
    firm-plain (apply_all (read g k.index env) (map (λ u. read g u.index env) ts)) (apply_all-plain (map (λ u. read g u.index env) ts) (read g k.index env) (plain env p))
    (subst IsFirmHead (sym (apply_all-head (map (λ u. read g u.index env) ts) (read g k.index env) (plain env p))) (head-firm (read g k.index env) (plain env p) (firm env p))))

-- abstraction keeps such a head
firm-ren : (t : Term) → IsFirmHead (head_of (shift t)) → IsFirmHead (head_of t)
firm-ren (term.Lam b) h = h
firm-ren (At (term.Con c)) h = h
firm-ren (At (term.Int c)) h = h
firm-ren (At (term.Str c)) h = h
firm-ren (At (term.Name c)) h = h
firm-ren (At (term.Bound c)) h = h
firm-ren (At (term.Var c)) h = h
firm-ren (term.App f a) h = firm-ren f h

firm-applied : (u : Term) → IsFirm (term.App (shift u) (At (term.Bound 0))) → IsFirm u
firm-applied (term.Lam b) h = absurd h
firm-applied (At k) h = firm-ren (At k) h
firm-applied (term.App f a) h = firm-ren f h

pub firm-lam : (b : Term) → IsFirm b → IsFirm (lam b)
firm-lam b w = go (eta b) (eta-some b)
  where
    go : (o : Option Term) → IfSome o (λ u. b ≡ term.App (shift u) (At (term.Bound zero))) → IsFirm (lam_of o b)
    go None e = w
    go (Some u) e = firm-applied u (subst IsFirm e w)

pub lam-firm : (g : Graph) (t d : ℕ) (b : TermId) → IsSound g → node_at g.nodes t ≡ Some (Lam d b) → IsFirmNode g b.index → IsFirmNode g t
lam-firm g t d b s e w = by-node IsFirm g t (Lam d b) s e (λ env p. firm-lam (read g b.index (enter d env)) (w (enter d env) (places-enter d env p)))

-- an abstraction isn't ready
pub abstraction-unready : (t : Term) → IsAbstraction t → ready t ≡ false
unfolding ready
abstraction-unready (term.Lam b) w = refl
abstraction-unready (At h) w = absurd w
abstraction-unready (term.App f a) w = absurd w

app-ready : (f a : Term) → ready (term.App f a) ≡ ready f
unfolding ready
app-ready f a = refl

-- a term that is no abstraction is as ready before arguments
pub applied-ready : (xs : List Term) (t : Term) → IsPlain t → ready (apply_all t xs) ≡ ready t
applied-ready [] t w = refl
applied-ready (x ∷ xs) t w = applied-ready xs (apply t x) (subst IsPlain (sym (apply-plain t x w)) tt) ∙ ap ready (apply-plain t x w) ∙ app-ready t x

ready-plain : (t : Term) → ready t ≡ true → IsPlain t
ready-plain (term.Lam b) h = absurd (let e : false ≡ true = sym (ready-lam b) ∙ h in cc)
ready-plain (At k) h = tt
ready-plain (term.App f a) h = tt

-- places are ready
pub level-ready : (g : Graph) (t l : ℕ) → IsSound g → node_at g.nodes t ≡ Some (Level l) → IsReadyNode g t
level-ready g t l s e = by-node (λ x. ready x ≡ true) g t (Level l) s e (λ env p. places-ready env p l)

pub head-ready : (h : Head) → IsRigidHead h → ready (At h) ≡ true
unfolding ready
head-ready (term.Con c) w = refl
head-ready (term.Int c) w = refl
head-ready (term.Str c) w = refl
head-ready (term.Name c) w = refl
head-ready (term.Bound c) w = refl
head-ready (term.Var c) w = absurd w

-- applications of such nodes
pub applied-rigid : (g : Graph) (t : ℕ) (k : TermId) (ts : List TermId) → IsSound g → node_at g.nodes t ≡ Some (App k ts) → IsReadyNode g k.index → IsReadyNode g t
applied-rigid g t k ts s e w = by-node (λ x. ready x ≡ true) g t (App k ts) s e (λ env p.
    applied-ready (map (λ u. read g u.index env) ts) (read g k.index env) (ready-plain (read g k.index env) (w env p)) ∙ w env p)

pub applied-open : (g : Graph) (t : ℕ) (k : TermId) (ts : List TermId) → IsSound g → node_at g.nodes t ≡ Some (App k ts) → IsOpenNode g k.index → (env : ℕ → Term) → ArePlaces env → ready (read g t env) ≡ false
applied-open g t k ts s e w = by-node (λ x. ready x ≡ false) g t (App k ts) s e (λ env p.
    let here = w env p in
    applied-ready (map (λ u. read g u.index env) ts) (read g k.index env) here.0 ∙ here.1)

-- below an abstraction that the node doesn't reach
up-places : ArePlaces (λ i. At (term.Bound (suc i)))
up-places i = tt

pub entered-shift : (g : Graph) (t depth : ℕ) (env : ℕ → Term) → IsSound g → IsValid g t depth → read g t (enter depth env) ≡ shift (read g t env)
entered-shift g t depth env s v =
    readings_local g t depth (enter depth env) (λ i. shift (env i)) v (λ i h. ap (λ b. cond b (At (term.Bound 0)) (shift (env i))) (ne_eqb depth i (omega (arith, h))))
    ∙ ap (read g t) (fun_ext (λ i. ren_sub next (env i)))
    ∙ sym (read-follows g s t env (λ i. At (term.Bound (suc i))) up-places)
    ∙ sym (ren_sub next (read g t env))

not-first : (t : Term) → shift t ≡ At (term.Bound 0) → ⊥
not-first (term.Lam b) e = let q : term.Lam (ren (up next) b) ≡ At (term.Bound 0) = e in cc
not-first (term.App f a) e = let q : term.App (shift f) (shift a) ≡ At (term.Bound 0) = e in cc
not-first (At (term.Bound i)) e = let q : At (term.Bound (suc i)) ≡ At (term.Bound 0) = e in let k : suc i ≡ 0 = cc in omega (arith, k)
not-first (At (term.Con i)) e = let q : At (term.Con i) ≡ At (term.Bound 0) = e in cc
not-first (At (term.Int i)) e = let q : At (term.Int i) ≡ At (term.Bound 0) = e in cc
not-first (At (term.Str i)) e = let q : At (term.Str i) ≡ At (term.Bound 0) = e in cc
not-first (At (term.Name i)) e = let q : At (term.Name i) ≡ At (term.Bound 0) = e in cc
not-first (At (term.Var i)) e = let q : At (term.Var i) ≡ At (term.Bound 0) = e in cc

on_other : (a : Term) (o : Option Term) → (a ≡ At (term.Bound 0) → ⊥) → on_index a o ≡ None
on_other (At (term.Bound zero)) o h = absurd (h refl)
on_other (At (term.Bound (suc i))) o h = refl
on_other (At (term.Con i)) o h = refl
on_other (At (term.Int i)) o h = refl
on_other (At (term.Str i)) o h = refl
on_other (At (term.Name i)) o h = refl
on_other (At (term.Var i)) o h = refl
on_other (term.Lam b) o h = refl
on_other (term.App f a) o h = refl

eta-shift : (t : Term) → eta (shift t) ≡ None
eta-shift (term.Lam b) = refl
eta-shift (At (term.Con i)) = refl
eta-shift (At _) = refl
eta-shift (term.App f a) = on_other (shift a) (lower (shift f)) (not-first a)

pub low-ends : (g : Graph) (t depth : ℕ) → IsSound g → IsValid g t depth → EndsOtherwise g depth t
low-ends g t depth s v env p = ap eta (entered-shift g t depth env s v) ∙ eta-shift (read g t env)

pub low-other : (g : Graph) (t depth : ℕ) → IsSound g → IsValid g t depth → IsOther g depth t
low-other g t depth s v env p e = not-first (read g t env) (sym (entered-shift g t depth env s v) ∙ e)

pub firm-other : (g : Graph) (t depth : ℕ) → IsFirmNode g t → IsOther g depth t
firm-other g t depth w env p e = subst IsFirm e (w (enter depth env) (places-enter depth env p))

level-other : (depth l : ℕ) (env : ℕ → Term) → (l ≡ depth → ⊥) → enter depth env l ≡ At (term.Bound 0) → ⊥
level-other depth l env h e = not-first (env l) (sym (ap (λ b. cond b (At (term.Bound 0)) (shift (env l))) (ne_eqb depth l (λ q. h (sym q)))) ∙ e)

pub other-level : (g : Graph) (t depth l : ℕ) → IsSound g → node_at g.nodes t ≡ Some (Level l) → (l ≡ depth → ⊥) → IsOther g depth t
other-level g t depth l s e h env p q = level-other depth l env h (sym (nodes_read g t (Level l) (enter depth env) s (places-enter depth env p) e) ∙ q)

app-other : (xs : List Term) (t : Term) → IsPlain t → 0 < length xs → apply_all t xs ≡ At (term.Bound 0) → ⊥
app-other [] t w h e = omega (arith, h)
app-other (x ∷ []) t w h e = let q : term.App t x ≡ At (term.Bound 0) = sym (apply-plain t x w) ∙ e in cc
app-other (x ∷ y ∷ xs) t w h e = app-other (y ∷ xs) (apply t x) (subst IsPlain (sym (apply-plain t x w)) tt) (omega arith) e

pub other-app : (g : Graph) (t depth : ℕ) (k : TermId) (ts : List TermId) → IsSound g → node_at g.nodes t ≡ Some (App k ts) → IsPlainNode g k.index → 0 < length ts → IsOther g depth t
other-app g t depth k ts s e w long env p q =
    app-other (map (λ u. read g u.index (enter depth env)) ts) (read g k.index (enter depth env)) (w (enter depth env) (places-enter depth env p))
    (let l = length-map ts (λ u. read g u.index (enter depth env)) in omega (arith, l, long))
    (sym (nodes_read g t (App k ts) (enter depth env) s (places-enter depth env p) e) ∙ q)

eta-app : (f a : Term) → IsPlain f → (a ≡ At (term.Bound 0) → ⊥) → eta (apply f a) ≡ None
eta-app f a w h = ap eta (apply-plain f a w) ∙ on_other a (lower f) h

pub apply_all-end : (xs : List Term) (t x : Term) → apply_all t (xs ++ x ∷ []) ≡ apply (apply_all t xs) x
apply_all-end [] t x = refl
apply_all-end (y ∷ xs) t x = apply_all-end xs (apply t y) x

pub app-ends : (g : Graph) (t depth : ℕ) (k u : TermId) (ts front : List TermId) → IsSound g → node_at g.nodes t ≡ Some (App k ts) → ts ≡ front ++ u ∷ [] → IsPlainNode g k.index → IsOther g depth u.index → EndsOtherwise g depth t
app-ends g t depth k u ts front s e split w h env p =
    let env' = enter depth env in
    ap eta (nodes_read g t (App k ts) (enter depth env) s (places-enter depth env p) e
    ∙ ap (λ (us : List TermId). apply_all (read g k.index (enter depth env)) (map (λ z. read g z.index (enter depth env)) us)) split
    ∙ ap (apply_all (read g k.index (enter depth env))) (map-append (λ z. read g z.index (enter depth env)) front (u ∷ []))
    ∙ apply_all-end (map (λ z. read g z.index (enter depth env)) front) (read g k.index (enter depth env)) (read g u.index (enter depth env)))
    ∙ eta-app (apply_all (read g k.index (enter depth env)) (map (λ z. read g z.index (enter depth env)) front)) (read g u.index (enter depth env))
    (apply_all-plain (map (λ z. read g z.index (enter depth env)) front) (read g k.index (enter depth env)) (w (enter depth env) (places-enter depth env p)))
    (h env p)

last-of : (ts : List TermId) (u : TermId) (i : ℕ) → suc i ≡ length ts → Some u ≡ slice_get ts i → (front : List TermId) × (ts ≡ front ++ u ∷ [])
last-of [] u i l e = absurd (omega (arith, l))
last-of (x ∷ []) u zero l e = ([], let q : u ≡ x = cc in ap (λ z. z ∷ []) (sym q))
last-of (x ∷ []) u (suc i) l e = absurd (omega (arith, l))
last-of (x ∷ y ∷ ts) u zero l e = absurd (omega (arith, l))
last-of (x ∷ y ∷ ts) u (suc i) l e = let r = last-of (y ∷ ts) u i (omega (arith, l)) e in (x ∷ r.0, ap (λ (zs : List TermId). x ∷ zs) r.1)

none-last : (u : TermId) (i : ℕ) → Some u ≡ slice_get [] i → ⊥
none-last u i e = let q : Some u ≡ None = e in cc

pub last-split : (ts : List TermId) (u : TermId) → Some u ≡ slice_get ts (length ts - 1) → (front : List TermId) × (ts ≡ front ++ u ∷ [])
last-split [] u e = absurd (none-last u (length {A = TermId} [] - 1) e)
last-split (x ∷ ts) u e = last-of (x ∷ ts) u (length (x ∷ ts) - 1) (omega arith) e

-- abstractions
pub lam-abstraction : (g : Graph) (t d : ℕ) (b : TermId) → IsSound g → node_at g.nodes t ≡ Some (Lam d b) → EndsOtherwise g d b.index → IsAbstractionNode g t
lam-abstraction g t d b s e w = by-node IsAbstraction g t (Lam d b) s e (λ env p. subst (λ o. IsAbstraction (lam_of o (read g b.index (enter d env)))) (sym (w env p)) tt)

eta-lam : (u : Term) → IsAbstraction u → eta u ≡ None
eta-lam (term.Lam b) w = refl
eta-lam (At h) w = absurd w
eta-lam (term.App f a) w = absurd w

pub abstraction-ends : (g : Graph) (t depth : ℕ) → IsAbstractionNode g t → EndsOtherwise g depth t
abstraction-ends g t depth w env p = eta-lam (read g t (enter depth env)) (w (enter depth env) (places-enter depth env p))

pub level-ends : (g : Graph) (t depth l : ℕ) → IsSound g → node_at g.nodes t ≡ Some (Level l) → EndsOtherwise g depth t
level-ends g t depth l s e env p = ap eta (nodes_read g t (Level l) (enter depth env) s (places-enter depth env p) e) ∙ place-eta (enter depth env l) (places-enter depth env p l)
  where
    place-eta : (u : Term) → IsPlace u → eta u ≡ None
    place-eta (At h) w = refl
    place-eta (term.Lam b) w = refl
    place-eta (term.App f a) w = absurd w

pub leaf-ends : (g : Graph) (t depth : ℕ) (n : Node) → IsSound g → node_at g.nodes t ≡ Some n → ((env : ℕ → Term) → eta (node_reads g n env) ≡ None) → EndsOtherwise g depth t
leaf-ends g t depth n s e w env p = ap eta (nodes_read g t n (enter depth env) s (places-enter depth env p) e) ∙ w (enter depth env)

pub reads-level : (g : Graph) (t l : ℕ) → IsSound g → node_at g.nodes t ≡ Some (Level l) → (env : ℕ → Term) → ArePlaces env → read g t env ≡ env l
reads-level g t l s e env p = nodes_read g t (Level l) env s p e

-- a variable that has a value reads as it
pub reads-value : (g : Graph) (t value : ℕ) (v : VarId) → IsSound g → node_at g.nodes t ≡ Some (Var v) → value_in g.assigned v.index ≡ Some value → (env : ℕ → Term) → ArePlaces env → read g t env ≡ read g value env
reads-value g t value v s e f env p = nodes_read g t (Var v) env s p e ∙ ap (λ o. variable_reads g v.index o env) f

pub value-firm : (g : Graph) (t value : ℕ) (v : VarId) → IsSound g → node_at g.nodes t ≡ Some (Var v) → value_in g.assigned v.index ≡ Some value → IsFirmNode g value → IsFirmNode g t
value-firm g t value v s e f w = λ env p. subst IsFirm (sym (reads-value g t value v s e f env p)) (w env p)

-- an abstraction's body has a smaller tree
pub body-smaller : (g : Graph) (t d : ℕ) (b : TermId) → IsSound g → node_at g.nodes t ≡ Some (Lam d b) → tree_size (tree g b.index) < tree_size (tree g t)
unfolding tree
body-smaller g t d b s e = let same : tree_size (tree g t) ≡ 1 + tree_size (tree g b.index) = ap tree_size (tree-at g t (Lam d b) s e) in omega (arith, same)

pub var-unready : (g : Graph) (t : ℕ) (v : VarId) → IsSound g → node_at g.nodes t ≡ Some (Var v) → value_in g.assigned v.index ≡ None → (env : ℕ → Term) → ArePlaces env → ready (read g t env) ≡ false
var-unready g t v s e f = by-node (λ x. ready x ≡ false) g t (Var v) s e (λ env p.
    ap (λ o. ready (variable_reads g v.index o env)) f ∙ applied-ready (levels (slice_index g.depths v.index) env) (At (term.Var v.index)) tt ∙ ready-var v.index)

pub var-is_open : (g : Graph) (t : ℕ) (v : VarId) → IsSound g → node_at g.nodes t ≡ Some (Var v) → value_in g.assigned v.index ≡ None → IsOpenNode g t
var-is_open g t v s e f = λ env p. (var-plain g t v s e f env p, var-unready g t v s e f env p)

pub readiness-before : (g : Graph) (u w : Term) (d s : ℕ) (r : Readiness) → u ≡ w → d ≤ s → IsReadiness g d w r → IsReadiness g s u r
readiness-before g u w d s (some_level k) e l h = (e ∙ h.0, let q = h.1 in omega (arith, l, q))
readiness-before g u w d s (Ready r) e l h = (e ∙ h.0, valid_deeper g r.index d s h.1 l, ap ready e ∙ h.2)
readiness-before g u w d s Unready e l h = ap ready e ∙ h
readiness-before g u w d s Unknown e l h = tt

-- nodes that are there
pub lam-known : (g : Graph) (t : TermId) (d : ℕ) (b : TermId) → IsSound g → node_at g.nodes t.index ≡ Some (Lam d b) → IsLamOf d (value_of g b) (value_of g t)
lam-known g t d b s e = record {
  term = λ env p. nodes_read g t.index (Lam d b) env s p e;
  holds = λ h f l. nodes_valid g t.index (Lam d b) f s e ∙ and_both (nat_lt d (suc f)) _ (below_true d (suc f) (omega (arith, l))) (subst (λ n. valid g.nodes g.depths b.index n ≡ true) (let q : d + 1 ≡ suc d = omega arith in q) h);
  misses = λ v h. lam-misses g t.index d b v s e h;
}

pub var-open : (g : Graph) (t : TermId) (v : VarId) → IsSound g → node_at g.nodes t.index ≡ Some (Var v) → value_in g.assigned v.index ≡ None → IsVarOf v.index (slice_index g.depths v.index) (value_of g t)
var-open g t v s e f = record {
  term = λ env p. nodes_read g t.index (Var v) env s p e ∙ ap (λ o. variable_reads g v.index o env) f;
  holds = λ d l. nodes_valid g t.index (Var v) d s e ∙ below_true (slice_index g.depths v.index) (suc d) (omega (arith, l));
  misses = λ w q. var-misses g t.index v w s e f q;
}
