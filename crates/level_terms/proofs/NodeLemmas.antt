-- A node reads as its parts make it.
use Rattle.std.proofs.Common.{◌≡◌, ℕ, zero, suc, ◌+◌, List, [], ◌∷◌, map, length, cond, nat_eq, Bool, true, false, Option, Some, None, slice_index, refl, sym, ap, ap₂, ◌∙◌, arith, eqb-true, subst}
use mathlib.Core.Path.{fun_ext}
use Rattle.level_terms.specs.declared.node.Node.{Node}
use Rattle.level_terms.specs.declared.node.Node.TheVariants.{Con, Int, Str, Level, Lam, App, Var}
use Rattle.level_terms.specs.declared.node.TermId.{TermId}
use Rattle.level_terms.specs.Graph.{Graph, Assigned, node_at, value_in}
use Rattle.level_terms.specs.Layer.{layer_of}
use Rattle.level_terms.specs.Laws.{IsPlace, ArePlaces}
use Rattle.level_terms.specs.Sound.{IsSound}
use Rattle.level_terms.specs.Valid.{valid, AllValid}
use Rattle.level_terms.specs.Reading.{layer_term, levels, node_term, closed_term, value_term, values_of, read, enter, node_reads, variable_reads}
use Rattle.level_terms.proofs.FoldLemmas.{over-at, names_older}
use Rattle.level_terms.proofs.SubLemmas.{Reader, at_level, closed_term-apply}
use Rattle.level_terms.proofs.ReadingLemmas.{built-value}
use Rattle.level_terms.proofs.LocalLemmas.{Agree, step_down, node_term-local, no_index-values}
use Rattle.level_terms.proofs.CoverLemmas.{Built, inst_all-lam, inst_all-apply_all, place-stays, levels-stay}
use Rattle.level_terms.proofs.ValueLemmas.{values-free, value-stands}
use Rattle.ref_terms.specs.terms.Term as term
use Rattle.ref_terms.specs.terms.Term.{Term, Head, At}
use Rattle.ref_terms.specs.terms.Index.{shift, next}
use Rattle.ref_terms.specs.terms.Eta.{lam}
use Rattle.ref_terms.specs.terms.Ready.{ready}
use Rattle.ref_terms.specs.terms.Apply.{apply}
use Rattle.ref_terms.specs.terms.Built.{IsBuilt}
use Rattle.ref_terms.specs.terms.Instance.{inst_all}
use Rattle.ref_terms.specs.unification.Spine.{apply_all}
use Rattle.ref_terms.specs.lemmas.FillLemmas.{built-ren, built-apply, built-lam}
use Rattle.ref_terms.specs.lemmas.ReadyFacts.{ready-name, ready-bound}

place-ready : (t : Term) → IsPlace t → ready t ≡ true
place-ready (At (term.Name n)) w = ready-name n
place-ready (At (term.Bound i)) w = ready-bound i
place-ready (At (term.Con c)) w = absurd w
place-ready (At (term.Int n)) w = absurd w
place-ready (At (term.Str s)) w = absurd w
place-ready (At (term.Var v)) w = absurd w
place-ready (term.Lam b) w = absurd w
place-ready (term.App f a) w = absurd w

place-built : (t : Term) → IsPlace t → IsBuilt t
place-built (At h) w = tt
place-built (term.Lam b) w = absurd w
place-built (term.App f a) w = absurd w

-- what is read from built terms is built
built-enter : (d : ℕ) (env : ℕ → Term) → Built env → Built (enter d env)
built-enter d env w i = go (nat_eq d i)
  where
    go : (b : Bool) → IsBuilt (cond b (At (term.Bound 0)) (shift (env i)))
    go true = tt
    go false = built-ren next (env i) (w i)

-- each term of a list is built
abbrev AllBuiltTerms : List Term → Type 0
AllBuiltTerms [] = Unit {0}
AllBuiltTerms (x ∷ xs) = IsBuilt x × AllBuiltTerms xs

built-apply_all : (t : Term) (xs : List Term) → IsBuilt t → AllBuiltTerms xs → IsBuilt (apply_all t xs)
built-apply_all t [] w v = w
built-apply_all t (x ∷ xs) w v = built-apply_all (apply t x) xs (built-apply t x w v.0) v.1

built-levels : (k : ℕ) (env : ℕ → Term) → Built env → AllBuiltTerms (levels k env)
built-levels zero env w = tt
built-levels (suc k) env w = (w 0, built-levels k (λ i. env (suc i)) (λ i. w (suc i)))

built-parts : (f : ℕ → Reader) (env : ℕ → Term) → ((k : ℕ) → IsBuilt (f k env)) → (ts : List TermId) → AllBuiltTerms (map (λ r. r env) (map (λ t. f t.index) ts))
built-parts f env w [] = tt
built-parts f env w (t ∷ ts) = (w t.index, built-parts f env w ts)

built-node : (depths : List ℕ) (f : ℕ → Reader) → ((k : ℕ) (env : ℕ → Term) → Built env → IsBuilt (f k env)) → (n : Node) (env : ℕ → Term) → Built env → IsBuilt (layer_term depths (layer_of f n) env)
built-node depths f w (Con c) env b = tt
built-node depths f w (Int c) env b = tt
built-node depths f w (Str c) env b = tt
built-node depths f w (Level l) env b = b l
built-node depths f w (Lam d t) env b = built-lam (f t.index (enter d env)) (w t.index (enter d env) (built-enter d env b))
built-node depths f w (App h ts) env b = built-apply_all (f h.index env) (map (λ r. r env) (map (λ t. f t.index) ts)) (w h.index env b) (built-parts f env (λ k. w k env b) ts)
built-node depths f w (Var v) env b = built-apply_all (At (term.Var v.index)) (levels (slice_index depths v.index) env) tt (built-levels (slice_index depths v.index) env b)

pub built-node_term : (nodes : List Node) (depths : List ℕ) (t : ℕ) (env : ℕ → Term) → Built env → IsBuilt (node_term nodes depths t env)
built-node_term [] depths t env b = tt
built-node_term (n ∷ older) depths t env b = go (nat_eq (length older) t) (λ k e w. built-node_term older depths k e w)
  where
    go : (x : Bool) → ((k : ℕ) (e : ℕ → Term) → Built e → IsBuilt (node_term older depths k e)) → IsBuilt (cond x (layer_term depths (layer_of (node_term older depths) n)) (node_term older depths t) env)
    go true before = built-node depths (node_term older depths) before n env b
    go false before = before t env b

built-closed : (nodes : List Node) (depths : List ℕ) (d k t : ℕ) (env : ℕ → Term) → Built env → IsBuilt (closed_term nodes depths d k t env)
built-closed nodes depths d zero t env b = built-node_term nodes depths t env b
built-closed nodes depths d (suc k) t env b = built-lam (closed_term nodes depths (suc d) k t (enter d env)) (built-closed nodes depths (suc d) k t (enter d env) (built-enter d env b))

-- one more level stands for the same
at_level-agree : (d : ℕ) (e env : ℕ → Term) → Agree d e env → Agree (suc d) (at_level d (env d) e) env
at_level-agree d e env same i h = go (nat_eq d i) refl
  where
    go : (b : Bool) → nat_eq d i ≡ b → cond b (env d) (e i) ≡ env i
    go true q = ap env (eqb-true d i q)
    go false q = same i (step_down d i q h)

built-at_level : (d : ℕ) (x : Term) (e : ℕ → Term) → IsBuilt x → Built e → Built (at_level d x e)
built-at_level d x e w b i = go (nat_eq d i)
  where
    go : (y : Bool) → IsBuilt (cond y x (e i))
    go true = w
    go false = b i

-- a value applied to its levels is the node's term
closed-applied : (nodes : List Node) (depths : List ℕ) (k d t : ℕ) (e env : ℕ → Term) → ArePlaces env → Built e → valid nodes depths t (d + k) ≡ true → Agree d e env →
    apply_all (closed_term nodes depths d k t e) (levels k (λ i. env (d + i))) ≡ node_term nodes depths t env
closed-applied nodes depths zero d t e env p b h same = node_term-local nodes depths t d (subst (λ n. valid nodes depths t n ≡ true) (let q : d + 0 ≡ d = omega arith in q) h) e env same
closed-applied nodes depths (suc k) d t e env p b h same =
    let here : env (d + 0) ≡ env d = ap env (let q : d + 0 ≡ d = omega arith in q) in
    let later = fun_ext (λ i. ap env (let q : d + suc i ≡ suc d + i = omega arith in q)) in
    ap₂ (λ (x : Term) (f : ℕ → Term). apply_all (apply (closed_term nodes depths d (suc k) t e) x) (levels k f)) here later
    ∙ ap (λ z. apply_all z (levels k (λ i. env (suc d + i)))) (closed_term-apply nodes depths d k t e (env d) (place-ready (env d) (p d)) (built-closed nodes depths (suc d) k t (enter d e) (built-enter d e b)))
    ∙ closed-applied nodes depths k (suc d) t (at_level d (env d) e) env p (built-at_level d (env d) e (place-built (env d) (p d)) b) (subst (λ n. valid nodes depths t n ≡ true) (let q : d + suc k ≡ suc d + k = omega arith in q) h) (at_level-agree d e env same)

value-applied : (nodes : List Node) (depths : List ℕ) (a : Assigned) (env : ℕ → Term) → ArePlaces env → valid nodes depths a.value (slice_index depths a.variable) ≡ true →
    apply_all (value_term nodes depths a) (levels (slice_index depths a.variable) env) ≡ node_term nodes depths a.value env
value-applied nodes depths a env p h =
    let k = slice_index depths a.variable in
    let flat = fun_ext (λ i. ap env (let q : i ≡ 0 + i = omega arith in q)) in
    ap (λ (f : ℕ → Term). apply_all (value_term nodes depths a) (levels k f)) flat
    ∙ closed-applied nodes depths k 0 a.value (λ i. At (term.Bound i)) env p (λ i. tt) (subst (λ n. valid nodes depths a.value n ≡ true) (let q : k ≡ 0 + k = omega arith in q) h) (λ i l. absurd (omega (arith, l)))

pub value-valid : (nodes : List Node) (depths : List ℕ) (bs : List Assigned) → AllValid nodes depths bs → (v t : ℕ) → value_in bs v ≡ Some t → valid nodes depths t (slice_index depths v) ≡ true
value-valid nodes depths [] w v t e = absurd (let z : None ≡ Some t = e in cc)
value-valid nodes depths (a ∷ older) w v t e = go (nat_eq a.variable v) refl e (λ q. value-valid nodes depths older w.1 v t q)
  where
    go : (b : Bool) → nat_eq a.variable v ≡ b → cond b (Some a.value) (value_in older v) ≡ Some t → (value_in older v ≡ Some t → valid nodes depths t (slice_index depths v) ≡ true) → valid nodes depths t (slice_index depths v) ≡ true
    go true q e h =
        let variables : a.variable ≡ v = eqb-true _ _ q in
        let values : a.value ≡ t = (let z : Some a.value ≡ Some t = e in cc) in
        subst (λ x. valid nodes depths t (slice_index depths x) ≡ true) variables (subst (λ x. valid nodes depths x (slice_index depths a.variable) ≡ true) values w.0)
    go false q e h = h e

reads-parts : (u : ℕ → Term) (f : ℕ → Reader) (env : ℕ → Term) (ts : List TermId) → map (inst_all u) (map (λ r. r env) (map (λ t. f t.index) ts)) ≡ map (λ t. inst_all u (f t.index env)) ts
reads-parts u f env [] = refl
reads-parts u f env (t ∷ ts) = ap (λ (xs : List Term). inst_all u (f t.index env) ∷ xs) (reads-parts u f env ts)

reads-variable : (g : Graph) (v : ℕ) (env : ℕ → Term) → IsSound g → ArePlaces env → (o : Option ℕ) → value_in g.assigned v ≡ o →
    apply_all (values_of g.nodes g.depths g.assigned v) (levels (slice_index g.depths v) env) ≡ variable_reads g v o env
unfolding read
reads-variable g v env s p None e = ap (λ z. apply_all z (levels (slice_index g.depths v) env)) (values-free g.nodes g.depths g.assigned v e)
reads-variable g v env s p (Some t) e =
    let u = values_of g.nodes g.depths g.assigned in
    let a : Assigned = record { variable = v; value = t } in
    let k = slice_index g.depths v in
    ap₂ apply_all (value-stands g.nodes g.depths g.assigned s.acyclic v t e) (sym (levels-stay (values_of g.nodes g.depths g.assigned) k env p))
    ∙ sym (inst_all-apply_all (values_of g.nodes g.depths g.assigned) (built-value g.nodes g.depths g.assigned) (value_term g.nodes g.depths a) (levels k env))
    ∙ ap (inst_all (values_of g.nodes g.depths g.assigned)) (value-applied g.nodes g.depths a env p (value-valid g.nodes g.depths g.assigned s.valid v t e))

reads-layer : (g : Graph) (n : Node) (env : ℕ → Term) → IsSound g → ArePlaces env → inst_all (values_of g.nodes g.depths g.assigned) (layer_term g.depths (layer_of (node_term g.nodes g.depths) n) env) ≡ node_reads g n env
unfolding read
reads-layer g (Con c) env s p = refl
reads-layer g (Int n) env s p = refl
reads-layer g (Str c) env s p = refl
reads-layer g (Level l) env s p = place-stays (values_of g.nodes g.depths g.assigned) (env l) (p l)
reads-layer g (Lam d b) env s p =
    let u = values_of g.nodes g.depths g.assigned in
    inst_all-lam (values_of g.nodes g.depths g.assigned) (built-value g.nodes g.depths g.assigned) (node_term g.nodes g.depths b.index (enter d env))
    ∙ ap (λ (w : ℕ → Term). lam (inst_all w (node_term g.nodes g.depths b.index (enter d env)))) (fun_ext (λ v. no_index-values g.nodes g.depths g.assigned s.valid v next))
reads-layer g (App h ts) env s p =
    inst_all-apply_all (values_of g.nodes g.depths g.assigned) (built-value g.nodes g.depths g.assigned) (node_term g.nodes g.depths h.index env) (map (λ r. r env) (map (λ t. node_term g.nodes g.depths t.index) ts))
    ∙ ap (apply_all (inst_all (values_of g.nodes g.depths g.assigned) (node_term g.nodes g.depths h.index env))) (reads-parts (values_of g.nodes g.depths g.assigned) (node_term g.nodes g.depths) env ts)
reads-layer g (Var v) env s p =
    inst_all-apply_all (values_of g.nodes g.depths g.assigned) (built-value g.nodes g.depths g.assigned) (At (term.Var v.index)) (levels (slice_index g.depths v.index) env)
    ∙ ap (apply_all (values_of g.nodes g.depths g.assigned v.index)) (levels-stay (values_of g.nodes g.depths g.assigned) (slice_index g.depths v.index) env p)
    ∙ reads-variable g v.index env s p (value_in g.assigned v.index) refl

pub nodes_read : (g : Graph) (t : ℕ) (n : Node) (env : ℕ → Term) → IsSound g → ArePlaces env → node_at g.nodes t ≡ Some n → read g t env ≡ node_reads g n env
unfolding read
nodes_read g t n env s p e =
    ap (λ (r : Reader). inst_all (values_of g.nodes g.depths g.assigned) (r env)) (over-at (layer_term g.depths) (λ x. At (term.Con 0)) g.nodes t n (names_older (length g.depths) g.nodes s.made) e)
    ∙ reads-layer g n env s p
