-- Nodes with a term in the place of a level.
use Rattle.std.specs.Prelude.{IsTrue}
use Rattle.std.proofs.Common.{inl, inr, ◌⊎◌, ◌≡◌, ℕ, zero, suc, ◌<◌, ◌≤◌, ◌-◌, ◌+◌, List, [], ◌∷◌, ◌++◌, map, length, cond, nat_eq, nat_lt, Bool, true, false, Some, None, slice_index, refl, sym, ap, ap₂, ◌∙◌, arith, subst, eqb-true, eq-eqb, ne_eqb}
use Rattle.std.specs.List.{list_all}
use mathlib.Core.Path.{fun_ext}
use Rattle.level_terms.specs.declared.node.Node.TheVariants.{Level, Lam, App, Var}
use Rattle.level_terms.specs.declared.node.TermId.{TermId}
use Rattle.level_terms.specs.declared.node.VarId.{VarId}
use Rattle.level_terms.specs.Graph.{Graph, node_at, value_in}
use Rattle.level_terms.specs.Laws.{IsPlace, ArePlaces}
use Rattle.level_terms.specs.Sound.{IsSound}
use Rattle.level_terms.specs.Valid.{valid, IsValid}
use Rattle.level_terms.specs.Reading.{read, enter, levels, variable_reads}
use Rattle.level_terms.proofs.LocalLemmas.{readings_local, and_left}
use Rattle.level_terms.proofs.CoverLemmas.{places-enter}
use Rattle.level_terms.proofs.NodeLemmas.{nodes_read}
use Rattle.level_terms.proofs.ValidLemmas.{nodes_valid, valid_deeper}
use Rattle.ref_terms.specs.terms.Term as term
use Rattle.ref_terms.specs.terms.Term.{Term, Head, At}
use Rattle.ref_terms.specs.terms.Index.{shift}
use Rattle.ref_terms.specs.terms.Eta.{lam}
use Rattle.ref_terms.specs.terms.Apply.{apply, below, fill}
use Rattle.ref_terms.specs.terms.Built.{IsBuilt}
use Rattle.ref_terms.specs.terms.Occurs.{is_name, has_name}
use Rattle.ref_terms.specs.unification.Spine.{apply_all}
use Rattle.ref_terms.specs.terms.Ready.{ready}
use Rattle.ref_terms.specs.laws.TermLaws.{AllBuilt, KeepsReady}
use Rattle.ref_terms.specs.lemmas.ReadyFacts.{ready-sub, ready-name, ready-bound}
use Rattle.ref_terms.specs.lemmas.ComposeLemmas.{fill-lam, fill-apply}
use Rattle.ref_terms.specs.lemmas.OccursLemmas.{fill_at}
use Rattle.ref_terms.specs.lemmas.NameLemmas.{fill-agree_names}
use Rattle.level_terms.specs.Values.{Value, IsLamOf, IsAppOf, IsLevelOf, IsVarOf}
use Rattle.beta_fragment.specs.Moves.{putting, Puts, IsPutLevel, ArePutLevels, IsPutVar, around, put_name, Lacks}
use Rattle.beta_fragment.specs.Firm.{IsPlain, IsPlainNode}
use Rattle.beta_fragment.specs.Names.{names}
use Rattle.level_terms.proofs.ReadLemmas.{read-built, read-follows, places-ready}
use Rattle.beta_fragment.proofs.EnterLemmas.{names-places}
use Rattle.beta_fragment.proofs.EnterLemmas.{body-valid}
use Rattle.level_terms.proofs.MakeLemmas.{and_both, below_true}
use Rattle.beta_fragment.proofs.MoveLemmas.{below_false, below_from, above_from, AllMove}
use Rattle.beta_fragment.proofs.FirmLemmas.{apply-plain}
use Rattle.beta_fragment.proofs.NamelessLemmas.{lacks-enter, nameless-read}

-- what a term that is put in a place has to keep: it is built, and is valid at the level
pub record CanPut (put : (ℕ → Term) → Term) (level : ℕ) : Type 0 where
  pub built : (env : ℕ → Term) → IsBuilt (put env)
  pub enters : (e : ℕ) (env : ℕ → Term) → level ≤ e → put (enter e env) ≡ shift (put env)

pub put-built : (n : ℕ) (s : Term) → IsBuilt s → AllBuilt (put_name n s)
put-built n s w h = go (is_name n h)
  where
    go : (b : Bool) → IsBuilt (cond b s (At h))
    go true = w
    go false = tt

-- a ready term in the place of a name goes through each application
pub put-keeps : (n : ℕ) (s : Term) → ready s ≡ true → KeepsReady (put_name n s)
put-keeps n s r h e = go (is_name n h)
  where
    go : (b : Bool) → ready (cond b s (At h)) ≡ true
    go true = r
    go false = e

pub put-applies : (n : ℕ) (s : Term) → IsBuilt s → ready s ≡ true → (xs : List Term) (t : Term) → fill (put_name n s) (apply_all t xs) ≡ apply_all (fill (put_name n s) t) (map (fill (put_name n s)) xs)
put-applies n s w r [] t = refl
put-applies n s w r (x ∷ xs) t = put-applies n s w r xs (apply t x) ∙ ap (λ z. apply_all z (map (fill (put_name n s)) xs)) (fill-apply (put_name n s) (put-built n s w) (put-keeps n s r) t x)

-- whether a node is ready doesn't hang on the places that its levels stand for
ready-places : (g : Graph) → IsSound g → (t : ℕ) (env : ℕ → Term) → ArePlaces env → ready (read g t env) ≡ ready (read g t (λ i. At (term.Bound i)))
ready-places g s t env p = ap ready (sym (read-follows g s t (λ i. At (term.Bound i)) env p)) ∙ ready-sub env (places-ready env p) (read g t (λ i. At (term.Bound i)))

-- wherever the levels stand for places, the term is ready
abbrev pub IsReadyPut : ((ℕ → Term) → Term) → Type 0
IsReadyPut put = (env : ℕ → Term) → ArePlaces env → ready (put env) ≡ true

ready-put : (g : Graph) → IsSound g → (t : ℕ) → ready (read g t names) ≡ true → IsReadyPut (read g t)
ready-put g s t r env p = ready-places g s t env p ∙ sym (ready-places g s t names names-places) ∙ r

pub goes-through : (g : Graph) (put head : ℕ) (b : Bool) → IsSound g → (IsTrue b → ready (read g put names) ≡ true) → (b ≡ false → IsPlainNode g head) → IsPlainNode g head ⊎ IsReadyPut (read g put)
goes-through g put head true s r p = inr (ready-put g s put (r refl))
goes-through g put head false s r p = inl (p refl)

-- without the name nothing changes
at-built : (h : Head) → IsBuilt (At h)
at-built h = tt

pub put-absent : (n : ℕ) (s t : Term) → IsBuilt t → has_name n t ≡ false → fill (put_name n s) t ≡ t
put-absent n s t w e = fill-agree_names n (put_name n s) (λ h. At h) (λ h k. ap (λ b. cond b s (At h)) k) t e ∙ fill_at t w

put-below : (n : ℕ) (s : Term) (h : Head) → below (put_name n s) h ≡ put_name n (shift s) h
put-below n s (term.Bound zero) = refl
put-below n s (term.Bound (suc i)) = refl
put-below n s (term.Con c) = refl
put-below n s (term.Int c) = refl
put-below n s (term.Str c) = refl
put-below n s (term.Var c) = refl
put-below n s (term.Name c) = go (nat_eq n c)
  where
    go : (b : Bool) → shift (cond b s (At (term.Name c))) ≡ cond b (shift s) (At (term.Name c))
    go true = refl
    go false = refl

-- the levels around the place
around-low : (level : ℕ) (env : ℕ → Term) (i : ℕ) → i < level → around level env i ≡ env i
around-low level env i h = ap (λ b. cond b (env i) (cond (nat_eq i level) (At (term.Name level)) (env (i - 1)))) (below_true i level h)

around-here : (level : ℕ) (env : ℕ → Term) → around level env level ≡ At (term.Name level)
around-here level env = ap₂ (λ b c. cond b (env level) (cond c (At (term.Name level)) (env (level - 1)))) (below_false level level (omega arith)) (eq-eqb level level refl)

around-high : (level : ℕ) (env : ℕ → Term) (i : ℕ) → level < i → around level env i ≡ env (i - 1)
around-high level env i h = ap₂ (λ b c. cond b (env i) (cond c (At (term.Name level)) (env (i - 1)))) (below_false i level (omega (arith, h))) (ne_eqb i level (omega (arith, h)))

pub around-places : (level : ℕ) (env : ℕ → Term) → ArePlaces env → ArePlaces (around level env)
around-places level env p i = go (nat_lt i level) (nat_eq i level)
  where
    go : (b c : Bool) → IsPlace (cond b (env i) (cond c (At (term.Name level)) (env (i - 1))))
    go true c = p i
    go false true = tt
    go false false = p (i - 1)

place-same : (n : ℕ) (s t : Term) → IsPlace t → has_name n t ≡ false → fill (put_name n s) t ≡ t
place-same n s (At h) p e = ap (λ b. cond b s (At h)) e
place-same n s (term.Lam b) p e = absurd p
place-same n s (term.App f a) p e = absurd p

-- a level
pub put-low : (put : (ℕ → Term) → Term) (level i : ℕ) (x : Value) → i < level → IsLevelOf i x → IsPutLevel put level i x
put-low put level i x h w = record {
  term = λ env p k. w.term env p ∙ sym (ap (fill (put_name level (put env))) (around-low level env i h) ∙ place-same level (put env) (env i) (p i) (k i));
  holds = λ e a b. w.holds e (omega (arith, h, a));
}

pub put-here : (put : (ℕ → Term) → Term) (level i : ℕ) (x : Value) → i ≡ level → x.term ≡ put → ((e : ℕ) → level ≤ e → x.holds e ≡ true) → IsPutLevel put level i x
put-here put level i x h w v = record {
  term = λ env p k. ap (λ r. r env) w ∙ sym (ap (fill (put_name level (put env))) (ap (around level env) h ∙ around-here level env) ∙ ap (λ b. cond b (put env) (At (term.Name level))) (eq-eqb level level refl));
  holds = λ e a b. v e a;
}

pub put-high : (put : (ℕ → Term) → Term) (level i : ℕ) (x : Value) → level < i → IsLevelOf (i - 1) x → IsPutLevel put level i x
put-high put level i x h w = record {
  term = λ env p k. w.term env p ∙ sym (ap (fill (put_name level (put env))) (around-high level env i h) ∙ place-same level (put env) (env (i - 1)) (p (i - 1)) (k (i - 1)));
  holds = λ e a b. w.holds e (omega (arith, h, b));
}

pub put-level : (g : Graph) (put : (ℕ → Term) → Term) (level t l s : ℕ) (x : Value) → IsSound g → node_at g.nodes t ≡ Some (Level l) → IsValid g t s → level < s → IsPutLevel put level l x → Puts g put level t s x
put-level g put level t l s x sound e v deep w = record {
  term = λ env p k. w.term env p k ∙ sym (ap (fill (put_name level (put env))) (nodes_read g t (Level l) (around level env) sound (around-places level env p) e));
  holds = λ f q. let low : l < s = below_from l s (sym (nodes_valid g t (Level l) s sound e) ∙ v) in w.holds f (omega (arith, deep, q)) (omega (arith, low, q));
}

-- an abstraction
around-inner : (level d : ℕ) (env : ℕ → Term) → level < d → (i : ℕ) → i < suc d → enter d (around level env) i ≡ around level (enter (d - 1) env) i
around-inner level d env deep i h = go (nat_eq d i) refl
  where
    low : i < level → shift (around level env i) ≡ around level (enter (d - 1) env) i
    low k = ap shift (around-low level env i k) ∙ sym (around-low level (enter (d - 1) env) i k ∙ ap (λ b. cond b (At (term.Bound 0)) (shift (env i))) (ne_eqb (d - 1) i (omega (arith, k, deep))))

    high : level < i → (d ≡ i → ⊥) → shift (around level env i) ≡ around level (enter (d - 1) env) i
    high k n = ap shift (around-high level env i k) ∙ sym (around-high level (enter (d - 1) env) i k ∙ ap (λ b. cond b (At (term.Bound 0)) (shift (env (i - 1)))) (ne_eqb (d - 1) (i - 1) (omega (arith, k, n, deep))))

    here : i ≡ level → shift (around level env i) ≡ around level (enter (d - 1) env) i
    here k = ap (λ j. shift (around level env j)) k ∙ ap shift (around-here level env) ∙ sym (ap (around level (enter (d - 1) env)) k ∙ around-here level (enter (d - 1) env))

    other : (b c : Bool) → nat_lt i level ≡ b → nat_eq i level ≡ c → (d ≡ i → ⊥) → shift (around level env i) ≡ around level (enter (d - 1) env) i
    other true c e f n = low (below_from i level e)
    other false true e f n = here (eqb-true i level f)
    other false false e f n =
        let k : level ≤ i = above_from i level e in
        let m : i ≡ level → ⊥ = λ q. (let z : nat_eq i level ≡ true = eq-eqb i level q in let y : true ≡ false = sym z ∙ f in absurd (cc)) in
        high (omega (arith, k, m)) n

    go : (b : Bool) → nat_eq d i ≡ b → cond b (At (term.Bound 0)) (shift (around level env i)) ≡ around level (enter (d - 1) env) i
    go true e =
        let same : d ≡ i = eqb-true d i e in
        sym (around-high level (enter (d - 1) env) i (omega (arith, deep, same)) ∙ ap (λ b. cond b (At (term.Bound 0)) (shift (env (i - 1)))) (eq-eqb (d - 1) (i - 1) (ap (λ n. n - 1) same)))
    go false e = other (nat_lt i level) (nat_eq i level) refl refl (λ q. (let z : nat_eq d i ≡ true = eq-eqb d i q in let y : true ≡ false = sym z ∙ e in absurd (cc)))

pub put-lam : (g : Graph) (put : (ℕ → Term) → Term) (level t s d : ℕ) (b : TermId) (y x : Value) → IsSound g → CanPut put level → node_at g.nodes t ≡ Some (Lam d b) → IsValid g t s → level < d → Puts g put level b.index (suc d) y → IsLamOf (d - 1) y x → Puts g put level t s x
put-lam g put level t s d b y x sound can e v deep m w = record {
  term = λ env p k.
      w.term env p
      ∙ ap lam (m.term (enter (d - 1) env) (places-enter (d - 1) env p) (lacks-enter level (d - 1) env k)
      ∙ ap₂ (λ (r : Head → Term) (z : Term). fill r z)
      (fun_ext (λ h. ap (λ z. put_name level z h) (can.enters (d - 1) env (omega (arith, deep))) ∙ sym (put-below level (put env) h)))
      (sym (readings_local g b.index (suc d) (enter d (around level env)) (around level (enter (d - 1) env)) (body-valid g sound t d b s e v) (around-inner level d env deep))))
      ∙ sym (fill-lam (put_name level (put env)) (put-built level (put env) (can.built env)) (read g b.index (enter d (around level env))))
      ∙ ap (fill (put_name level (put env))) (sym (nodes_read g t (Lam d b) (around level env) sound (around-places level env p) e));
  holds = λ f q.
      let low : d < suc s = below_from d (suc s) (and_left _ _ (sym (nodes_valid g t (Lam d b) s sound e) ∙ v)) in
      w.holds (m.holds (d - 1 + 1) (omega (arith, deep))) f (omega (arith, low, q));
}

-- an application whose head is no abstraction, or into which a ready term is put
fill-spine : (r : Head → Term) (xs : List Term) (t : Term) → IsPlain t → fill r (apply_all t xs) ≡ apply_all (fill r t) (map (fill r) xs)
fill-spine r [] t w = refl
fill-spine r (x ∷ xs) t w =
    fill-spine r xs (apply t x) (subst IsPlain (sym (apply-plain t x w)) tt)
    ∙ ap (λ z. apply_all z (map (fill r) xs)) (ap (fill r) (apply-plain t x w))

terms-put : (g : Graph) (put : (ℕ → Term) → Term) (level base s : ℕ) (ts : List TermId) (xs : List Value) → AllMove g (putting put level) base s ts xs → (env : ℕ → Term) → ArePlaces env → Lacks level env →
    map (λ (y : Value). y.term env) xs ≡ map (fill (put_name level (put env))) (map (λ u. read g u.index (around level env)) ts)
terms-put g put level base s [] [] w env p k = refl
terms-put g put level base s (t ∷ ts) [] w env p k = absurd w
terms-put g put level base s [] (x ∷ xs) w env p k = absurd w
terms-put g put level base s (t ∷ ts) (x ∷ xs) w env p k = ap₂ (λ (y : Term) (ys : List Term). y ∷ ys) (w.0.term env p k) (terms-put g put level base s ts xs w.1 env p k)

all-put : (g : Graph) (put : (ℕ → Term) → Term) (level base s : ℕ) (ts : List TermId) (xs : List Value) → AllMove g (putting put level) base s ts xs → (f : ℕ) → s - 1 ≤ f → list_all (λ (y : Value). y.holds f) xs ≡ true
all-put g put level base s [] [] w f q = refl
all-put g put level base s (t ∷ ts) [] w f q = absurd w
all-put g put level base s [] (x ∷ xs) w f q = absurd w
all-put g put level base s (t ∷ ts) (x ∷ xs) w f q = and_both (x.holds f) _ (w.0.holds f q) (all-put g put level base s ts xs w.1 f q)

through-spine : (g : Graph) (put : (ℕ → Term) → Term) (level k : ℕ) → CanPut put level → IsPlainNode g k ⊎ IsReadyPut put → (env : ℕ → Term) → ArePlaces env → (xs : List Term) →
    fill (put_name level (put env)) (apply_all (read g k (around level env)) xs) ≡ apply_all (fill (put_name level (put env)) (read g k (around level env))) (map (fill (put_name level (put env))) xs)
through-spine g put level k can (inl w) env p xs = fill-spine (put_name level (put env)) xs (read g k (around level env)) (w (around level env) (around-places level env p))
through-spine g put level k can (inr r) env p xs = put-applies level (put env) (can.built env) (r env p) xs (read g k (around level env))

pub put-app : (g : Graph) (put : (ℕ → Term) → Term) (level t base s : ℕ) (k : TermId) (ts : List TermId) (h x : Value) (xs : List Value) → IsSound g → CanPut put level → node_at g.nodes t ≡ Some (App k ts) → IsPlainNode g k.index ⊎ IsReadyPut put →
    Puts g put level k.index s h → AllMove g (putting put level) base s ts xs → IsAppOf h xs x → Puts g put level t s x
put-app g put level t base s k ts h x xs sound can e through m ms w = record {
  term = λ env p l. w.term env p
      ∙ ap₂ apply_all (m.term env p l) (terms-put g put level base s ts xs ms env p l)
      ∙ sym (ap (fill (put_name level (put env))) (nodes_read g t (App k ts) (around level env) sound (around-places level env p) e)
      ∙ through-spine g put level k.index can through env p (map (λ u. read g u.index (around level env)) ts));
  holds = λ f q. w.holds f (m.holds f q) (all-put g put level base s ts xs ms f q);
}

-- a variable that has a value
pub put-value : (g : Graph) (put : (ℕ → Term) → Term) (level t s value : ℕ) (v : VarId) (x : Value) → IsSound g → node_at g.nodes t ≡ Some (Var v) → value_in g.assigned v.index ≡ Some value → IsValid g t s → Puts g put level value (slice_index g.depths v.index) x → Puts g put level t s x
put-value g put level t s value v x sound e f valid m = record {
  term = λ env p k. m.term env p k
      ∙ ap (fill (put_name level (put env))) (sym (nodes_read g t (Var v) (around level env) sound (around-places level env p) e ∙ ap (λ o. variable_reads g v.index o (around level env)) f));
  holds = λ d q.
      let deep : slice_index g.depths v.index < suc s = below_from (slice_index g.depths v.index) (suc s) (sym (nodes_valid g t (Var v) s sound e) ∙ valid) in
      m.holds d (omega (arith, deep, q));
}

-- a node that the level isn't in
pub put-kept : (g : Graph) (put : (ℕ → Term) → Term) (level t s : ℕ) (x : Value) → IsValid g t level → level < s → x.term ≡ read g t → x.holds ≡ valid g.nodes g.depths t → Puts g put level t s x
put-kept g put level t s x v deep e h = record {
  term = λ env p k. ap (λ r. r env) e
      ∙ sym (put-absent level (put env) (read g t env) (read-built g t env) (nameless-read level g t env k))
      ∙ ap (fill (put_name level (put env))) (readings_local g t level env (around level env) v (λ i l. sym (around-low level env i l)));
  holds = λ d q. ap (λ r. r d) h ∙ valid_deeper g t level d v (omega (arith, deep, q));
}

-- a variable that has no value
levels-put : (put : (ℕ → Term) → Term) (level k : ℕ) (xs : List Value) → ArePutLevels put level k xs → (env : ℕ → Term) → ArePlaces env → Lacks level env →
    map (λ (y : Value). y.term env) xs ≡ map (fill (put_name level (put env))) (levels (length xs) (λ i. around level env (k + i)))
levels-put put level k [] w env p l = refl
levels-put put level k (x ∷ xs) w env p l =
    let here : around level env k ≡ around level env (k + 0) = ap (around level env) (let q : k ≡ k + 0 = omega arith in q) in
    ap₂ (λ (y : Term) (ys : List Term). y ∷ ys) (w.0.term env p l ∙ ap (fill (put_name level (put env))) here)
    (levels-put put level (suc k) xs w.1 env p l
    ∙ ap (λ (f : ℕ → Term). map (fill (put_name level (put env))) (levels (length xs) f)) (fun_ext (λ i. ap (around level env) (let q : suc k + i ≡ k + suc i = omega arith in q))))

levels-all : (put : (ℕ → Term) → Term) (level k : ℕ) (xs : List Value) → ArePutLevels put level k xs → (e : ℕ) → level ≤ e → k + length xs ≤ e + 1 → list_all (λ (y : Value). y.holds e) xs ≡ true
levels-all put level k [] w e a h = refl
levels-all put level k (x ∷ xs) w e a h = and_both (x.holds e) _ (w.0.holds e a (omega (arith, h))) (levels-all put level (suc k) xs w.1 e a (omega (arith, h)))

pub put-levels-more : (put : (ℕ → Term) → Term) (level k : ℕ) (xs : List Value) (x : Value) → ArePutLevels put level k xs → IsPutLevel put level (k + length xs) x → ArePutLevels put level k (xs ++ x ∷ [])
put-levels-more put level k [] x w m = (subst (λ i. IsPutLevel put level i x) (let q : k + 0 ≡ k = omega arith in q) m, tt)
put-levels-more put level k (y ∷ ys) x w m = (w.0, put-levels-more put level (suc k) ys x w.1 (subst (λ i. IsPutLevel put level i x) (let q : k + suc (length ys) ≡ suc k + length ys = omega arith in q) m))

pub put-var-applied : (put : (ℕ → Term) → Term) (level v depth : ℕ) (h x : Value) (xs : List Value) → IsVarOf v 0 h → ArePutLevels put level 0 xs → length xs ≡ depth → IsAppOf h xs x → IsPutVar put level v depth x
put-var-applied put level v depth h x xs m w long a = record {
  term = λ env p k. a.term env p
      ∙ ap₂ apply_all (m.term env p) (levels-put put level 0 xs w env p k
      ∙ ap₂ (λ (n : ℕ) (f : ℕ → Term). map (fill (put_name level (put env))) (levels n f)) long (fun_ext (λ i. ap (around level env) (let q : 0 + i ≡ i = omega arith in q))))
      ∙ sym (fill-spine (put_name level (put env)) (levels depth (around level env)) (At (term.Var v)) tt);
  holds = λ f q r. a.holds f (m.holds f (omega arith)) (levels-all put level 0 xs w f q (omega (arith, r, long)));
}

pub put-var : (g : Graph) (put : (ℕ → Term) → Term) (level t s : ℕ) (v : VarId) (x : Value) → IsSound g → node_at g.nodes t ≡ Some (Var v) → value_in g.assigned v.index ≡ None → IsValid g t s → level < s →
    IsPutVar put level v.index (slice_index g.depths v.index) x → Puts g put level t s x
put-var g put level t s v x sound e free valid deep m = record {
  term = λ env p k. m.term env p k
      ∙ sym (ap (fill (put_name level (put env))) (nodes_read g t (Var v) (around level env) sound (around-places level env p) e ∙ ap (λ o. variable_reads g v.index o (around level env)) free));
  holds = λ f q.
      let low : slice_index g.depths v.index < suc s = below_from (slice_index g.depths v.index) (suc s) (sym (nodes_valid g t (Var v) s sound e) ∙ valid) in
      m.holds f (omega (arith, deep, q)) (omega (arith, low, deep, q));
}
