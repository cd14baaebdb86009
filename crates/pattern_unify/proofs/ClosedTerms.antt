-- Readings that are abstracted over levels, and over their names.
use Rattle.std.proofs.Common.{◌≡◌, ℕ, zero, suc, ◌<◌, ◌+◌, cond, nat_eq, Bool, true, false, slice_index, refl, sym, ap, ◌∙◌, subst, arith, eqb-true, ne_eqb}
use mathlib.Core.Path.{fun_ext}
use Rattle.level_terms.specs.Graph.{Graph, Assigned}
use Rattle.level_terms.specs.Laws.{IsPlace, ArePlaces}
use Rattle.level_terms.specs.Sound.{IsSound}
use Rattle.level_terms.specs.Valid.{IsValid}
use Rattle.level_terms.specs.Reading.{read, enter, closed_term, values_of, assigned_term}
use Rattle.level_terms.proofs.LocalLemmas.{no_index-values, closed_term-local, readings_local}
use Rattle.level_terms.proofs.CoverLemmas.{inst_all-lam, inst_all-apply, places-enter, place-stays}
use Rattle.level_terms.proofs.NodeLemmas.{built-node_term}
use Rattle.level_terms.proofs.ReadingLemmas.{built-value, valued_built}
use Rattle.level_terms.proofs.SubLemmas.{at_level, closed_term-apply}
use Rattle.ref_terms.specs.terms.Term.{Term, At, Bound, Var}
use Rattle.ref_terms.specs.terms.Index.{next}
use Rattle.ref_terms.specs.terms.Eta.{lam}
use Rattle.ref_terms.specs.terms.Apply.{apply}
use Rattle.ref_terms.specs.terms.Built.{IsBuilt}
use Rattle.ref_terms.specs.terms.Occurs.{has_name}
use Rattle.ref_terms.specs.terms.Instance.{inst_all, valued}
use Rattle.ref_terms.specs.lemmas.FillLemmas.{built-fill, built-lam}
use Rattle.ref_terms.specs.lemmas.NameLemmas.{close-apply, nameless-lam}
use Rattle.ref_terms.specs.lemmas.ReadyFacts.{ready-name}
use Rattle.ref_terms.specs.unification.Closing.{close, close_all, up_from, names_below}
use Rattle.beta_fragment.specs.Names.{names}
use Rattle.beta_fragment.specs.Moves.{Lacks}
use Rattle.beta_fragment.proofs.EnterLemmas.{names-places}
use Rattle.beta_fragment.proofs.NamelessLemmas.{nameless-read, lacks-enter}
use Rattle.level_terms.proofs.ReadLemmas.{read-built}

-- the levels with no name at one of them
abbrev without : ℕ → ℕ → Term
without d i = cond (nat_eq d i) (At (Bound 0)) (names i)

without-lacks : (d : ℕ) → Lacks d (without d)
without-lacks d i = go (nat_eq d i) refl
  where
    go : (b : Bool) → nat_eq d i ≡ b → has_name d (cond b (At (Bound 0)) (names i)) ≡ false
    go true e = refl
    go false e = e

without-below : (d i : ℕ) → i < d → names i ≡ without d i
without-below d i h = sym (ap (λ b. cond b (At (Bound 0)) (names i)) (ne_eqb d i (omega (arith, h))))

-- a node that is valid at a level doesn't have the level's name
pub read-lacks : (g : Graph) (t d : ℕ) → IsValid g t d → has_name d (read g t names) ≡ false
read-lacks g t d w = ap (has_name d) (readings_local g t d names (without d) w (without-below d)) ∙ nameless-read d g t (without d) (without-lacks d)

-- the term of a node, abstracted over levels, with values of variables in it
abbrev valued_closed : Graph → (depth count t : ℕ) → (ℕ → Term) → Term
valued_closed g d k t env = inst_all (values_of g.nodes g.depths g.assigned) (closed_term g.nodes g.depths d k t env)

valued-built : (g : Graph) (u : Term) → IsBuilt (inst_all (values_of g.nodes g.depths g.assigned) u)
valued-built g u = built-fill (valued (values_of g.nodes g.depths g.assigned)) (valued_built (values_of g.nodes g.depths g.assigned) (built-value g.nodes g.depths g.assigned)) u

place-built : (t : Term) → IsPlace t → IsBuilt t
place-built t p = subst IsBuilt (place-stays (λ v. At (Var v)) t p) (built-fill (valued (λ v. At (Var v))) (valued_built (λ v. At (Var v)) (λ v. tt)) t)

built-closed : (g : Graph) (k d t : ℕ) (env : ℕ → Term) → ArePlaces env → IsBuilt (closed_term g.nodes g.depths d k t env)
built-closed g zero d t env p = built-node_term g.nodes g.depths t env (λ i. place-built (env i) (p i))
built-closed g (suc k) d t env p = built-lam (closed_term g.nodes g.depths (suc d) k t (enter d env)) (built-closed g k (suc d) t (enter d env) (places-enter d env p))

-- the values under one abstraction more
closed-lam : (g : Graph) → IsSound g → (d k t : ℕ) (env : ℕ → Term) → valued_closed g d (suc k) t env ≡ lam (valued_closed g (suc d) k t (enter d env))
closed-lam g s d k t env =
    inst_all-lam (values_of g.nodes g.depths g.assigned) (built-value g.nodes g.depths g.assigned) (closed_term g.nodes g.depths (suc d) k t (enter d env))
    ∙ ap (λ (w : ℕ → Term). lam (inst_all w (closed_term g.nodes g.depths (suc d) k t (enter d env)))) (fun_ext (λ v. no_index-values g.nodes g.depths g.assigned s.valid v next))

closed-nameless : (g : Graph) → IsSound g → (n k d t : ℕ) (env : ℕ → Term) → Lacks n env → has_name n (valued_closed g d k t env) ≡ false
unfolding read
closed-nameless g s n zero d t env l = nameless-read n g t env l
closed-nameless g s n (suc k) d t env l =
    ap (has_name n) (closed-lam g s d k t env)
    ∙ nameless-lam n (valued_closed g (suc d) k t (enter d env)) (closed-nameless g s n k (suc d) t (enter d env) (lacks-enter n d env l))

own-level : (d i : ℕ) → at_level d (names d) names i ≡ names i
own-level d i = go (nat_eq d i) refl
  where
    go : (b : Bool) → nat_eq d i ≡ b → cond b (names d) (names i) ≡ names i
    go true e = ap names (eqb-true d i e)
    go false e = refl

-- the abstraction applied to the name of its level
closed-entered : (g : Graph) (d k t : ℕ) → apply (valued_closed g d (suc k) t names) (names d) ≡ valued_closed g (suc d) k t names
closed-entered g d k t =
    sym (inst_all-apply (values_of g.nodes g.depths g.assigned) (built-value g.nodes g.depths g.assigned) (closed_term g.nodes g.depths d (suc k) t names) (names d))
    ∙ ap (inst_all (values_of g.nodes g.depths g.assigned)) (closed_term-apply g.nodes g.depths d k t names (names d) (ready-name d) (built-closed g k (suc d) t (enter d names) (places-enter d names names-places))
    ∙ ap (closed_term g.nodes g.depths (suc d) k t) (fun_ext (own-level d)))

-- abstracting over the names is abstracting over the levels
closed-names : (g : Graph) → IsSound g → (t k d : ℕ) → IsValid g t (d + k) → close_all (up_from d k) (read g t names) ≡ valued_closed g d k t names
unfolding read
closed-names g s t zero d w = refl
closed-names g s t (suc k) d w =
    let same : valued_closed g d (suc k) t names ≡ valued_closed g d (suc k) t (without d) =
    ap (inst_all (values_of g.nodes g.depths g.assigned)) (closed_term-local g.nodes g.depths d (suc k) t w names (without d) (without-below d)) in
    ap (close d) (closed-names g s t k (suc d) (subst (IsValid g t) (let q : d + suc k ≡ suc d + k = omega arith in q) w) ∙ sym (closed-entered g d k t))
    ∙ close-apply d (valued_closed g d (suc k) t names) (valued-built g (closed_term g.nodes g.depths d (suc k) t names))
    (ap (has_name d) same ∙ closed-nameless g s d (suc k) d t (without d) (without-lacks d))

-- what an assignment gives: its value's reading, abstracted over the names of the variable's levels
pub assigned-closed : (g : Graph) (a : Assigned) → IsSound g → IsValid g a.value (slice_index g.depths a.variable) → assigned_term g a ≡ close_all (names_below (slice_index g.depths a.variable)) (read g a.value names)
assigned-closed g a s w =
    let w' : IsValid g a.value (0 + slice_index g.depths a.variable) = subst (IsValid g a.value) (let q : slice_index g.depths a.variable ≡ 0 + slice_index g.depths a.variable = omega arith in q) w in
    ap (inst_all (values_of g.nodes g.depths g.assigned)) (closed_term-local g.nodes g.depths 0 (slice_index g.depths a.variable) a.value w' (λ i. At (Bound i)) names (λ i h. absurd (omega (arith, h))))
    ∙ sym (closed-names g s a.value (slice_index g.depths a.variable) 0 w')

-- one name more, the last
up-last : (k d n : ℕ) → n ≡ d + k → (u : Term) → close_all (up_from d (suc k)) u ≡ close_all (up_from d k) (close n u)
up-last zero d n e u = ap (λ m. close m u) (let q : d ≡ n = omega (arith, e) in q)
up-last (suc k) d n e u = ap (close d) (up-last k (suc d) n (omega (arith, e)) u)

-- a node and its application to the name of the next level, abstracted over the names below each
pub closed-applied : (g h : Graph) (t r d : ℕ) → IsValid g t d → read h r names ≡ apply (read g t names) (names d) → close_all (names_below (suc d)) (read h r names) ≡ close_all (names_below d) (read g t names)
closed-applied g h t r d w e =
    up-last d 0 d (omega arith) (read h r names)
    ∙ ap (close_all (names_below d)) (ap (close d) e ∙ close-apply d (read g t names) (read-built g t names) (read-lacks g t d w))
