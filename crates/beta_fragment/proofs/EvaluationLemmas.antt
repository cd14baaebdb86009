-- Steps of the walk that evaluates a node.
use Rattle.std.proofs.Common.{◌≡◌, ℕ, zero, suc, ◌<◌, ◌≤◌, ◌+◌, ◌-◌, ◌*◌, ◌++◌, List, [], ◌∷◌, length, map, reverse, cond, nat_eq, Bool, true, false, Option, Some, slice_index, get_or, refl, sym, ap, ap₂, ◌∙◌, arith, subst, eqb-true}
use Rattle.std.proofs.lemmas.Bool.{eqb-false}
use Rattle.std.proofs.lemmas.List.{reverse-append, length-map, length-reverse}
use Rattle.std.proofs.lemmas.List.{get_or-set_same, get_or-set_other}
use Rattle.std.proofs.Math.ListN.{set, length-set}
use mathlib.Core.Path.{fun_ext}
use Rattle.level_terms.specs.declared.node.Node.TheVariants.{Lam as lam_node, App as app_node, Var as var_node}
use Rattle.level_terms.specs.declared.node.TermId.{TermId}
use Rattle.level_terms.specs.declared.node.VarId.{VarId}
use Rattle.level_terms.specs.Graph.{Graph, node_at, value_in}
use Rattle.level_terms.specs.Laws.{IsPlace, ArePlaces}
use Rattle.level_terms.specs.Sound.{IsSound}
use Rattle.level_terms.specs.Valid.{IsValid}
use Rattle.level_terms.specs.Reading.{read, enter}
use Rattle.level_terms.specs.Reached.{Tree, Leaf, plant, grown, layer_tree, node_tree, trees_of, tree, tree_size}
use Rattle.level_terms.proofs.FoldLemmas.{over-at, names_older}
use Rattle.level_terms.proofs.LocalLemmas.{readings_local}
use Rattle.level_terms.proofs.NodeLemmas.{nodes_read, value-valid}
use Rattle.level_terms.proofs.TreeLemmas.{value_below}
use Rattle.ref_terms.specs.terms.Term as term
use Rattle.ref_terms.specs.terms.Term.{Term, At}
use Rattle.ref_terms.specs.terms.Index.{shift}
use Rattle.ref_terms.specs.terms.Apply.{apply}
use Rattle.ref_terms.specs.terms.Eta.{lam}
use Rattle.ref_terms.specs.unification.Spine.{apply_all}
use Rattle.beta_fragment.specs.inside.Cells.{term_at, Gains, IsKept}
use Rattle.beta_fragment.specs.HeadForm.{AllValidAt, rigid_head}
use Rattle.beta_fragment.specs.declared.answer.RigidHead.{RigidHead}
use Rattle.beta_fragment.specs.declared.answer.RigidHead.TheVariants as rigid
use Rattle.beta_fragment.proofs.OpenHeadLemmas.{heads-apply, heads-lam}
use Rattle.beta_fragment.specs.Names.{renamed}
use Rattle.beta_fragment.specs.Quoted.{AllHeads, IsOpenHead}
use Rattle.beta_fragment.specs.declared.evaluating.Entry.{Entry}
use Rattle.beta_fragment.specs.declared.evaluating.Entry.TheVariants.{Named, Placed}
use Rattle.beta_fragment.specs.declared.evaluating.Task.{Task}
use Rattle.beta_fragment.specs.declared.evaluating.Task.TheVariants.{Visit, Lam, App}
use Rattle.beta_fragment.specs.inside.Evaluation.{entry_term, entry_at, entries_env, IsPlaced, AllPlaced, entries_before, IsEntered, CanVisit, Comes, work_size, IsComing, Steps, done_terms, AreDone, IsReady, arg_tasks}
use Rattle.beta_fragment.proofs.CellLemmas.{gains-longer, gains-at}
use Rattle.beta_fragment.proofs.EnterLemmas.{body-valid}
use Rattle.beta_fragment.proofs.FirmLemmas.{reads-value}
use Rattle.beta_fragment.proofs.MoveLemmas.{app-valid}
use Rattle.beta_fragment.proofs.StayLemmas.{var-low}
use Rattle.beta_fragment.proofs.WorkLemmas.{size-some, lam-size}

-- lists
pub newest-task : (work : List Task) (k : Task) → reverse (work ++ k ∷ []) ≡ k ∷ reverse work
newest-task work k = reverse-append work (k ∷ [])

pub newest-done : (ds : List ℕ) (r : ℕ) → reverse (ds ++ r ∷ []) ≡ r ∷ reverse ds
newest-done ds r = reverse-append ds (r ∷ [])

pub work-append : (g : Graph) (xs ys : List Task) → work_size g (xs ++ ys) ≡ work_size g xs + work_size g ys
work-append g [] ys = omega arith
work-append g (x ∷ xs) ys = let h = work-append g xs ys in omega (arith, h)

-- what is done stays as terms are added
pub done-later : (g : Graph) (old new : List Term) (is : List ℕ) → Gains old new → AreDone g old is → AreDone g new is
done-later g old new [] gains d = tt
done-later g old new (i ∷ is) gains d = (gains-longer old new gains i d.0, subst (AllHeads (IsOpenHead g)) (sym (gains-at old new gains i d.0)) d.1, done-later g old new is gains d.2)

pub terms-later : (g : Graph) (old new : List Term) (is : List ℕ) → Gains old new → AreDone g old is → map (term_at new) is ≡ map (term_at old) is
terms-later g old new [] gains d = refl
terms-later g old new (i ∷ is) gains d = ap₂ (λ (x : Term) (xs : List Term). x ∷ xs) (gains-at old new gains i d.0) (terms-later g old new is gains d.2)

-- one more is done
pub done-more : (g : Graph) (old new : List Term) (ds ds' : List ℕ) (r : ℕ) → ds' ≡ ds ++ r ∷ [] → Gains old new → r < length new → AllHeads (IsOpenHead g) (term_at new r) → AreDone g old (reverse ds) → AreDone g new (reverse ds')
done-more g old new ds ds' r e gains there ok d = subst (AreDone g new) (sym (ap reverse e ∙ newest-done ds r)) (there, ok, done-later g old new (reverse ds) gains d)

pub terms-more : (g : Graph) (old new : List Term) (ds ds' : List ℕ) (r : ℕ) → ds' ≡ ds ++ r ∷ [] → Gains old new → AreDone g old (reverse ds) → done_terms new ds' ≡ term_at new r ∷ done_terms old ds
terms-more g old new ds ds' r e gains d =
    ap (map (term_at new)) (ap reverse e ∙ newest-done ds r)
    ∙ ap (λ (xs : List Term). term_at new r ∷ xs) (terms-later g old new (reverse ds) gains d)

pub terms-last : (ts : List Term) (ds front : List ℕ) (r : ℕ) → ds ≡ front ++ r ∷ [] → done_terms ts ds ≡ term_at ts r ∷ done_terms ts front
terms-last ts ds front r e = ap (map (term_at ts)) (ap reverse e ∙ newest-done front r)

pub done-last : (g : Graph) (ts : List Term) (ds front : List ℕ) (r : ℕ) → ds ≡ front ++ r ∷ [] → AreDone g ts (reverse ds) → AreDone g ts (r ∷ reverse front)
done-last g ts ds front r e d = subst (AreDone g ts) (ap reverse e ∙ newest-done front r) d

module _ (g : Graph) where
  -- a visit that is done at once
  pub steps-done : (work : List Task) (node : TermId) (es : List Entry) (u : ℕ) (old new : List Term) (ds ds' : List ℕ) (r : ℕ) → ds' ≡ ds ++ r ∷ [] → Gains old new → AreDone g old (reverse ds) →
      (CanVisit g node.index es u → term_at new r ≡ read g node.index (entries_env es u)) →
      Steps g (record { work = work ++ Visit node ∷ []; entries = es; under = u; terms = done_terms old ds }) (record { work = work; entries = es; under = u; terms = done_terms new ds' })
  steps-done work node es u old new ds ds' r e gains d m = record {
    comes = λ t c.
        let h = subst (λ ks. Comes g ks es u (done_terms old ds) t) (newest-task work (Visit node)) c in
        subst (λ xs. Comes g (reverse work) es u xs t) (sym (terms-more g old new ds ds' r e gains d ∙ ap (λ (x : Term). x ∷ done_terms old ds) (m h.0))) h.1;
    falls =
        let size = ap (work_size g) (newest-task work (Visit node)) in
        let some = size-some (tree g node.index) in
        omega (arith, size, some);
  }

  -- a visit that leads to other tasks
  pub steps-more : (work more ks : List Task) (node : TermId) (es es' : List Entry) (u u' : ℕ) (xs : List Term) → reverse more ≡ ks → work_size g ks < 2 * tree_size (tree g node.index) →
      ((k : List Task) (t : Term) → Comes g (Visit node ∷ k) es u xs t → Comes g (ks ++ k) es' u' xs t) →
      Steps g (record { work = work ++ Visit node ∷ []; entries = es; under = u; terms = xs }) (record { work = work ++ more; entries = es'; under = u'; terms = xs })
  steps-more work more ks node es es' u u' xs same small m = record {
    comes = λ t c.
        let h = subst (λ js. Comes g js es u xs t) (newest-task work (Visit node)) c in
        subst (λ js. Comes g js es' u' xs t) (sym (reverse-append work more ∙ ap (λ js. js ++ reverse work) same)) (m (reverse work) t h);
    falls =
        let size = ap (work_size g) (newest-task work (Visit node)) in
        let after = ap (work_size g) (reverse-append work more ∙ ap (λ js. js ++ reverse work) same) ∙ work-append g ks (reverse work) in
        omega (arith, size, after, small);
  }

  -- an abstraction is made
  pub steps-lam : (work : List Task) (made : ℕ) (before : Option Entry) (es es' : List Entry) (u u' : ℕ) (old new : List Term) (ds ds' front : List ℕ) (body r : ℕ) →
      ds ≡ front ++ body ∷ [] → ds' ≡ front ++ r ∷ [] → Gains old new → AreDone g old (reverse ds) → term_at new r ≡ lam (term_at old body) → es' ≡ entries_before es made before → u' ≡ u - 1 →
      Steps g (record { work = work ++ Lam made before ∷ []; entries = es; under = u; terms = done_terms old ds }) (record { work = work; entries = es'; under = u'; terms = done_terms new ds' })
  steps-lam work made before es es' u u' old new ds ds' front body r e f gains d m q w = record {
    comes = λ t c.
        let now = subst (λ ks. Comes g ks es u (done_terms old ds) t) (newest-task work (Lam made before)) c in
        let h = subst (λ xs. Comes g (Lam made before ∷ reverse work) es u xs t) (terms-last old ds front body e) now in
        let after = terms-more g old new front ds' r f gains (done-last g old ds front body e d).2 ∙ ap (λ (x : Term). x ∷ done_terms old front) m in
        subst (λ xs. Comes g (reverse work) es' u' xs t) (sym after)
        (subst (λ (fs : List Entry). Comes g (reverse work) fs u' (lam (term_at old body) ∷ done_terms old front) t) (sym q)
        (subst (λ v. Comes g (reverse work) (entries_before es made before) v (lam (term_at old body) ∷ done_terms old front) t) (sym w) h.2));
    falls = let size = ap (work_size g) (newest-task work (Lam made before)) in omega (arith, size);
  }

  -- an application is made
  pub steps-app : (work : List Task) (es : List Entry) (u : ℕ) (old new : List Term) (ds mid front ds' : List ℕ) (f a r : ℕ) →
      ds ≡ mid ++ a ∷ [] → mid ≡ front ++ f ∷ [] → ds' ≡ front ++ r ∷ [] → Gains old new → AreDone g old (reverse ds) → term_at new r ≡ apply (term_at old f) (term_at old a) →
      Steps g (record { work = work ++ App ∷ []; entries = es; under = u; terms = done_terms old ds }) (record { work = work; entries = es; under = u; terms = done_terms new ds' })
  steps-app work es u old new ds mid front ds' f a r e e' q gains d m = record {
    comes = λ t c.
        let now = subst (λ ks. Comes g ks es u (done_terms old ds) t) (newest-task work App) c in
        let shape = terms-last old ds mid a e ∙ ap (λ (xs : List Term). term_at old a ∷ xs) (terms-last old mid front f e') in
        let h = subst (λ xs. Comes g (App ∷ reverse work) es u xs t) shape now in
        let inner = done-last g old mid front f e' (done-last g old ds mid a e d).2 in
        let after = terms-more g old new front ds' r q gains inner.2 ∙ ap (λ (x : Term). x ∷ done_terms old front) m in
        subst (λ xs. Comes g (reverse work) es u xs t) (sym after) h;
    falls = let size = ap (work_size g) (newest-task work App) in omega (arith, size);
  }

  -- what was made is done
  pub lam-done : (old new : List Term) (ds ds' front : List ℕ) (body r : ℕ) → ds ≡ front ++ body ∷ [] → ds' ≡ front ++ r ∷ [] → Gains old new → AreDone g old (reverse ds) → IsKept new r (lam (term_at old body)) → AreDone g new (reverse ds')
  lam-done old new ds ds' front body r e f gains d k =
      let inner = done-last g old ds front body e d in
      done-more g old new front ds' r f gains k.there (subst (AllHeads (IsOpenHead g)) (sym k.term) (heads-lam (IsOpenHead g) (term_at old body) inner.1)) inner.2

  pub app-done : (old new : List Term) (ds mid front ds' : List ℕ) (f a r : ℕ) → ds ≡ mid ++ a ∷ [] → mid ≡ front ++ f ∷ [] → ds' ≡ front ++ r ∷ [] → Gains old new → AreDone g old (reverse ds) → IsKept new r (apply (term_at old f) (term_at old a)) → AreDone g new (reverse ds')
  app-done old new ds mid front ds' f a r e e' q gains d k =
      let outer = done-last g old ds mid a e d in
      let inner = done-last g old mid front f e' outer.2 in
      done-more g old new front ds' r q gains k.there (subst (AllHeads (IsOpenHead g)) (sym k.term) (heads-apply (IsOpenHead g) (term_at old f) (term_at old a) inner.1 outer.1)) inner.2

  pub kept-done : (old new : List Term) (ds ds' : List ℕ) (r : ℕ) (x : Term) → ds' ≡ ds ++ r ∷ [] → Gains old new → AreDone g old (reverse ds) → IsKept new r x → AllHeads (IsOpenHead g) x → AreDone g new (reverse ds')
  kept-done old new ds ds' r x e gains d k w = done-more g old new ds ds' r e gains k.there (subst (AllHeads (IsOpenHead g)) (sym k.term) w) d

  pub rigid-open : (h : RigidHead) → AllHeads (IsOpenHead g) (At (rigid_head h))
  rigid-open (rigid.Con c) = tt
  rigid-open (rigid.Int n) = tt
  rigid-open (rigid.Str s) = tt
  rigid-open (rigid.Level l) = tt

  -- the next task can be done
  ready-terms : (task : Task) (k : List Task) (es : List Entry) (u : ℕ) (xs : List Term) (t : Term) → Comes g (task ∷ k) es u xs t → IsReady g es u (length xs) task
  ready-terms (Visit n) k es u xs t h = h.0
  ready-terms (Lam made before) k es u [] t h = absurd h
  ready-terms (Lam made before) k es u (x ∷ xs) t h = (h.0, h.1, omega arith)
  ready-terms App k es u [] t h = absurd h
  ready-terms App k es u (a ∷ []) t h = absurd h
  ready-terms App k es u (a ∷ f ∷ xs) t h = omega arith

  pub comes-ready : (task : Task) (work : List Task) (es : List Entry) (u : ℕ) (ts : List Term) (ds : List ℕ) (t : Term) → IsComing g (record { work = work ++ task ∷ []; entries = es; under = u; terms = done_terms ts ds }) t → IsReady g es u (length ds) task
  comes-ready task work es u ts ds t c =
      let h = subst (λ ks. Comes g ks es u (done_terms ts ds) t) (newest-task work task) c in
      subst (λ n. IsReady g es u n task) (length-map (reverse ds) (term_at ts) ∙ length-reverse ds) (ready-terms task (reverse work) es u (done_terms ts ds) t h)

  -- nothing is left to do
  comes-one : (es : List Entry) (u : ℕ) (x : Term) (xs : List Term) (t : Term) → Comes g [] es u (x ∷ xs) t → x ≡ t
  comes-one es u x [] t h = h
  comes-one es u x (y ∷ more) t h = absurd h

  pub comes-last : (es : List Entry) (u : ℕ) (ts : List Term) (ds front : List ℕ) (r : ℕ) (t : Term) → ds ≡ front ++ r ∷ [] → Comes g [] es u (done_terms ts ds) t → term_at ts r ≡ t
  comes-last es u ts ds front r t e h = comes-one es u (term_at ts r) (done_terms ts front) t (subst (λ xs. Comes g [] es u xs t) (terms-last ts ds front r e) h)

  pub comes-some : (es : List Entry) (u : ℕ) (ts : List Term) (ds : List ℕ) (t : Term) → ds ≡ [] → Comes g [] es u (done_terms ts ds) t → ⊥
  comes-some es u ts ds t e h = subst (λ is. Comes g [] es u (done_terms ts is) t) e h

-- an entry that was replaced comes back
set-back : (es : List Entry) (i : ℕ) (x e : Entry) → i < length es → e ≡ get_or es i e → set (set es i x) i e ≡ es
set-back [] i x e h q = absurd (omega arith)
set-back (y ∷ ys) zero x e h q = ap (λ (z : Entry). z ∷ ys) q
set-back (y ∷ ys) (suc i) x e h q = ap (λ (zs : List Entry). y ∷ zs) (set-back ys i x e (omega (arith, h)) q)

pub entered-set : (es : List Entry) (made u : ℕ) (e : Entry) → made < length es → e ≡ get_or es made e → IsEntered es (set es made (Placed u)) made u (Some e)
entered-set es made u e h q =
    let long = length-set es made (Placed u) in
    record {
      within = omega (arith, h, long);
      longer = omega (arith, long);
      back = set-back es made (Placed u) e h q;
      own = get_or-set_same es made (Placed u) (Named 0) h;
      others = λ i n. get_or-set_other es made i (Placed u) (Named 0) (λ z. n (sym z));
    }

-- entries stand for names and indices
entry-place : (u : ℕ) (e : Entry) → IsPlace (entry_term u e)
entry-place u (Named n) = tt
entry-place u (Placed p) = tt

pub entries-places : (es : List Entry) (u : ℕ) → ArePlaces (entries_env es u)
entries-places es u i = entry-place u (entry_at es i)

-- under one more abstraction
entry-shift : (u : ℕ) (e : Entry) → IsPlaced u e → entry_term (u + 1) e ≡ shift (entry_term u e)
entry-shift u (Named n) h = refl
entry-shift u (Placed p) h = ap (λ i. At (term.Bound i)) (let q : u + 1 - 1 - p ≡ suc (u - 1 - p) = omega (arith, h) in q)

entry-deeper : (u : ℕ) (e : Entry) → IsPlaced u e → IsPlaced (u + 1) e
entry-deeper u (Named n) h = tt
entry-deeper u (Placed p) h = omega (arith, h)

module _ (es es' : List Entry) (made u : ℕ) (before : Option Entry) (w : IsEntered es es' made u before) (placed : AllPlaced es u) where
  pub entered-env : (i : ℕ) → entries_env es' (u + 1) i ≡ enter made (entries_env es u) i
  entered-env i = go (nat_eq made i) refl
    where
      go : (b : Bool) → nat_eq made i ≡ b → entry_term (u + 1) (entry_at es' i) ≡ cond b (At (term.Bound 0)) (shift (entry_term u (entry_at es i)))
      go true q =
          let here : made ≡ i = eqb-true _ _ q in
          ap (entry_term (u + 1)) (ap (entry_at es') (sym here) ∙ w.own) ∙ ap (λ k. At (term.Bound k)) (let z : u + 1 - 1 - u ≡ 0 = omega arith in z)
      go false q = ap (entry_term (u + 1)) (w.others i (eqb-false _ _ q)) ∙ entry-shift u (entry_at es i) (placed i)

  pub entered-placed : AllPlaced es' (u + 1)
  entered-placed i = go (nat_eq made i) refl
    where
      go : (b : Bool) → nat_eq made i ≡ b → IsPlaced (u + 1) (entry_at es' i)
      go true q =
          let here : made ≡ i = eqb-true _ _ q in
          subst (IsPlaced (u + 1)) (sym (ap (entry_at es') (sym here) ∙ w.own)) (let z : u < u + 1 = omega arith in z)
      go false q = subst (IsPlaced (u + 1)) (sym (w.others i (eqb-false _ _ q))) (entry-deeper u (entry_at es i) (placed i))

-- at first each level stands for its name
named-placed : (ns : List ℕ) (i : ℕ) → IsPlaced 0 (entry_at (map Named ns) i)
named-placed [] i = tt
named-placed (n ∷ ns) zero = tt
named-placed (n ∷ ns) (suc i) = named-placed ns i

named-env : (ns : List ℕ) (i : ℕ) → entries_env (map Named ns) 0 i ≡ renamed ns i
named-env [] i = refl
named-env (n ∷ ns) zero = refl
named-env (n ∷ ns) (suc i) = named-env ns i

pub first-comes : (g : Graph) (node : TermId) (ns : List ℕ) (ts : List Term) (work : List Task) (es : List Entry) (ds : List ℕ) → work ≡ Visit node ∷ [] → es ≡ map Named ns → ds ≡ [] → IsValid g node.index (length ns) →
    IsComing g (record { work = work; entries = es; under = 0; terms = done_terms ts ds }) (read g node.index (renamed ns))
first-comes g node ns ts work es ds e f h v =
    let start : Comes g (Visit node ∷ []) (map Named ns) 0 [] (read g node.index (renamed ns)) =
    (record { depth = length ns; valid = v; within = (let q = length-map ns Named in omega (arith, q)); placed = named-placed ns }, ap (read g node.index) (fun_ext (named-env ns))) in
    subst (λ ws. IsComing g (record { work = ws; entries = es; under = 0; terms = done_terms ts ds }) (read g node.index (renamed ns))) (sym e)
    (subst (λ (fs : List Entry). Comes g (Visit node ∷ []) fs 0 (done_terms ts ds) (read g node.index (renamed ns))) (sym f)
    (subst (λ is. Comes g (Visit node ∷ []) (map Named ns) 0 (done_terms ts is) (read g node.index (renamed ns))) (sym h) start))

module _ (g : Graph) (sound : IsSound g) where
  -- a visit of an abstraction
  pub lam-comes : (node body : TermId) (made : ℕ) (es es' : List Entry) (u : ℕ) (before : Option Entry) (k : List Task) (xs : List Term) (t : Term) → node_at g.nodes node.index ≡ Some (lam_node made body) → IsEntered es es' made u before →
      Comes g (Visit node ∷ k) es u xs t → Comes g (Visit body ∷ Lam made before ∷ k) es' (u + 1) xs t
  lam-comes node body made es es' u before k xs t e w h =
      let can = h.0 in
      let inside = body-valid g sound node.index made body can.depth e can.valid in
      let reads : read g node.index (entries_env es u) ≡ lam (read g body.index (entries_env es' (u + 1))) =
      nodes_read g node.index (lam_node made body) (entries_env es u) sound (entries-places es u) e
      ∙ ap lam (readings_local g body.index (suc made) (enter made (entries_env es u)) (entries_env es' (u + 1)) inside (λ i l. sym (entered-env es es' made u before w can.placed i))) in (
        record {
          depth = suc made;
          valid = inside;
          within = (let l = w.within in omega (arith, l));
          placed = entered-placed es es' made u before w can.placed;
        },
        (
          w.within,
          omega arith,
          subst (λ (fs : List Entry). Comes g k fs (u + 1 - 1) (lam (read g body.index (entries_env es' (u + 1))) ∷ xs) t) (sym w.back)
              (subst (λ v. Comes g k es v (lam (read g body.index (entries_env es' (u + 1))) ∷ xs) t) (let q : u ≡ u + 1 - 1 = omega arith in q)
              (subst (λ (x : Term). Comes g k es u (x ∷ xs) t) reads h.1)),
        ),
      )

  pub lam-falls : (node body : TermId) (made : ℕ) (before : Option Entry) → node_at g.nodes node.index ≡ Some (lam_node made body) → work_size g (Visit body ∷ Lam made before ∷ []) < 2 * tree_size (tree g node.index)
  lam-falls node body made before e = let less = lam-size g node.index made body sound e in omega (arith, less)

  -- a visit of a variable that has a value
  pub value-comes : (node value : TermId) (v : VarId) (es : List Entry) (u : ℕ) (k : List Task) (xs : List Term) (t : Term) → node_at g.nodes node.index ≡ Some (var_node v) → value_in g.assigned v.index ≡ Some value.index →
      Comes g (Visit node ∷ k) es u xs t → Comes g (Visit value ∷ k) es u xs t
  value-comes node value v es u k xs t e f h =
      let can = h.0 in
      let low = var-low g node.index v can.depth sound e can.valid in
      let within = can.within in (
        record {
          depth = slice_index g.depths v.index;
          valid = value-valid g.nodes g.depths g.assigned sound.valid v.index value.index f;
          within = omega (arith, low, within);
          placed = can.placed;
        },
        subst (λ (x : Term). Comes g k es u (x ∷ xs) t) (reads-value g node.index value.index v sound e f (entries_env es u) (entries-places es u)) h.1,
      )

  pub value-falls : (node value : TermId) (v : VarId) → node_at g.nodes node.index ≡ Some (var_node v) → value_in g.assigned v.index ≡ Some value.index → work_size g (Visit value ∷ []) < 2 * tree_size (tree g node.index)
  value-falls node value v e f = let less = value_below g sound node.index v.index value.index v refl e f in omega (arith, less)

  -- a visit of an application
  args-come : (es : List Entry) (u d : ℕ) (k : List Task) (xs : List Term) (t : Term) → d ≤ length es → AllPlaced es u → (ts : List TermId) (f : Term) → AllValidAt g ts d → Comes g k es u (apply_all f (map (λ a. read g a.index (entries_env es u)) ts) ∷ xs) t →
      Comes g (arg_tasks ts ++ k) es u (f ∷ xs) t
  args-come es u d k xs t within placed [] f v h = h
  args-come es u d k xs t within placed (a ∷ ts) f v h = (record { depth = d; valid = v.0; within = within; placed = placed }, args-come es u d k xs t within placed ts (apply f (read g a.index (entries_env es u))) v.1 h)

  pub app-comes : (node head : TermId) (args : List TermId) (es : List Entry) (u : ℕ) (k : List Task) (xs : List Term) (t : Term) → node_at g.nodes node.index ≡ Some (app_node head args) →
      Comes g (Visit node ∷ k) es u xs t → Comes g ((Visit head ∷ arg_tasks args) ++ k) es u xs t
  app-comes node head args es u k xs t e h =
      let can = h.0 in
      let parts = app-valid g node.index can.depth head args sound e can.valid in (
        record { depth = can.depth; valid = parts.0; within = can.within; placed = can.placed },
        args-come es u can.depth k xs t can.within can.placed args (read g head.index (entries_env es u)) parts.1
            (subst (λ (x : Term). Comes g k es u (x ∷ xs) t) (nodes_read g node.index (app_node head args) (entries_env es u) sound (entries-places es u) e) h.1),
      )

-- sizes
arg_sizes : (u : ℕ → Tree) (f : ℕ → Tree) → List TermId → ℕ
arg_sizes u f [] = 0
arg_sizes u f (t ∷ ts) = 2 * tree_size (plant u (f t.index)) + 1 + arg_sizes u f ts

grown-size : (u : ℕ → Tree) (f : ℕ → Tree) (a : Tree) (ts : List TermId) → 2 * tree_size (plant u a) + arg_sizes u f ts < 2 * tree_size (plant u (grown a (map (λ t. f t.index) ts)))
unfolding arg_sizes
grown-size u f a [] = omega arith
grown-size u f a (t ∷ ts) = let rest = grown-size u f a ts in omega (arith, rest)

args-size : (g : Graph) (ts : List TermId) → work_size g (arg_tasks ts) ≡ arg_sizes (trees_of g.nodes g.assigned) (node_tree g.nodes) ts
unfolding tree arg_sizes
args-size g [] = refl
args-size g (t ∷ ts) = let h = args-size g ts in omega (arith, h)

pub app-falls : (g : Graph) → IsSound g → (node head : TermId) (args : List TermId) → node_at g.nodes node.index ≡ Some (app_node head args) → work_size g (Visit head ∷ arg_tasks args) < 2 * tree_size (tree g node.index)
unfolding tree
app-falls g s node head args e =
    let here : node_tree g.nodes node.index ≡ grown (node_tree g.nodes head.index) (map (λ t. node_tree g.nodes t.index) args) = over-at layer_tree Leaf g.nodes node.index (app_node head args) (names_older (length g.depths) g.nodes s.made) e in
    let each = args-size g args in
    let less = grown-size (trees_of g.nodes g.assigned) (node_tree g.nodes) (node_tree g.nodes head.index) args in
    rw here (omega (arith, each, less))
