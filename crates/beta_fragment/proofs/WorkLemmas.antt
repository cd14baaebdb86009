-- Steps of the walk.
use Rattle.std.proofs.Common.{◌≡◌, ℕ, suc, ◌<◌, ◌≤◌, ◌+◌, ◌-◌, ◌*◌, ◌++◌, List, [], ◌∷◌, length, map, reverse, refl, sym, ap, ap₂, ◌∙◌, arith, subst, length-append, append_assoc, append-nil, min, Some}
use Rattle.std.proofs.lemmas.List.{reverse-append, length-map, map-append}
use Rattle.level_terms.specs.declared.node.Node.TheVariants.{Lam as lam_node, App as app_node}
use Rattle.level_terms.specs.declared.node.TermId.{TermId}
use Rattle.level_terms.specs.Graph.{Graph, node_at}
use Rattle.level_terms.specs.Sound.{IsSound, AllOlder}
use Rattle.level_terms.specs.Valid.{IsValid}
use Rattle.level_terms.specs.Growth.{Grows}
use Rattle.level_terms.specs.Reached.{Tree, Leaf, Hole, One, Two, plant, grown, layer_tree, node_tree, trees_of, tree, tree_size}
use Rattle.level_terms.proofs.FoldLemmas.{over-at, names_older}
use Rattle.beta_fragment.specs.declared.renaming.Task.{Task}
use Rattle.beta_fragment.specs.declared.renaming.Task.TheVariants.{Visit, Lam, App}
use Rattle.beta_fragment.specs.HeadForm.{AllValidAt}
use Rattle.level_terms.specs.Values.{Value, value_of, IsLamOf, IsAppOf}
use Rattle.beta_fragment.specs.Moves.{Plan, naming, Does, IsLow, HasFew}
use Rattle.beta_fragment.specs.inside.Work.{Leads, work_size, Steps, visits, IsReady}
use Rattle.beta_fragment.specs.Names.{AllBelow}
use Rattle.level_terms.proofs.ReadLemmas.{valid-below}
use Rattle.beta_fragment.proofs.EnterLemmas.{body-valid}
use Rattle.level_terms.proofs.MakeLemmas.{values-kept, grown-length}
use Rattle.beta_fragment.proofs.MoveLemmas.{AllMove, lam-moves, app-moves, app-valid}

-- lists that are joined at an item are the same where their ends are equally long
pub split-unique : {A : Type 0} (f f' : List A) (a a' : A) (xs xs' : List A) → length xs ≡ length xs' → f ++ a ∷ xs ≡ f' ++ a' ∷ xs' → (f ≡ f') × (a ≡ a') × (xs ≡ xs')
split-unique [] [] a a' xs xs' l e = (refl, let q : a ≡ a' = cc in q, let q : xs ≡ xs' = cc in q)
split-unique [] (x ∷ f') a a' xs xs' l e =
    let tails : xs ≡ f' ++ a' ∷ xs' = cc in
    let long = ap length tails ∙ length-append f' (a' ∷ xs') in
    absurd (omega (arith, l, long))
split-unique (x ∷ f) [] a a' xs xs' l e =
    let tails : f ++ a ∷ xs ≡ xs' = cc in
    let long = sym (length-append f (a ∷ xs)) ∙ ap length tails in
    absurd (omega (arith, l, long))
split-unique {A} (x ∷ f) (y ∷ f') a a' xs xs' l e =
    let heads : x ≡ y = cc in
    let tails : f ++ a ∷ xs ≡ f' ++ a' ∷ xs' = cc in
    let rest = split-unique f f' a a' xs xs' l tails in
    (ap₂ (λ (z : A) (zs : List A). z ∷ zs) heads rest.0, rest.1, rest.2)

-- the newest task
pub newest-task : (work : List Task) (k : Task) → reverse (work ++ k ∷ []) ≡ k ∷ reverse work
newest-task work k = reverse-append work (k ∷ [])

-- sizes
pub size-some : (t : Tree) → 1 ≤ tree_size t
size-some Leaf = omega arith
size-some (Hole v) = omega arith
size-some (One a) = omega arith
size-some (Two a b) = omega arith

abbrev pub total : Graph → List TermId → ℕ
total g [] = 0
total g (t ∷ ts) = tree_size (tree g t.index) + total g ts

abbrev pub sum_sizes : (ℕ → Tree) → (ℕ → Tree) → List TermId → ℕ
sum_sizes u f [] = 0
sum_sizes u f (t ∷ ts) = tree_size (plant u (f t.index)) + sum_sizes u f ts

grown-size : (u : ℕ → Tree) (f : ℕ → Tree) (a : Tree) (ts : List TermId) (sizes : ℕ) → tree_size (plant u a) + sum_sizes u f ts ≡ sizes → sizes < tree_size (plant u (grown a (map (λ t. f t.index) ts)))
grown-size u f a [] sizes e = omega (arith, e)
grown-size u f a (t ∷ ts) sizes e =
    let rest = grown-size u f a ts (tree_size (plant u a) + sum_sizes u f ts) refl in
    omega (arith, e, rest)

sizes-total : (g : Graph) (ts : List TermId) → sum_sizes (trees_of g.nodes g.assigned) (node_tree g.nodes) ts ≡ total g ts
unfolding tree
sizes-total g [] = refl
sizes-total g (t ∷ ts) = ap (λ k. tree_size (plant (trees_of g.nodes g.assigned) (node_tree g.nodes t.index)) + k) (sizes-total g ts)

pub app-size : (g : Graph) (t : ℕ) (k : TermId) (ts : List TermId) → IsSound g → node_at g.nodes t ≡ Some (app_node k ts) → tree_size (tree g k.index) + total g ts < tree_size (tree g t)
unfolding tree
app-size g t k ts s e =
    let here : node_tree g.nodes t ≡ grown (node_tree g.nodes k.index) (map (λ t. node_tree g.nodes t.index) ts) = over-at layer_tree Leaf g.nodes t (app_node k ts) (names_older (length g.depths) g.nodes s.made) e in
    rw here (grown-size (trees_of g.nodes g.assigned) (node_tree g.nodes) (node_tree g.nodes k.index) ts (tree_size (plant (trees_of g.nodes g.assigned) (node_tree g.nodes k.index)) + total g ts) (ap (λ n. tree_size (plant (trees_of g.nodes g.assigned) (node_tree g.nodes k.index)) + n) (sizes-total g ts)))

pub lam-size : (g : Graph) (t d : ℕ) (b : TermId) → IsSound g → node_at g.nodes t ≡ Some (lam_node d b) → tree_size (tree g b.index) < tree_size (tree g t)
unfolding tree
lam-size g t d b s e =
    let here : node_tree g.nodes t ≡ One (node_tree g.nodes b.index) = over-at layer_tree Leaf g.nodes t (lam_node d b) (names_older (length g.depths) g.nodes s.made) e in
    rw here (omega arith)

work-append : (g : Graph) (xs ys : List Task) → work_size g (xs ++ ys) ≡ work_size g xs + work_size g ys
work-append g [] ys = omega arith
work-append g (x ∷ xs) ys = let h = work-append g xs ys in omega (arith, h)

visits-size : (g : Graph) (b : ℕ) (ts : List TermId) → work_size g (visits b ts) ≡ 2 * total g ts
visits-size g b [] = omega arith
visits-size g b (t ∷ ts) = let h = visits-size g b ts in omega (arith, h)

module _ (plan : Plan) where
  -- a visit that is done at once
  pub steps-done : (old new : Graph) (work : List Task) (done : List TermId) (node r : TermId) (b : ℕ) → IsSound old → Grows old new [] [] → AllOlder (length old.nodes) done →
      ((g : Graph) (s : ℕ) → IsSound g → Grows g old [] [] → IsValid g node.index s → IsLow plan b s → HasFew plan b → Does g plan node.index b s (value_of new r)) →
      Steps plan (record { heap = old; work = work ++ Visit node b ∷ []; done = done }) (record { heap = new; work = work; done = done ++ r ∷ [] })
  steps-done old new work done node r b so w there m = record {
    leads = λ g t base source sg gr l.
        let h = subst (λ ks. Leads g plan t base source ks (map (value_of old) done)) (newest-task work (Visit node b)) l in
        let next = h.4 (value_of new r) (m g h.0 sg gr h.1 h.2 h.3) in
        subst (Leads g plan t base source (reverse work)) (ap (λ xs. xs ++ value_of new r ∷ []) (sym (values-kept old new so w done there)) ∙ sym (map-append (value_of new) done (r ∷ []))) next;
    falls = λ g t base source sg gr l.
        let size = ap (work_size g) (newest-task work (Visit node b)) in
        let some = size-some (tree g node.index) in
        omega (arith, size, some);
  }

  -- a visit that leads to other tasks
  pub steps-more : (heap : Graph) (work more ks : List Task) (done : List TermId) (node : TermId) (b : ℕ) → reverse more ≡ ks →
      ((g : Graph) → IsSound g → Grows g heap [] [] → (s : ℕ) → IsValid g node.index s → work_size g ks < 2 * tree_size (tree g node.index)) →
      ((g : Graph) (t base source : ℕ) (k : List Task) (xs : List Value) → IsSound g → Grows g heap [] [] → Leads g plan t base source (Visit node b ∷ k) xs → Leads g plan t base source (ks ++ k) xs) →
      Steps plan (record { heap = heap; work = work ++ Visit node b ∷ []; done = done }) (record { heap = heap; work = work ++ more; done = done })
  steps-more heap work more ks done node b same small m = record {
    leads = λ g t base source sg gr l.
        let h = subst (λ js. Leads g plan t base source js (map (value_of heap) done)) (newest-task work (Visit node b)) l in
        subst (λ js. Leads g plan t base source js (map (value_of heap) done)) (sym (reverse-append work more ∙ ap (λ js. js ++ reverse work) same)) (m g t base source (reverse work) (map (value_of heap) done) sg gr h);
    falls = λ g t base source sg gr l.
        let h = subst (λ js. Leads g plan t base source js (map (value_of heap) done)) (newest-task work (Visit node b)) l in
        let size = ap (work_size g) (newest-task work (Visit node b)) in
        let after = ap (work_size g) (reverse-append work more ∙ ap (λ js. js ++ reverse work) same) ∙ work-append g ks (reverse work) in
        let less = small g sg gr h.0 h.1 in
        omega (arith, size, after, less);
  }

  -- an abstraction is made
  pub steps-lam : (old new : Graph) (work : List Task) (front : List TermId) (body r : TermId) (d : ℕ) → IsSound old → Grows old new [] [] → AllOlder (length old.nodes) front → IsLamOf d (value_of old body) (value_of new r) →
      Steps plan (record { heap = old; work = work ++ Lam d ∷ []; done = front ++ body ∷ [] }) (record { heap = new; work = work; done = front ++ r ∷ [] })
  steps-lam old new work front body r d so w there m = record {
    leads = λ g t base source sg gr l.
        let h = subst (λ ks. Leads g plan t base source ks (map (value_of old) (front ++ body ∷ []))) (newest-task work (Lam d)) l in
        let parts = split-unique (map (value_of old) front) h.0 (value_of old body) h.1 [] [] refl (sym (map-append (value_of old) front (body ∷ [])) ∙ h.2) in
        let next = h.3 (value_of new r) (subst (λ y. IsLamOf d y (value_of new r)) parts.1 m) in
        subst (Leads g plan t base source (reverse work)) (ap (λ xs. xs ++ value_of new r ∷ []) (sym (values-kept old new so w front there ∙ parts.0)) ∙ sym (map-append (value_of new) front (r ∷ []))) next;
    falls = λ g t base source sg gr l. let size = ap (work_size g) (newest-task work (Lam d)) in omega (arith, size);
  }

  -- an application is made
  pub steps-app : (old new : Graph) (work : List Task) (front args : List TermId) (head r : TermId) (n : ℕ) → IsSound old → Grows old new [] [] → AllOlder (length old.nodes) front → length args ≡ n → IsAppOf (value_of old head) (map (value_of old) args) (value_of new r) →
      Steps plan (record { heap = old; work = work ++ App n ∷ []; done = front ++ head ∷ args }) (record { heap = new; work = work; done = front ++ r ∷ [] })
  steps-app old new work front args head r n so w there long m = record {
    leads = λ g t base source sg gr l.
        let h = subst (λ ks. Leads g plan t base source ks (map (value_of old) (front ++ head ∷ args))) (newest-task work (App n)) l in
        let parts = split-unique (map (value_of old) front) h.0 (value_of old head) h.1 (map (value_of old) args) h.2 (length-map args (value_of old) ∙ long ∙ sym h.4) (sym (map-append (value_of old) front (head ∷ args)) ∙ h.3) in
        let next = h.5 (value_of new r) (subst (λ y. IsAppOf y h.2 (value_of new r)) parts.1 (subst (λ ys. IsAppOf (value_of old head) ys (value_of new r)) parts.2 m)) in
        subst (Leads g plan t base source (reverse work)) (ap (λ xs. xs ++ value_of new r ∷ []) (sym (values-kept old new so w front there ∙ parts.0)) ∙ sym (map-append (value_of new) front (r ∷ []))) next;
    falls = λ g t base source sg gr l. let size = ap (work_size g) (newest-task work (App n)) in omega (arith, size);
  }

  -- visits of nodes, one after the other
  pub visits-lead : (g : Graph) (t base source b s : ℕ) (k : List Task) → IsLow plan b s → HasFew plan b → (ts : List TermId) (xs : List Value) → AllValidAt g ts s → ((more : List Value) → AllMove g plan b s ts more → Leads g plan t base source k (xs ++ more)) → Leads g plan t base source (visits b ts ++ k) xs
  visits-lead g t base source b s k low few [] xs v f = subst (Leads g plan t base source k) (append-nil xs) (f [] tt)
  visits-lead g t base source b s k low few (u ∷ us) xs v f =
      (s, v.0, low, few, λ x m. visits-lead g t base source b s k low few us (xs ++ x ∷ []) v.1 (λ more w. subst (Leads g plan t base source k) (sym (append_assoc xs (x ∷ []) more)) (f (x ∷ more) (m, w))))

pub moved-length : (g : Graph) (plan : Plan) (b s : ℕ) (ts : List TermId) (xs : List Value) → AllMove g plan b s ts xs → length xs ≡ length ts
moved-length g plan b s [] [] w = refl
moved-length g plan b s (t ∷ ts) [] w = absurd w
moved-length g plan b s [] (x ∷ xs) w = absurd w
moved-length g plan b s (t ∷ ts) (x ∷ xs) w = ap suc (moved-length g plan b s ts xs w.1)

module _ (ns : List ℕ) (to : ℕ) where
  -- a visit of an abstraction
  pub lam-leads : (g : Graph) (t base source : ℕ) (node body : TermId) (b d : ℕ) (k : List Task) (xs : List Value) → IsSound g → AllBelow ns to → (node.index < length g.nodes → node_at g.nodes node.index ≡ Some (lam_node d body)) →
      Leads g (naming ns to) t base source (Visit node b ∷ k) xs → Leads g (naming ns to) t base source (Visit body (min b d) ∷ Lam (d - min b d + to) ∷ k) xs
  lam-leads g t base source node body b d k xs sg all here h =
      let e = here (valid-below g node.index h.0 h.1) in
      let low = h.3 in (
        suc d,
        body-valid g sg node.index d body h.0 e h.1,
        omega arith,
        omega (arith, low),
        λ y m. (xs, y, refl, λ x w. h.4 x (lam-moves g ns to node.index b h.0 d body y x sg all e h.1 h.2 h.3 m w)),
      )

  pub lam-falls : (g : Graph) (node body : TermId) (b d : ℕ) → IsSound g → node_at g.nodes node.index ≡ Some (lam_node d body) → work_size g (Visit body (min b d) ∷ Lam (d - min b d + to) ∷ []) < 2 * tree_size (tree g node.index)
  lam-falls g node body b d sg e = let less = lam-size g node.index d body sg e in omega (arith, less)

  -- a visit of an application
  pub app-leads : (g : Graph) (t base source : ℕ) (node head : TermId) (args : List TermId) (b : ℕ) (k : List Task) (xs : List Value) → IsSound g → (node.index < length g.nodes → node_at g.nodes node.index ≡ Some (app_node head args)) →
      Leads g (naming ns to) t base source (Visit node b ∷ k) xs → Leads g (naming ns to) t base source ((Visit head b ∷ (visits b args ++ App (length args) ∷ [])) ++ k) xs
  app-leads g t base source node head args b k xs sg here h =
      let e = here (valid-below g node.index h.0 h.1) in
      let parts = app-valid g node.index h.0 head args sg e h.1 in (
        h.0,
        parts.0,
        h.2,
        h.3,
        λ y m.
            subst (λ js. Leads g (naming ns to) t base source js (xs ++ y ∷ [])) (sym (append_assoc (visits b args) (App (length args) ∷ []) k))
            (visits-lead (naming ns to) g t base source b h.0 (App (length args) ∷ k) h.2 h.3 args (xs ++ y ∷ []) parts.1
            (λ more w. (
              xs,
              y,
              more,
              append_assoc xs (y ∷ []) more,
              moved-length g (naming ns to) b h.0 args more w,
              λ x a. h.4 x (app-moves g ns to node.index b h.0 head args y x more sg e m w a),
            ))),
      )

  pub app-falls : (g : Graph) (node head : TermId) (args : List TermId) (b : ℕ) → IsSound g → node_at g.nodes node.index ≡ Some (app_node head args) → work_size g (Visit head b ∷ (visits b args ++ App (length args) ∷ [])) < 2 * tree_size (tree g node.index)
  app-falls g node head args b sg e =
      let less = app-size g node.index head args sg e in
      let more = work-append g (visits b args) (App (length args) ∷ []) in
      let each = visits-size g b args in
      omega (arith, less, more, each)

-- the next task can be done
pub leads-ready : (g h : Graph) (plan : Plan) (t base source : ℕ) (task : Task) (k : List Task) (done : List TermId) → Grows g h [] [] → Leads g plan t base source (task ∷ k) (map (value_of h) done) → IsReady plan (length h.nodes) (length done) task
leads-ready g h plan t base source (Visit n b) k done gr l =
    let below = valid-below g n.index l.0 l.1 in
    let more = grown-length g h gr in
    (omega (arith, below, more), l.3)
leads-ready g h plan t base source (Lam d) k done gr l =
    let long = sym (length-map done (value_of h)) ∙ ap length l.2 ∙ length-append l.0 (l.1 ∷ []) in
    omega (arith, long)
leads-ready g h plan t base source (App m) k done gr l =
    let long = sym (length-map done (value_of h)) ∙ ap length l.3 ∙ length-append l.0 (l.1 ∷ l.2) in
    let count = l.4 in
    omega (arith, long, count)

pub last-leads : (g h : Graph) (plan : Plan) (t base source : ℕ) (done front : List TermId) (r : TermId) → done ≡ front ++ r ∷ [] → Leads g plan t base source [] (map (value_of h) done) → Does g plan t base source (value_of h r)
last-leads g h plan t base source done front r e l = go front (subst (λ ds. Leads g plan t base source [] (map (value_of h) ds)) e l)
  where
    two : (f : List TermId) (x : TermId) → Leads g plan t base source [] (map (value_of h) (x ∷ (f ++ r ∷ []))) → Does g plan t base source (value_of h r)
    two [] x m = absurd m
    two (y ∷ f) x m = absurd m

    go : (f : List TermId) → Leads g plan t base source [] (map (value_of h) (f ++ r ∷ [])) → Does g plan t base source (value_of h r)
    go [] m = m
    go (x ∷ f) m = two f x m

pub some-done : (g h : Graph) (plan : Plan) (t base source : ℕ) (done : List TermId) → Leads g plan t base source [] (map (value_of h) done) → done ≡ [] → ⊥
some-done g h plan t base source done l e = subst (λ ds. Leads g plan t base source [] (map (value_of h) ds)) e l
