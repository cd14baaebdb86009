-- Steps of the walk that makes a node anew with the values of its variables.
use Rattle.std.proofs.Common.{◌≡◌, ℕ, zero, suc, ◌<◌, ◌≤◌, ◌+◌, ◌-◌, ◌*◌, ◌&&◌, ◌++◌, true, List, [], ◌∷◌, length, map, reverse, take, drop, get_or, refl, sym, ap, ap₂, ◌∙◌, arith, subst, length-append, length-drop, append_assoc, append-nil, Option, Some, None, slice_index, Bool, false, cond, nat_eq}
use Rattle.std.specs.List.{list_all}
use Rattle.std.proofs.lemmas.List.{reverse-append, reverse-reverse, length-map, map-append}
use Rattle.level_terms.specs.declared.node.Node.{Node}
use Rattle.level_terms.specs.declared.node.Node.TheVariants.{App as app_node, Var as var_node}
use Rattle.level_terms.specs.declared.node.TermId.{TermId}
use Rattle.level_terms.specs.declared.node.VarId.{VarId}
use Rattle.level_terms.specs.Graph.{Graph, node_at, value_in}
use Rattle.level_terms.specs.Growth.{Grows}
use Rattle.level_terms.specs.Laws.{ArePlaces}
use Rattle.level_terms.specs.Reached.{tree, tree_size}
use Rattle.level_terms.specs.Reading.{read}
use Rattle.level_terms.specs.Sound.{IsSound, IsHead, IsMade, AllMade, AllOlder}
use Rattle.level_terms.specs.Valid.{IsValid}
use Rattle.level_terms.specs.Values.{Value, value_of, IsAppOf}
use Rattle.level_terms.proofs.MakeLemmas.{values-kept, value-kept, grown-length, head-none, parts-there, and_both}
use Rattle.level_terms.proofs.NodeLemmas.{nodes_read, value-valid}
use Rattle.level_terms.proofs.ReadLemmas.{valid-below}
use Rattle.level_terms.proofs.TreeLemmas.{value_below}
use Rattle.level_terms.proofs.ValidLemmas.{valid_deeper}
use Rattle.ref_terms.specs.terms.Term.{Term}
use Rattle.ref_terms.specs.unification.Spine.{apply_all}
use Rattle.beta_fragment.specs.HeadForm.{AllValidAt}
use Rattle.beta_fragment.proofs.FirmLemmas.{reads-value}
use Rattle.beta_fragment.proofs.MoveLemmas.{app-valid, node-before, node-after, assigned-before}
use Rattle.beta_fragment.proofs.StayLemmas.{var-low}
use Rattle.beta_fragment.proofs.WorkLemmas.{split-unique, size-some, total, app-size}
use Rattle.pattern_unify.specs.declared.filling.Task.{Task}
use Rattle.pattern_unify.specs.declared.filling.Task.TheVariants.{Visit, App}
use Rattle.pattern_unify.specs.inside.Filling.{Fills, AllFill, Leads, work_size, Steps, visits, IsReady}

-- a node reads as itself, and its value as a variable
pub fills-itself : (g h : Graph) (t : TermId) → IsSound g → Grows g h [] [] → t.index < length g.nodes → Fills g t.index (value_of h t)
fills-itself g h t s w below = subst (Fills g t.index) (sym (value-kept g h s w t below)) (record { term = λ env p. refl; holds = λ e v. v })

value-fills : (g : Graph) (t value : ℕ) (v : VarId) (x : Value) → IsSound g → node_at g.nodes t ≡ Some (var_node v) → value_in g.assigned v.index ≡ Some value → Fills g value x → Fills g t x
value-fills g t value v x s e f m = record {
  term = λ env p. m.term env p ∙ sym (reads-value g t value v s e f env p);
  holds = λ d w. m.holds d (valid_deeper g value (slice_index g.depths v.index) d (value-valid g.nodes g.depths g.assigned s.valid v.index value f) (var-low g t v d s e w));
}

-- an application whose arguments read as those of a node
terms-fill : (g : Graph) (ts : List TermId) (xs : List Value) → AllFill g ts xs → (env : ℕ → Term) → ArePlaces env → map (λ y. y.term env) xs ≡ map (λ t. read g t.index env) ts
terms-fill g [] [] w env p = refl
terms-fill g [] (x ∷ xs) w env p = absurd w
terms-fill g (t ∷ ts) [] w env p = absurd w
terms-fill g (t ∷ ts) (x ∷ xs) w env p = ap₂ (λ (y : Term) (ys : List Term). y ∷ ys) (w.0.term env p) (terms-fill g ts xs w.1 env p)

all-fill : (g : Graph) (ts : List TermId) (xs : List Value) (e : ℕ) → AllFill g ts xs → AllValidAt g ts e → list_all (λ y. y.holds e) xs ≡ true
all-fill g [] [] e w v = refl
all-fill g [] (x ∷ xs) e w v = absurd w
all-fill g (t ∷ ts) [] e w v = absurd w
all-fill g (t ∷ ts) (x ∷ xs) e w v = and_both (x.holds e) _ (w.0.holds e v.0) (all-fill g ts xs e w.1 v.1)

app-fills : (g : Graph) (t : ℕ) (k : TermId) (ts : List TermId) (x : Value) (xs : List Value) → IsSound g → node_at g.nodes t ≡ Some (app_node k ts) → AllFill g ts xs → IsAppOf (value_of g k) xs x → Fills g t x
app-fills g t k ts x xs s e ms w = record {
  term = λ env p. w.term env p
      ∙ ap (apply_all (read g k.index env)) (terms-fill g ts xs ms env p)
      ∙ sym (nodes_read g t (app_node k ts) env s p e);
  holds = λ d v. let parts = app-valid g t d k ts s e v in w.holds d parts.0 (all-fill g ts xs d ms parts.1);
}

filled-length : (g : Graph) (ts : List TermId) (xs : List Value) → AllFill g ts xs → length xs ≡ length ts
filled-length g [] [] w = refl
filled-length g [] (x ∷ xs) w = absurd w
filled-length g (t ∷ ts) [] w = absurd w
filled-length g (t ∷ ts) (x ∷ xs) w = ap suc (filled-length g ts xs w.1)

-- lists that are joined are the same where their ends are equally long
ends-unique : {A : Type 0} (f f' xs xs' : List A) → length xs ≡ length xs' → f ++ xs ≡ f' ++ xs' → (f ≡ f') × (xs ≡ xs')
ends-unique f f' [] [] l e = (sym (append-nil f) ∙ e ∙ append-nil f', refl)
ends-unique f f' [] (x ∷ xs') l e = absurd (omega (arith, l))
ends-unique f f' (x ∷ xs) [] l e = absurd (omega (arith, l))
ends-unique {A} f f' (x ∷ xs) (y ∷ xs') l e =
    let parts = split-unique f f' x y xs xs' (omega (arith, l)) e in
    (parts.0, ap₂ (λ (z : A) (zs : List A). z ∷ zs) parts.1 parts.2)

-- the newest task
newest-task : (work : List Task) (k : Task) → reverse (work ++ k ∷ []) ≡ k ∷ reverse work
newest-task work k = reverse-append work (k ∷ [])

-- sizes
work-append : (g : Graph) (xs ys : List Task) → work_size g (xs ++ ys) ≡ work_size g xs + work_size g ys
work-append g [] ys = omega arith
work-append g (x ∷ xs) ys = let h = work-append g xs ys in omega (arith, h)

visits-size : (g : Graph) (ts : List TermId) → work_size g (visits ts) ≡ 2 * total g ts
visits-size g [] = omega arith
visits-size g (t ∷ ts) = let h = visits-size g ts in omega (arith, h)

-- a visit that is done at once
pub steps-kept : (heap : Graph) (work : List Task) (done : List TermId) (node : TermId) → Steps (record { heap = heap; work = work ++ Visit node ∷ []; done = done }) (record { heap = heap; work = work; done = done ++ node ∷ [] })
steps-kept heap work done node = record {
  leads = λ g t sg gr l.
      let h = subst (λ ks. Leads g t ks (map (value_of heap) done)) (newest-task work (Visit node)) l in
      subst (Leads g t (reverse work)) (sym (map-append (value_of heap) done (node ∷ []))) (h.1 (value_of heap node) (fills-itself g heap node sg gr h.0));
  falls = λ g t sg gr l.
      let size = ap (work_size g) (newest-task work (Visit node)) in
      let some = size-some (tree g node.index) in
      omega (arith, size, some);
}

-- a visit that leads to other tasks
steps-more : (heap : Graph) (work more ks : List Task) (done : List TermId) (node : TermId) → reverse more ≡ ks →
    ((g : Graph) → IsSound g → Grows g heap [] [] → node.index < length g.nodes → work_size g ks < 2 * tree_size (tree g node.index)) →
    ((g : Graph) (t : ℕ) (k : List Task) (xs : List Value) → IsSound g → Grows g heap [] [] → Leads g t (Visit node ∷ k) xs → Leads g t (ks ++ k) xs) →
    Steps (record { heap = heap; work = work ++ Visit node ∷ []; done = done }) (record { heap = heap; work = work ++ more; done = done })
steps-more heap work more ks done node same small m = record {
  leads = λ g t sg gr l.
      let h = subst (λ js. Leads g t js (map (value_of heap) done)) (newest-task work (Visit node)) l in
      subst (λ js. Leads g t js (map (value_of heap) done)) (sym (reverse-append work more ∙ ap (λ js. js ++ reverse work) same)) (m g t (reverse work) (map (value_of heap) done) sg gr h);
  falls = λ g t sg gr l.
      let h = subst (λ js. Leads g t js (map (value_of heap) done)) (newest-task work (Visit node)) l in
      let size = ap (work_size g) (newest-task work (Visit node)) in
      let after = ap (work_size g) (reverse-append work more ∙ ap (λ js. js ++ reverse work) same) ∙ work-append g ks (reverse work) in
      let less = small g sg gr h.0 in
      omega (arith, size, after, less);
}

-- a variable that has a value
pub steps-value : (heap : Graph) (work : List Task) (done : List TermId) (node value : TermId) (v : VarId) → node_at heap.nodes node.index ≡ Some (var_node v) → value_in heap.assigned v.index ≡ Some value.index →
    Steps (record { heap = heap; work = work ++ Visit node ∷ []; done = done }) (record { heap = heap; work = work ++ Visit value ∷ []; done = done })
steps-value heap work done node value v e f =
    steps-more heap work (Visit value ∷ []) (Visit value ∷ []) done node refl
    (λ g sg gr below.
    let less = value_below g sg node.index v.index value.index v refl (node-before g heap gr node.index (var_node v) below e) (sym (assigned-before g heap gr v.index) ∙ f) in
    omega (arith, less))
    (λ g t k xs sg gr l.
    let here = node-before g heap gr node.index (var_node v) l.0 e in
    let has = sym (assigned-before g heap gr v.index) ∙ f in
    (valid-below g value.index (slice_index g.depths v.index) (value-valid g.nodes g.depths g.assigned sg.valid v.index value.index has), λ x m. l.1 x (value-fills g node.index value.index v x sg here has m)))

-- visits of nodes, one after the other
visits-lead : (g : Graph) (t : ℕ) (k : List Task) (ts : List TermId) (xs : List Value) → AllOlder (length g.nodes) ts → ((more : List Value) → AllFill g ts more → Leads g t k (xs ++ more)) → Leads g t (visits ts ++ k) xs
visits-lead g t k [] xs w f = subst (Leads g t k) (append-nil xs) (f [] tt)
visits-lead g t k (u ∷ us) xs w f =
    (w.0, λ x m. visits-lead g t k us (xs ++ x ∷ []) w.1 (λ more a. subst (Leads g t k) (sym (append_assoc xs (x ∷ []) more)) (f (x ∷ more) (m, a))))

-- an application: its arguments, and then the application to what they come to
app-leads : (g : Graph) (t : ℕ) (node head : TermId) (args : List TermId) (k : List Task) (xs : List Value) → IsSound g → node_at g.nodes node.index ≡ Some (app_node head args) → (0 < length args) →
    Leads g t (Visit node ∷ k) xs → Leads g t ((visits args ++ App head (length args) ∷ []) ++ k) xs
app-leads g t node head args k xs sg e some l =
    let parts = parts-there g node.index (app_node head args) sg e in
    subst (λ js. Leads g t js xs) (sym (append_assoc (visits args) (App head (length args) ∷ []) k))
    (visits-lead g t (App head (length args) ∷ k) args xs parts.1
    (λ more w. (parts.0, head-none g node.index head args sg e, some, xs, more, refl, filled-length g args more w, λ x a. l.1 x (app-fills g node.index head args x more sg e w a))))

-- an application has arguments
args-made : (n : ℕ) (t : ℕ) (k : TermId) (ts : List TermId) (ns : List Node) → AllMade n ns → node_at ns t ≡ Some (app_node k ts) → 0 < length ts
args-made n t k ts [] m e = absurd (let w : ◌≡◌ {A = Option Node} None (Some (app_node k ts)) = e in cc)
args-made n t k ts (x ∷ ns) m e = go (λ q. args-made n t k ts ns m.1 q) (nat_eq (length ns) t) e
  where
    own : IsMade ns n x → x ≡ app_node k ts → 0 < length ts
    own w q = (subst (IsMade ns n) q w).3

    go : (node_at ns t ≡ Some (app_node k ts) → 0 < length ts) → (b : Bool) → cond b (Some x) (node_at ns t) ≡ Some (app_node k ts) → 0 < length ts
    go older true q = own m.0 (let w : x ≡ app_node k ts = cc in w)
    go older false q = older q

pub args-some : (g : Graph) (t : ℕ) (k : TermId) (ts : List TermId) → IsSound g → node_at g.nodes t ≡ Some (app_node k ts) → 0 < length ts
args-some g t k ts s e = args-made (length g.depths) t k ts g.nodes s.made e

app-falls : (g : Graph) (node head : TermId) (args : List TermId) → IsSound g → node_at g.nodes node.index ≡ Some (app_node head args) → work_size g (visits args ++ App head (length args) ∷ []) < 2 * tree_size (tree g node.index)
app-falls g node head args sg e =
    let less = app-size g node.index head args sg e in
    let more = work-append g (visits args) (App head (length args) ∷ []) in
    let each = visits-size g args in
    omega (arith, less, more, each)

pub steps-visits : (heap : Graph) (work new : List Task) (done : List TermId) (node head : TermId) (args : List TermId) → node_at heap.nodes node.index ≡ Some (app_node head args) → (0 < length args) →
    new ≡ work ++ (App head (length args) ∷ reverse (visits args)) → Steps (record { heap = heap; work = work ++ Visit node ∷ []; done = done }) (record { heap = heap; work = new; done = done })
steps-visits heap work new done node head args e some put =
    subst (λ ws. Steps (record { heap = heap; work = work ++ Visit node ∷ []; done = done }) (record { heap = heap; work = ws; done = done })) (sym put)
    (steps-more heap work (App head (length args) ∷ reverse (visits args)) (visits args ++ App head (length args) ∷ []) done node
    (reverse-append (App head (length args) ∷ []) (reverse (visits args)) ∙ ap (λ (ws : List Task). ws ++ App head (length args) ∷ []) (reverse-reverse (visits args)))
    (λ g sg gr below. app-falls g node head args sg (node-before g heap gr node.index (app_node head args) below e))
    (λ g t k xs sg gr l. app-leads g t node head args k xs sg (node-before g heap gr node.index (app_node head args) l.0 e) some l))

-- an application is made
pub steps-app : (old new : Graph) (work : List Task) (front args : List TermId) (head r : TermId) (n : ℕ) → IsSound old → Grows old new [] [] → AllOlder (length old.nodes) front → length args ≡ n → IsAppOf (value_of old head) (map (value_of old) args) (value_of new r) →
    Steps (record { heap = old; work = work ++ App head n ∷ []; done = front ++ args }) (record { heap = new; work = work; done = front ++ r ∷ [] })
steps-app old new work front args head r n so w there long m = record {
  leads = λ g t sg gr l.
      let h = subst (λ ks. Leads g t ks (map (value_of old) (front ++ args))) (newest-task work (App head n)) l in
      let parts = ends-unique (map (value_of old) front) h.3 (map (value_of old) args) h.4 (length-map args (value_of old) ∙ long ∙ sym h.6) (sym (map-append (value_of old) front args) ∙ h.5) in
      let next = h.7 (value_of new r) (subst (λ y. IsAppOf y h.4 (value_of new r)) (value-kept g old sg gr head h.0) (subst (λ ys. IsAppOf (value_of old head) ys (value_of new r)) parts.1 m)) in
      subst (Leads g t (reverse work)) (ap (λ xs. xs ++ value_of new r ∷ []) (sym (values-kept old new so w front there ∙ parts.0)) ∙ sym (map-append (value_of new) front (r ∷ []))) next;
  falls = λ g t sg gr l. let size = ap (work_size g) (newest-task work (App head n)) in omega (arith, size);
}

-- the next task can be done
pub leads-ready : (g h : Graph) (t : ℕ) (work : List Task) (task : Task) (done : List TermId) → Grows g h [] [] → Leads g t (reverse (work ++ task ∷ [])) (map (value_of h) done) → IsReady h (length done) task
leads-ready g h t work task done gr l = go task (subst (λ ks. Leads g t ks (map (value_of h) done)) (newest-task work task) l)
  where
    go : (k : Task) → Leads g t (k ∷ reverse work) (map (value_of h) done) → IsReady h (length done) k
    go (Visit n) w = let below = w.0 in let more = grown-length g h gr in omega (arith, below, more)
    go (App k m) w =
        let below = w.0 in
        let more = grown-length g h gr in
        let long = sym (length-map done (value_of h)) ∙ ap length w.5 ∙ length-append w.3 w.4 in
        let count = w.6 in
        (omega (arith, below, more), subst IsHead (sym (node-after g h gr k.index w.0)) w.1, w.2, omega (arith, long, count))

-- nothing is left to do
pub last-leads : (g h : Graph) (t : ℕ) (done front : List TermId) (r : TermId) → done ≡ front ++ r ∷ [] → Leads g t [] (map (value_of h) done) → Fills g t (value_of h r)
last-leads g h t done front r e l = go front (subst (λ ds. Leads g t [] (map (value_of h) ds)) e l)
  where
    two : (f : List TermId) (x : TermId) → Leads g t [] (map (value_of h) (x ∷ (f ++ r ∷ []))) → Fills g t (value_of h r)
    two [] x m = absurd m
    two (y ∷ f) x m = absurd m

    go : (f : List TermId) → Leads g t [] (map (value_of h) (f ++ r ∷ [])) → Fills g t (value_of h r)
    go [] m = m
    go (x ∷ f) m = two f x m

pub some-done : (g h : Graph) (t : ℕ) (done : List TermId) → Leads g t [] (map (value_of h) done) → done ≡ [] → ⊥
some-done g h t done l e = subst (λ ds. Leads g t [] (map (value_of h) ds)) e l

-- visits that are pushed from the last one on
pub drop_all : (ts : List TermId) → drop (length ts) (visits ts) ≡ []
drop_all [] = refl
drop_all (t ∷ ts) = drop_all ts

pub drop_one : (ts : List TermId) (i : ℕ) (d : TermId) → i < length ts → drop i (visits ts) ≡ Visit (get_or ts i d) ∷ drop (suc i) (visits ts)
drop_one [] i d h = absurd (omega arith)
drop_one (t ∷ ts) zero d h = refl
drop_one (t ∷ ts) (suc i) d h = drop_one ts i d (omega (arith, h))

pub push_step : (old work new rest : List Task) (p : Task) (all : List Task) → work ≡ old ++ reverse rest → new ≡ work ++ p ∷ [] → all ≡ p ∷ rest → new ≡ old ++ reverse all
push_step old work new rest p all h e k =
    e ∙ ap (λ (ws : List Task). ws ++ p ∷ []) h ∙ append_assoc old (reverse rest) (p ∷ [])
    ∙ ap (λ (ws : List Task). old ++ ws) (sym (reverse-append (p ∷ []) rest) ∙ ap reverse (sym k))

-- the last nodes of a list
pub last-count : (xs : List TermId) (len n : ℕ) → len ≡ length xs → n ≤ length xs → length (drop (len - n) xs) ≡ n
last-count xs len n e h =
    let rest = length-drop (len - n) xs in
    omega (arith, rest, e, h)
