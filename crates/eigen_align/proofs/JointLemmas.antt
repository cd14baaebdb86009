-- Joint names, sequent by sequent and pair by pair.
use Rattle.std.proofs.Common.{◌≡◌, ℕ, zero, suc, ◌+◌, ◌<◌, ◌≤◌, Bool, true, false, cond, nat_eq, List, [], ◌∷◌, ◌++◌, map, filter, length, drop, set, replicate, get_or, slice_get, slice_index, Option, Some, None, IfSome, option_map, option_and_then, refl, sym, subst, ap, ap₂, ◌∙◌, arith, append_assoc, append-nil, length-append}
use Rattle.std.proofs.lemmas.Bool.{eqb-true, eqb-false}
use Rattle.std.proofs.lemmas.Option.{slice_get-map, slice_get-get_or}
use Rattle.level_terms.specs.declared.node.TermId.{TermId}
use Rattle.level_terms.specs.Graph.{Graph}
use Rattle.level_terms.specs.Growth.{Grows}
use Rattle.level_terms.specs.Sound.{IsSound}
use Rattle.level_terms.specs.Valid.{IsValid}
use Rattle.level_terms.proofs.ReadLemmas.{valid-below, grown-reads}
use Rattle.level_terms.proofs.ValidLemmas.{growth_keeps_valid}
use Rattle.ref_terms.specs.terms.Term.{Term}
use Rattle.ref_terms.specs.declared.pair.Pair.{Pair}
use Rattle.ref_terms.specs.unification.Closing.{up_from, names_below}
use Rattle.ref_terms.specs.search.Branch.{Constraint}
use Rattle.ref_terms.specs.search.Joint.{Joint, paired_spines, spine_at, map_at, identified, aligned, all_aligned, completed, missing, with_head, joined, joint}
use Rattle.ref_terms.specs.search.Used.{Every}
use Rattle.beta_fragment.specs.Names.{names, AllBelow}
use Rattle.eigen_align.specs.declared.sequent.Sequent.{Sequent}
use Rattle.eigen_align.specs.declared.sequent.JointNames.{JointNames}
use Rattle.eigen_align.specs.Counts.{depths_of, HaveCounts, HaveBelow, AreBelow}
use Rattle.eigen_align.specs.Sequents.{sequent_read, sequents_read, IsSequent, AreSequents, joint_read}
use Rattle.eigen_align.specs.inside.Identified.{aligned_at, all_aligned_at}
use Rattle.eigen_align.proofs.IdentifiedLemmas.{identified-none, at-front, drop-end}

-- what holds of each holds of one
pub every-at : {A : Type 0} (P : A → Type 0) (xs : List A) (i : ℕ) (d : A) → i < length xs → Every P xs → P (get_or xs i d)
every-at P [] i d h w = absurd (omega (arith, h))
every-at P (x ∷ xs) zero d h w = w.0
every-at P (x ∷ xs) (suc i) d h w = every-at P xs i d (omega (arith, h)) w.1

pub every-set : {A : Type 0} (P : A → Type 0) (xs : List A) (i : ℕ) (x : A) → Every P xs → P x → Every P (set xs i x)
every-set P [] i x w v = tt
every-set P (y ∷ ys) zero x w v = (v, w.1)
every-set P (y ∷ ys) (suc i) x w v = (w.0, every-set P ys i x w.1 v)

pub every-repeated : {A : Type 0} (P : A → Type 0) (n : ℕ) (x : A) → P x → Every P (replicate n x)
every-repeated P zero x v = tt
every-repeated P (suc n) x v = (v, every-repeated P n x v)

-- how many names a sequent has
pub depth-at : (ss : List Sequent) (i : ℕ) (d : Sequent) → i < length ss → slice_index (depths_of ss) i ≡ (get_or ss i d).depth
depth-at [] i d h = absurd (omega (arith, h))
depth-at (s ∷ ss) zero d h = refl
depth-at (s ∷ ss) (suc i) d h = depth-at ss i d (omega (arith, h))

-- the joint names of a sequent, where it has some
pub map-got : (maps : List (List ℕ)) (i : ℕ) (m : List ℕ) → i < length maps → m ≡ get_or maps i m → m ≡ map_at maps i
map-got [] i m h e = absurd (omega (arith, h))
map-got (x ∷ xs) zero m h e = e
map-got (x ∷ xs) (suc i) m h e = map-got xs i m (omega (arith, h)) e

-- growth leaves sequents as they are
pub sequent-stays : (g h : Graph) → IsSound g → Grows g h [] [] → (s : Sequent) → IsValid g s.goal.index s.depth → sequent_read h s ≡ sequent_read g s
sequent-stays g h s w y v =
    ap (λ (r : (ℕ → Term) → Term). (let c : Constraint = record { number = 0; names = y.depth; assumptions = []; term = r names; keys = [] } in c))
    (grown-reads g h s w y.goal.index (valid-below g y.goal.index y.depth v))

pub sequents-stay : (g h : Graph) → IsSound g → Grows g h [] [] → (ss : List Sequent) → AreSequents g ss → sequents_read h ss ≡ sequents_read g ss
sequents-stay g h s w [] v = refl
sequents-stay g h s w (x ∷ xs) v = ap₂ (λ (c : Constraint) (cs : List Constraint). c ∷ cs) (sequent-stays g h s w x v.0.0) (sequents-stay g h s w xs v.1)

kept : (g h : Graph) → IsSound g → Grows g h [] [] → (t d : ℕ) → IsValid g t d → IsValid h t d
kept g h s w t d v = growth_keeps_valid g h [] [] t d s w (valid-below g t d v) v

pub context-kept : (g h : Graph) → IsSound g → Grows g h [] [] → (o : Option TermId) (d : ℕ) → IfSome o (λ t. IsValid g t.index d) → IfSome o (λ t. IsValid h t.index d)
context-kept g h s w None d v = tt
context-kept g h s w (Some t) d v = kept g h s w t.index d v

pub sequents-kept : (g h : Graph) → IsSound g → Grows g h [] [] → (ss : List Sequent) → AreSequents g ss → AreSequents h ss
sequents-kept g h s w [] v = tt
sequents-kept g h s w (x ∷ xs) v = ((kept g h s w x.goal.index x.depth v.0.0, context-kept g h s w x.context x.depth v.0.1), sequents-kept g h s w xs v.1)

pub goal-valid : (g h : Graph) → IsSound g → Grows g h [] [] → (ss : List Sequent) (i : ℕ) (d : Sequent) → AreSequents g ss → i < length ss → IsValid h (get_or ss i d).goal.index (get_or ss i d).depth
goal-valid g h s w ss i d v l = (every-at (IsSequent h) ss i d l (sequents-kept g h s w ss v)).0

-- what a pair identifies, by its two spines
pub aligned-by : (g : Graph) (ss : List Sequent) (maps : List (List ℕ)) (p : Pair) (d e : Sequent) (a b : Option (ℕ × List ℕ)) (o : Option (List (Option ℕ))) → p.left_head < length ss → p.right_head < length ss →
    a ≡ spine_at p.left_arg (Some (sequent_read g (get_or ss p.left_head d))) → b ≡ spine_at p.right_arg (Some (sequent_read g (get_or ss p.right_head e))) →
    aligned (sequents_read g ss) maps p o ≡ option_and_then (λ ps. identified (map_at maps p.left_head) ps o) (paired_spines a b)
aligned-by g ss maps p d e a b o l r left right =
    ap₂ (λ (x y : Option Constraint). option_and_then (λ ps. identified (map_at maps p.left_head) ps o) (paired_spines (spine_at p.left_arg x) (spine_at p.right_arg y))) (here p.left_head d l) (here p.right_head e r)
    ∙ ap₂ (λ (x y : Option (ℕ × List ℕ)). option_and_then (λ ps. identified (map_at maps p.left_head) ps o) (paired_spines x y)) (sym left) (sym right)
  where
    here : (i : ℕ) (z : Sequent) → i < length ss → slice_get (sequents_read g ss) i ≡ Some (sequent_read g (get_or ss i z))
    here i z h = slice_get-map (sequent_read g) ss i ∙ ap (option_map (sequent_read g)) (slice_get-get_or ss i z h)

-- no spine on the right
pub no_right : (a : Option (ℕ × List ℕ)) → paired_spines a None ≡ None
no_right None = refl
no_right (Some s) = refl

-- what failed stays so
and-then-none : {A B : Type 0} (f : A → Option B) → ((a : A) → f a ≡ None) → (o : Option A) → option_and_then f o ≡ None
and-then-none f h None = refl
and-then-none f h (Some a) = h a

aligned-none : (cs : List Constraint) (maps : List (List ℕ)) (p : Pair) → aligned cs maps p None ≡ None
aligned-none cs maps p = and-then-none (λ ps. identified (map_at maps p.left_head) ps None) (identified-none (map_at maps p.left_head)) (paired_spines (spine_at p.left_arg (slice_get cs p.left_head)) (spine_at p.right_arg (slice_get cs p.right_head)))

pub all_at-none : (cs : List Constraint) (maps : List (List ℕ)) (i : ℕ) (ps : List Pair) → all_aligned_at cs maps i ps None ≡ None
all_at-none cs maps i [] = refl
all_at-none cs maps i (p ∷ ps) = ap (all_aligned_at cs maps i ps) (go (nat_eq p.right_head i)) ∙ all_at-none cs maps i ps
  where
    go : (b : Bool) → cond b (aligned cs maps p None) None ≡ None
    go true = aligned-none cs maps p
    go false = refl

-- the pairs of one head are those that are its own
pub filtered : (cs : List Constraint) (maps : List (List ℕ)) (i : ℕ) (ps : List Pair) (o : Option (List (Option ℕ))) → all_aligned cs maps (filter (λ p. nat_eq p.right_head i) ps) o ≡ all_aligned_at cs maps i ps o
filtered cs maps i [] o = refl
filtered cs maps i (p ∷ ps) o = go (λ z. filtered cs maps i ps z) (nat_eq p.right_head i)
  where
    go : ((z : Option (List (Option ℕ))) → all_aligned cs maps (filter (λ q. nat_eq q.right_head i) ps) z ≡ all_aligned_at cs maps i ps z) → (b : Bool) →
        all_aligned cs maps (cond b (p ∷ filter (λ q. nat_eq q.right_head i) ps) (filter (λ q. nat_eq q.right_head i) ps)) o ≡ all_aligned_at cs maps i ps (cond b (aligned cs maps p o) o)
    go rest true = rest (aligned cs maps p o)
    go rest false = rest o

-- one name more, with a joint name of its own or a new one
pub completed-next : (next : ℕ) (m : Option ℕ) (ms : List (Option ℕ)) → completed next (m ∷ ms) ≡ completed next (m ∷ []) ++ completed (next + missing (m ∷ [])) ms
completed-next next (Some z) ms = ap (λ (n : ℕ). z ∷ completed n ms) (let e : next ≡ next + 0 = omega arith in e)
completed-next next None ms = ap (λ (n : ℕ). next ∷ completed n ms) (let e : suc next ≡ next + 1 = omega arith in e)

pub missing-next : (m : Option ℕ) (ms : List (Option ℕ)) → missing (m ∷ ms) ≡ missing (m ∷ []) + missing ms
missing-next (Some z) ms = omega arith
missing-next None ms = omega arith

-- as many joint names as names
pub completed-count : (next : ℕ) (ms : List (Option ℕ)) → length (completed next ms) ≡ length ms
completed-count next [] = refl
completed-count next (Some z ∷ ms) = ap suc (completed-count next ms)
completed-count next (None ∷ ms) = ap suc (completed-count (suc next) ms)

-- below the new joint depth
pub completed-below : (depth next : ℕ) (ms : List (Option ℕ)) → depth ≤ next → AreBelow depth ms → AllBelow (completed next ms) (next + missing ms)
completed-below depth next [] l w i h = absurd (let none : i < 0 = h in omega (arith, none))
completed-below depth next (Some z ∷ ms) l w zero h = let k : z < depth = w.0 in let r : z < next + missing ms = omega (arith, k, l) in r
completed-below depth next (Some z ∷ ms) l w (suc i) h = let q : suc i < suc (length (completed next ms)) = h in completed-below depth next ms l w.1 i (omega (arith, q))
completed-below depth next (None ∷ ms) l w zero h = let r : next < next + suc (missing ms) = omega arith in r
completed-below depth next (None ∷ ms) l w (suc i) h =
    let q : suc i < suc (length (completed (suc next) ms)) = h in
    let k : slice_index (completed (suc next) ms) i < suc next + missing ms = completed-below depth (suc next) ms (omega (arith, l)) w.1 i (omega (arith, q)) in
    let r : slice_index (completed (suc next) ms) i < next + suc (missing ms) = omega (arith, k) in r

-- the joint names with those of one more sequent
pub map_at-front : (maps : List (List ℕ)) (m : List ℕ) (i : ℕ) → i < length maps → map_at (maps ++ m ∷ []) i ≡ map_at maps i
map_at-front [] m i h = absurd (omega (arith, h))
map_at-front (x ∷ xs) m zero h = refl
map_at-front (x ∷ xs) m (suc i) h = map_at-front xs m i (omega (arith, h))

pub map_at-last : (maps : List (List ℕ)) (m : List ℕ) (i : ℕ) → i ≡ length maps → map_at (maps ++ m ∷ []) i ≡ m
map_at-last [] m zero e = refl
map_at-last [] m (suc i) e = absurd (omega (arith, e))
map_at-last (x ∷ xs) m zero e = absurd (omega (arith, e))
map_at-last (x ∷ xs) m (suc i) e = map_at-last xs m i (omega (arith, e))

-- places up to one more
pub by-place : (P : ℕ → Type 0) (n : ℕ) → ((i : ℕ) → i < n → P i) → P n → (i : ℕ) → i < n + 1 → P i
by-place P n w v i h = go (nat_eq i n) refl
  where
    go : (b : Bool) → nat_eq i n ≡ b → P i
    go true e = subst P (sym (eqb-true i n e)) v
    go false e = let apart = eqb-false i n e in w i (omega (arith, apart, h))

pub counts-more : (ss : List Sequent) (maps more : List (List ℕ)) (m : List ℕ) → HaveCounts ss maps → more ≡ maps ++ m ∷ [] → length m ≡ slice_index (depths_of ss) (length maps) → HaveCounts ss more
counts-more ss maps more m w e c i h =
    by-place (λ k. length (map_at more k) ≡ slice_index (depths_of ss) k) (length maps)
    (λ k l. ap (λ (x : List (List ℕ)). length (map_at x k)) e ∙ ap length (map_at-front maps m k l) ∙ w k l)
    (ap (λ (x : List (List ℕ)). length (map_at x (length maps))) e ∙ ap length (map_at-last maps m (length maps) refl) ∙ c)
    i (let long = ap length e in let sum = length-append maps (m ∷ []) in omega (arith, long, sum, h))

below-higher : (ns : List ℕ) (d e : ℕ) → d ≤ e → AllBelow ns d → AllBelow ns e
below-higher ns d e l w i h = let k = w i h in omega (arith, k, l)

pub below-more : (d e : ℕ) (maps more : List (List ℕ)) (m : List ℕ) → HaveBelow d maps → d ≤ e → more ≡ maps ++ m ∷ [] → AllBelow m e → HaveBelow e more
below-more d e maps more m w l q c i h =
    by-place (λ k. AllBelow (map_at more k) e) (length maps)
    (λ k n. subst (λ (x : List ℕ). AllBelow x e) (sym (ap (λ (x : List (List ℕ)). map_at x k) q ∙ map_at-front maps m k n)) (below-higher (map_at maps k) d e l (w k n)))
    (subst (λ (x : List ℕ). AllBelow x e) (sym (ap (λ (x : List (List ℕ)). map_at x (length maps)) q ∙ map_at-last maps m (length maps) refl)) c)
    i (let long = ap length q in let sum = length-append maps (m ∷ []) in omega (arith, long, sum, h))

-- the names of the first sequent
pub up-count : (k n : ℕ) → length (up_from k n) ≡ n
up-count k zero = refl
up-count k (suc n) = ap suc (up-count (suc k) n)

pub up-at : (k n i : ℕ) → i < n → slice_index (up_from k n) i ≡ k + i
up-at k zero i h = absurd (omega (arith, h))
up-at k (suc n) zero h = let e : k ≡ k + 0 = omega arith in e
up-at k (suc n) (suc i) h = up-at (suc k) n i (omega (arith, h)) ∙ (let e : suc k + i ≡ k + suc i = omega arith in e)

pub up-below : (n : ℕ) → AllBelow (names_below n) n
up-below n i h =
    let long : length (up_from 0 n) ≡ n = up-count 0 n in
    let q : i < length (up_from 0 n) = h in
    let e : slice_index (up_from 0 n) i ≡ 0 + i = up-at 0 n i (omega (arith, q, long)) in
    let r : slice_index (up_from 0 n) i < n = omega (arith, e, q, long) in r

pub up-more : (k n : ℕ) → up_from k (suc n) ≡ up_from k n ++ (k + n) ∷ []
up-more k zero = ap (λ (x : ℕ). x ∷ []) (let e : k ≡ k + 0 = omega arith in e)
up-more k (suc n) = ap (λ (xs : List ℕ). k ∷ xs) (up-more (suc k) n ∙ ap (λ (x : ℕ). up_from (suc k) n ++ x ∷ []) (let e : suc k + n ≡ k + suc n = omega arith in e))

-- the joint names of a list's front are put, and what is left has one name less
pub complete-step : (next after i : ℕ) (ms : List (Option ℕ)) (map more : List ℕ) (d : Option ℕ) → i < length ms → more ≡ map ++ completed next (get_or ms i d ∷ []) → after ≡ next + missing (get_or ms i d ∷ []) →
    map ++ completed next (drop i ms) ≡ more ++ completed after (drop (suc i) ms)
complete-step next after i ms map more d h e q =
    ap (λ (xs : List (Option ℕ)). map ++ completed next xs) (at-front ms i d h)
    ∙ ap (λ (xs : List ℕ). map ++ xs) (completed-next next (get_or ms i d) (drop (suc i) ms))
    ∙ sym (append_assoc map (completed next (get_or ms i d ∷ [])) (completed (next + missing (get_or ms i d ∷ [])) (drop (suc i) ms)))
    ∙ ap₂ (λ (xs : List ℕ) (n : ℕ). xs ++ completed n (drop (suc i) ms)) (sym e) (sym q)

pub missing-step : (next after i : ℕ) (ms : List (Option ℕ)) (d : Option ℕ) → i < length ms → after ≡ next + missing (get_or ms i d ∷ []) → next + missing (drop i ms) ≡ after + missing (drop (suc i) ms)
missing-step next after i ms d h q =
    let whole : missing (drop i ms) ≡ missing (get_or ms i d ∷ []) + missing (drop (suc i) ms) = ap missing (at-front ms i d h) ∙ missing-next (get_or ms i d) (drop (suc i) ms) in
    omega (arith, whole, q)

-- what pairs identify, from one pair on
pub all_at-next : (cs : List Constraint) (maps : List (List ℕ)) (i k : ℕ) (ps : List Pair) (d : Pair) (o q : Option (List (Option ℕ))) → k < length ps → q ≡ aligned_at cs maps i (get_or ps k d) o → all_aligned_at cs maps i (drop k ps) o ≡ all_aligned_at cs maps i (drop (suc k) ps) q
all_at-next cs maps i k ps d o q h e = ap (λ (xs : List Pair). all_aligned_at cs maps i xs o) (at-front ps k d h) ∙ ap (all_aligned_at cs maps i (drop (suc k) ps)) (sym e)

-- the reference's constraints from one sequent on
sequents-front : (g : Graph) (ss : List Sequent) (i : ℕ) (d : Sequent) → i < length ss → drop i (sequents_read g ss) ≡ sequent_read g (get_or ss i d) ∷ drop (suc i) (sequents_read g ss)
sequents-front g [] i d h = absurd (omega (arith, h))
sequents-front g (s ∷ ss) zero d h = refl
sequents-front g (s ∷ ss) (suc i) d h = sequents-front g ss i d (omega (arith, h))

-- the first sequent keeps its names
pub joint-first : (g : Graph) (ss : List Sequent) (pairs : List Pair) (d : Sequent) (j : JointNames) → 0 < length ss → j.depth ≡ (get_or ss 0 d).depth → j.maps.items ≡ names_below (get_or ss 0 d).depth ∷ [] →
    joined (sequents_read g ss) pairs 1 (drop 1 (sequents_read g ss)) (joint_read j) ≡ joint pairs (sequents_read g ss)
joint-first g [] pairs d j h e q = absurd (omega (arith, h))
joint-first g (s ∷ ss) pairs d j h e q =
    ap₂ (λ (n : ℕ) (ms : List (List ℕ)). (let r : Joint = record { names = n; maps = ms } in joined (sequents_read g (s ∷ ss)) pairs 1 (sequents_read g ss) r)) e q

-- and a later one gets its own
pub joined-next : (g : Graph) (ss : List Sequent) (pairs : List Pair) (i : ℕ) (d : Sequent) (j : JointNames) (o : Option (List (Option ℕ))) → i < length ss →
    o ≡ all_aligned (sequents_read g ss) j.maps.items (filter (λ p. nat_eq p.right_head i) pairs) (Some (replicate (slice_index (depths_of ss) i) None)) →
    joined (sequents_read g ss) pairs i (drop i (sequents_read g ss)) (joint_read j) ≡ option_and_then (λ ms. joined (sequents_read g ss) pairs (suc i) (drop (suc i) (sequents_read g ss)) (with_head (joint_read j) ms)) o
joined-next g ss pairs i d j o h e =
    ap (λ (cs : List Constraint). joined (sequents_read g ss) pairs i cs (joint_read j)) (sequents-front g ss i d h)
    ∙ ap (λ (n : ℕ). option_and_then (λ ms. joined (sequents_read g ss) pairs (suc i) (drop (suc i) (sequents_read g ss)) (with_head (joint_read j) ms))
    (all_aligned (sequents_read g ss) j.maps.items (filter (λ p. nat_eq p.right_head i) pairs) (Some (replicate n None)))) (sym (depth-at ss i d h))
    ∙ ap (option_and_then (λ ms. joined (sequents_read g ss) pairs (suc i) (drop (suc i) (sequents_read g ss)) (with_head (joint_read j) ms))) (sym e)

-- one name more of the first sequent
pub own-more : (n : ℕ) → names_below (suc n) ≡ names_below n ++ n ∷ []
own-more n = up-more 0 n ∙ ap (λ (x : ℕ). up_from 0 n ++ x ∷ []) (let e : 0 + n ≡ n = omega arith in e)

-- no name is left
pub complete-end : (next i : ℕ) (ms : List (Option ℕ)) (map : List ℕ) → length ms ≤ i → map ++ completed next (drop i ms) ≡ map
complete-end next i ms map h = ap (λ (xs : List (Option ℕ)). map ++ completed next xs) (drop-end ms i h) ∙ append-nil map

pub missing-end : (next i : ℕ) (ms : List (Option ℕ)) → length ms ≤ i → next + missing (drop i ms) ≡ next
missing-end next i ms h = let none : missing (drop i ms) ≡ 0 = ap missing (drop-end ms i h) in omega (arith, none)

-- one more name without a joint name
pub repeated-more : (n : ℕ) (x : Option ℕ) → replicate (suc n) x ≡ replicate n x ++ x ∷ []
repeated-more zero x = refl
repeated-more (suc n) x = ap (λ (ms : List (Option ℕ)). x ∷ ms) (repeated-more n x)

pub repeated-count : (n : ℕ) (x : Option ℕ) → length (replicate n x) ≡ n
repeated-count zero x = refl
repeated-count (suc n) x = ap suc (repeated-count n x)

-- the joint names with those of one more sequent fit the sequents
pub maps-more : (j r : JointNames) (ms : List (Option ℕ)) → joint_read r ≡ with_head (joint_read j) ms → r.maps.items ≡ j.maps.items ++ completed j.depth ms ∷ []
maps-more j r ms e = ap (λ (z : Joint). z.maps) e

pub depth-more : (j r : JointNames) (ms : List (Option ℕ)) → joint_read r ≡ with_head (joint_read j) ms → r.depth ≡ j.depth + missing ms
depth-more j r ms e = ap (λ (z : Joint). z.names) e

-- the joint names of the first sequent fit it
pub first-counts : (ss : List Sequent) (d : Sequent) (maps : List (List ℕ)) → 0 < length ss → maps ≡ names_below (get_or ss 0 d).depth ∷ [] → HaveCounts ss maps
first-counts ss d maps some e i h =
    let long : length maps ≡ 1 = ap length e in
    let zero_ : i ≡ 0 = omega (arith, h, long) in
    ap (λ (k : ℕ). length (map_at maps k)) zero_ ∙ ap (λ (ms : List (List ℕ)). length (map_at ms 0)) e ∙ up-count 0 (get_or ss 0 d).depth ∙ sym (depth-at ss 0 d some) ∙ ap (slice_index (depths_of ss)) (sym zero_)

pub first-below : (depth own : ℕ) (maps : List (List ℕ)) → depth ≡ own → maps ≡ names_below own ∷ [] → HaveBelow depth maps
first-below depth own maps q e i h =
    let long : length maps ≡ 1 = ap length e in
    let zero_ : 0 ≡ i = omega (arith, h, long) in
    subst (λ (k : ℕ). AllBelow (map_at maps k) depth) zero_
    (subst (λ (ms : List (List ℕ)). AllBelow (map_at ms 0) depth) (sym e) (subst (AllBelow (names_below own)) (sym q) (up-below own)))
