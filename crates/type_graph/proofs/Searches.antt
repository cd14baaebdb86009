-- The state of a search from a node.
use Rattle.std.proofs.Common.{◌≡◌, ◌⊎◌, inl, inr, ℕ, zero, suc, ◌+◌, ◌<◌, ◌≤◌, ◌++◌, List, [], ◌∷◌, length, cond, Result, Ok, Err, OnOk, OnErr, Bool, true, false, not, refl, sym, ap, ap₂, ◌∙◌, subst, arith, set, get_or, All, length-append, length-set}
use Rattle.std.proofs.lemmas.Bool.{cases_eq}
use Rattle.std.proofs.lemmas.List.{get_or-set_same, get_or-set_other, get_or_append_left}
use Rattle.std.proofs.lemmas.List.Elements.{All-push, Contains-append_left, Contains-push}
use Rattle.std.proofs.lemmas.List.Sums.{sum_by-set}
use Rattle.std.specs.List.{Contains}
use Rattle.type_graph.specs.declared.node.Node.{Node}
use Rattle.type_graph.specs.declared.node.Node.TheVariants.{Free, Leaf, Apply, Same}
use Rattle.type_graph.specs.Types.{Ty, size}
use Rattle.type_graph.specs.Graph.{Says, Solves, IsRoot, LeadsBelow}
use Rattle.type_graph.specs.inside.Reach.{is_marked, IsClear, unmarked, Kept, IsPart, Marks, IsApart, queue_after, Follows}

-- the first node, or one of a smaller type
abbrev pub IsFound : (ℕ → Node) → ℕ → ℕ → Type 0
IsFound g first k = (k ≡ first) ⊎ IsPart g first k

-- a node that isn't the second, and all to which it leads is marked
pub record IsDone (g : ℕ → Node) (second : ℕ) (seen : List Bool) (k : ℕ) : Type 0 where
  pub other : k ≡ second → ⊥
  pub marks : Marks (is_marked seen) (g k)

-- a search that is through with so many nodes of the queue
pub record Searched (g : ℕ → Node) (n first second : ℕ) (seen : List Bool) (queue : List ℕ) (index : ℕ) : Type 0 where
  pub sized : length seen ≡ n
  pub kept : Kept seen queue
  pub parts : All (IsFound g first) queue
  pub start : is_marked seen first ≡ true
  pub done : (k : ℕ) → k < index → IsDone g second seen (get_or queue k 0)
  pub within : index ≤ length queue

pub marked-set : (seen : List Bool) (k : ℕ) → k < length seen → is_marked (set seen k true) k ≡ true
marked-set seen k h = get_or-set_same seen k true false h

pub marked-more : (seen : List Bool) (k j : ℕ) → k < length seen → is_marked seen j ≡ true → is_marked (set seen k true) j ≡ true
marked-more seen k j h m = go (cases_eq j k)
  where
    go : (j ≡ k) ⊎ (j ≡ k → ⊥) → is_marked (set seen k true) j ≡ true
    go (inl e) = ap (is_marked (set seen k true)) e ∙ marked-set seen k h
    go (inr d) = get_or-set_other seen k j true false d ∙ m

marks-more : (seen : List Bool) (k : ℕ) → k < length seen → (x : Node) → Marks (is_marked seen) x → Marks (is_marked (set seen k true)) x
marks-more seen k h Free m = tt
marks-more seen k h (Leaf w) m = tt
marks-more seen k h (Apply l r) m = (marked-more seen k l h m.0, marked-more seen k r h m.1)
marks-more seen k h (Same j) m = marked-more seen k j h m

kept-push : (seen : List Bool) (queue : List ℕ) (k : ℕ) → k < length seen → Kept seen queue → Kept (set seen k true) (queue ++ k ∷ [])
kept-push seen queue k h kept = record {
  marked = All-push (λ q. (q < length (set seen k true)) × (is_marked (set seen k true) q ≡ true)) queue k
      (λ i d l. let m = kept.marked i d l in (omega (arith, m.0, length-set seen k true), marked-more seen k (get_or queue i d) h m.1))
      (omega (arith, h, length-set seen k true), marked-set seen k h);
  queued = λ j m. go j m (cases_eq j k);
}
  where
    go : (j : ℕ) → is_marked (set seen k true) j ≡ true → (j ≡ k) ⊎ (j ≡ k → ⊥) → Contains (queue ++ k ∷ []) j
    go j m (inl e) = subst (Contains (queue ++ k ∷ [])) (sym e) (Contains-push queue k)
    go j m (inr d) = Contains-append_left queue (k ∷ []) j (kept.queued j (sym (get_or-set_other seen k j true false d) ∙ m))

kept-again : (seen : List Bool) (queue : List ℕ) (k : ℕ) → k < length seen → is_marked seen k ≡ true → Kept seen queue → Kept (set seen k true) queue
kept-again seen queue k h m kept = record {
  marked = λ i d l. let m = kept.marked i d l in (omega (arith, m.0, length-set seen k true), marked-more seen k (get_or queue i d) h m.1);
  queued = λ j p. go j p (cases_eq j k);
}
  where
    go : (j : ℕ) → is_marked (set seen k true) j ≡ true → (j ≡ k) ⊎ (j ≡ k → ⊥) → Contains queue j
    go j p (inl e) = subst (Contains queue) (sym e) (kept.queued k m)
    go j p (inr d) = kept.queued j (sym (get_or-set_other seen k j true false d) ∙ p)

pub kept-note : (seen : List Bool) (queue : List ℕ) (k : ℕ) → k < length seen → Kept seen queue → Kept (set seen k true) (queue_after seen queue k)
kept-note seen queue k h kept = go (is_marked seen k) refl
  where
    go : (b : Bool) → is_marked seen k ≡ b → Kept (set seen k true) (cond b queue (queue ++ k ∷ []))
    go true e = kept-again seen queue k h e kept
    go false e = kept-push seen queue k h kept

-- what was not yet looked at, in marks and in the queue
pub count-note : (seen : List Bool) (queue : List ℕ) (k : ℕ) → k < length seen → unmarked (set seen k true) + length (queue_after seen queue k) ≡ unmarked seen + length queue
count-note seen queue k h = go (is_marked seen k) refl
  where
    moved : unmarked (set seen k true) + cond {A = ℕ} (not (is_marked seen k)) 1 0 ≡ unmarked seen + 0
    moved = sum_by-set (λ b. cond {A = ℕ} (not b) 1 0) seen k true false h

    go : (b : Bool) → is_marked seen k ≡ b → unmarked (set seen k true) + length (cond b queue (queue ++ k ∷ [])) ≡ unmarked seen + length queue
    go true e = let m : unmarked (set seen k true) + 0 ≡ unmarked seen + 0 = ap (λ b. unmarked (set seen k true) + cond {A = ℕ} (not b) 1 0) (sym e) ∙ moved in omega (arith, m)
    go false e = let m : unmarked (set seen k true) + 1 ≡ unmarked seen + 0 = ap (λ b. unmarked (set seen k true) + cond {A = ℕ} (not b) 1 0) (sym e) ∙ moved in omega (arith, m, length-append queue (k ∷ []))

-- the queue only grows
pub queue-kept : (seen : List Bool) (queue : List ℕ) (k i : ℕ) → i < length queue → get_or (queue_after seen queue k) i 0 ≡ get_or queue i 0
queue-kept seen queue k i h = go (is_marked seen k)
  where
    go : (b : Bool) → get_or (cond b queue (queue ++ k ∷ [])) i 0 ≡ get_or queue i 0
    go true = refl
    go false = get_or_append_left queue (k ∷ []) 0 i h

pub queue-longer : (seen : List Bool) (queue : List ℕ) (k : ℕ) → length queue ≤ length (queue_after seen queue k)
queue-longer seen queue k = go (is_marked seen k)
  where
    go : (b : Bool) → length queue ≤ length (cond b queue (queue ++ k ∷ []))
    go true = omega arith
    go false = omega (arith, length-append queue (k ∷ []))

parts-note : (g : ℕ → Node) (first : ℕ) (seen : List Bool) (queue : List ℕ) (k : ℕ) → All (IsFound g first) queue → IsFound g first k → All (IsFound g first) (queue_after seen queue k)
parts-note g first seen queue k parts part = go (is_marked seen k)
  where
    go : (b : Bool) → All (IsFound g first) (cond b queue (queue ++ k ∷ []))
    go true = parts
    go false = All-push (IsFound g first) queue k parts part

done-more : (g : ℕ → Node) (second : ℕ) (seen : List Bool) (k j : ℕ) → k < length seen → IsDone g second seen j → IsDone g second (set seen k true) j
done-more g second seen k j h d = record { other = d.other; marks = marks-more seen k h (g j) d.marks }

pub searched-note : (g : ℕ → Node) (n first second : ℕ) (seen : List Bool) (queue : List ℕ) (index k : ℕ)
    → Searched g n first second seen queue index → k < n → IsFound g first k → Searched g n first second (set seen k true) (queue_after seen queue k) index
searched-note g n first second seen queue index k s h part =
    let in' : k < length seen = omega (arith, h, s.sized) in
    record {
      sized = length-set seen k true ∙ s.sized;
      kept = kept-note seen queue k in' s.kept;
      parts = parts-note g first seen queue k s.parts part;
      start = marked-more seen k first in' s.start;
      done = λ i l. subst (IsDone g second (set seen k true)) (sym (queue-kept seen queue k i (omega (arith, l, s.within)))) (done-more g second seen k (get_or queue i 0) in' (s.done i l));
      within = omega (arith, s.within, queue-longer seen queue k);
    }

-- the start
pub searched-first : (g : ℕ → Node) (n first second : ℕ) (seen : List Bool) → length seen ≡ n → IsClear seen → first < n → Searched g n first second (set seen first true) (queue_after seen [] first) 0
searched-first g n first second seen sized clear h =
    let in' : first < length seen = omega (arith, h, sized) in
    record {
      sized = length-set seen first true ∙ sized;
      kept = kept-note seen [] first in' (record { marked = λ k d l. absurd (omega (arith, l)); queued = λ k m. absurd (let c : true ≡ false = sym m ∙ clear k in cc) });
      parts = parts-note g first seen [] first (λ k d l. absurd (omega (arith, l))) (inl refl);
      start = marked-set seen first in';
      done = λ k l. absurd (omega (arith, l));
      within = omega arith;
    }

-- the end
pub searched-all : (g : ℕ → Node) (n first second : ℕ) (seen : List Bool) (queue : List ℕ) (index : ℕ) → Searched g n first second seen queue index → length queue ≤ index → IsApart g first second
searched-all g n first second seen queue index s all = record {
  marks = is_marked seen;
  first_in = s.start;
  second_out = out (is_marked seen second) refl;
  closed = λ k m. subst (λ j. Marks (is_marked seen) (g j)) (found k (s.kept.queued k m)) (s.done (s.kept.queued k m).0 (omega (arith, (s.kept.queued k m).1, all))).marks;
}
  where
    found : (k : ℕ) (c : Contains queue k) → get_or queue c.0 0 ≡ k
    found k c = any queue c.0 c.1 ∙ c.2
      where
        any : (xs : List ℕ) (i : ℕ) → i < length xs → get_or xs i 0 ≡ get_or xs i k
        any [] i h = absurd (omega (arith, h))
        any (x ∷ xs) zero h = refl
        any (x ∷ xs) (suc i) h = any xs i (omega (arith, h))

    out : (b : Bool) → is_marked seen second ≡ b → is_marked seen second ≡ false
    out true e = let c = s.kept.queued second e in absurd ((s.done c.0 (omega (arith, c.1, all))).other (found second c))
    out false e = e

-- one more node of the queue is done
pub searched-next : (g : ℕ → Node) (n first second : ℕ) (seen : List Bool) (queue : List ℕ) (index : ℕ) → Searched g n first second seen queue index → index < length queue
    → IsDone g second seen (get_or queue index 0) → Searched g n first second seen queue (index + 1)
searched-next g n first second seen queue index s h d = record {
  sized = s.sized;
  kept = s.kept;
  parts = s.parts;
  start = s.start;
  done = λ k l. go k (cases_eq k index) l;
  within = omega (arith, h);
}
  where
    go : (k : ℕ) → (k ≡ index) ⊎ (k ≡ index → ⊥) → k < index + 1 → IsDone g second seen (get_or queue k 0)
    go k (inl e) l = subst (λ j. IsDone g second seen (get_or queue j 0)) (sym e) d
    go k (inr ne) l = s.done k (omega (arith, l, ne))

-- to what a node leads
pub found-left : (g : ℕ → Node) (first k l r : ℕ) → IsFound g first k → g k ≡ Apply l r → IsFound g first l
found-left g first k l r f e = inr (λ v s. go v s f (subst (Says v (v k)) e (s k)))
  where
    go : (v : ℕ → Ty) → Solves g v → IsFound g first k → Says v (v k) (Apply l r) → size (v l) < size (v first)
    go v s (inl p) a = omega (arith, ap size a, ap (λ j. size (v j)) p)
    go v s (inr p) a = omega (arith, ap size a, p v s)

pub found-right : (g : ℕ → Node) (first k l r : ℕ) → IsFound g first k → g k ≡ Apply l r → IsFound g first r
found-right g first k l r f e = inr (λ v s. go v s f (subst (Says v (v k)) e (s k)))
  where
    go : (v : ℕ → Ty) → Solves g v → IsFound g first k → Says v (v k) (Apply l r) → size (v r) < size (v first)
    go v s (inl p) a = omega (arith, ap size a, ap (λ j. size (v j)) p)
    go v s (inr p) a = omega (arith, ap size a, p v s)

pub found-same : (g : ℕ → Node) (first k j : ℕ) → IsRoot (g first) → IsFound g first k → g k ≡ Same j → IsFound g first j
found-same g first k j root (inl p) e = absurd (subst IsRoot (ap g (sym p) ∙ e) root)
found-same g first k j root (inr p) e = inr (λ v s. omega (arith, ap size (subst (Says v (v k)) e (s k)), p v s))

pub found-second : (g : ℕ → Node) (first second k : ℕ) → (first ≡ second → ⊥) → IsFound g first k → k ≡ second → IsPart g first second
found-second g first second k distinct (inl p) e = absurd (distinct (sym p ∙ e))
found-second g first second k distinct (inr p) e = subst (IsPart g first) e p

-- one more node of the queue is through, once all to which it leads is noted
pub searched-follow : (g : ℕ → Node) (n first second : ℕ) (seen seen' : List Bool) (queue queue' : List ℕ) (index k : ℕ) (x : Node)
    → Searched g n first second seen queue index → index < length queue → k ≡ get_or queue index 0 → (k ≡ second → ⊥) → g k ≡ x → IsRoot (g first)
    → LeadsBelow n x → Follows x seen queue seen' queue' → Searched g n first second seen' queue' (index + 1)
searched-follow g n first second seen seen' queue queue' index k x s h at other e root below f = go x e below f
  where
    found : IsFound g first k
    found = subst (IsFound g first) (sym at) (s.parts index 0 h)

    step : (seen' : List Bool) (queue' : List ℕ) → Searched g n first second seen' queue' index → length queue ≤ length queue' → get_or queue' index 0 ≡ k → Marks (is_marked seen') (g k) → Searched g n first second seen' queue' (index + 1)
    step seen' queue' t longer same m = searched-next g n first second seen' queue' index t (omega (arith, h, longer))
        (record { other = λ p. other (sym same ∙ p); marks = subst (λ j. Marks (is_marked seen') (g j)) (sym same) m })

    both : (seen'' : List Bool) (queue'' : List ℕ) → seen'' ≡ seen' → queue'' ≡ queue' → Searched g n first second seen'' queue'' (index + 1) → Searched g n first second seen' queue' (index + 1)
    both seen'' queue'' a b t = subst (λ q. Searched g n first second seen' q (index + 1)) b (subst (λ m. Searched g n first second m queue'' (index + 1)) a t)

    go : (x : Node) → g k ≡ x → LeadsBelow n x → Follows x seen queue seen' queue' → Searched g n first second seen' queue' (index + 1)
    go Free e below f = both seen queue (sym f.0) (sym f.1) (step seen queue s (omega arith) (sym at) (subst (Marks (is_marked seen)) (sym e) tt))
    go (Leaf w) e below f = both seen queue (sym f.0) (sym f.1) (step seen queue s (omega arith) (sym at) (subst (Marks (is_marked seen)) (sym e) tt))
    go (Apply l r) e below f =
        let seen1 = set seen l true in
        let queue1 = queue_after seen queue l in
        let seen2 = set seen1 r true in
        let queue2 = queue_after seen1 queue1 r in
        let one = searched-note g n first second seen queue index l s below.0 (found-left g first k l r found e) in
        let two = searched-note g n first second seen1 queue1 index r one below.1 (found-right g first k l r found e) in
        let longer : length queue ≤ length queue1 = queue-longer seen queue l in
        let longest : length queue1 ≤ length queue2 = queue-longer seen1 queue1 r in
        let lin : l < length seen = omega (arith, below.0, s.sized) in
        let rin : r < length seen1 = omega (arith, below.1, one.sized) in
        both seen2 queue2 (sym f.0) (sym f.1)
        (step seen2 queue2 two (omega (arith, longer, longest))
        (queue-kept seen1 queue1 r index (omega (arith, h, longer)) ∙ queue-kept seen queue l index h ∙ sym at)
        (subst (Marks (is_marked seen2)) (sym e) (marked-more seen1 r l rin (marked-set seen l lin), marked-set seen1 r rin)))
    go (Same j) e below f =
        let seen1 = set seen j true in
        let queue1 = queue_after seen queue j in
        let one = searched-note g n first second seen queue index j s below (found-same g first k j root found e) in
        both seen1 queue1 (sym f.0) (sym f.1)
        (step seen1 queue1 one (queue-longer seen queue j) (queue-kept seen queue j index h ∙ sym at)
        (subst (Marks (is_marked seen1)) (sym e) (marked-set seen j (omega (arith, below, s.sized)))))

-- what was not yet looked at stays as much
pub count-follow : (seen seen' : List Bool) (queue queue' : List ℕ) (x : Node) → LeadsBelow (length seen) x → Follows x seen queue seen' queue' → unmarked seen' + length queue' ≡ unmarked seen + length queue
count-follow seen seen' queue queue' Free b f = ap₂ (λ (m : List Bool) (q : List ℕ). unmarked m + length q) f.0 f.1
count-follow seen seen' queue queue' (Leaf w) b f = ap₂ (λ (m : List Bool) (q : List ℕ). unmarked m + length q) f.0 f.1
count-follow seen seen' queue queue' (Apply l r) b f =
    ap₂ (λ (m : List Bool) (q : List ℕ). unmarked m + length q) f.0 f.1
    ∙ count-note (set seen l true) (queue_after seen queue l) r (omega (arith, b.1, length-set seen l true)) ∙ count-note seen queue l b.0
count-follow seen seen' queue queue' (Same j) b f = ap₂ (λ (m : List Bool) (q : List ℕ). unmarked m + length q) f.0 f.1 ∙ count-note seen queue j b

-- the marked nodes are those of the queue, whether a note succeeds or not
pub kept-noted : {A E : Type 0} (r : Result A E) (seen seen' : List Bool) (queue queue' : List ℕ) (k : ℕ) → k < length seen → Kept seen queue → OnOk r (seen' ≡ set seen k true) → OnOk r (queue' ≡ queue_after seen queue k)
    → OnErr r (seen' ≡ seen) → OnErr r (queue' ≡ queue) → Kept seen' queue'
kept-noted (Ok u) seen seen' queue queue' k h kept a b p q = subst (λ m. Kept m queue') (sym a) (subst (Kept (set seen k true)) (sym b) (kept-note seen queue k h kept))
kept-noted (Err e) seen seen' queue queue' k h kept a b p q = subst (λ m. Kept m queue') (sym p) (subst (Kept seen) (sym q) kept)

-- the start, as the queue and the marks are after a first note
pub searched-start : (g : ℕ → Node) (n first second : ℕ) (seen seen' : List Bool) (queue queue' : List ℕ) → length seen ≡ n → IsClear seen → queue ≡ [] → first < n → seen' ≡ set seen first true → queue' ≡ queue_after seen queue first → Searched g n first second seen' queue' 0
searched-start g n first second seen seen' queue queue' sized clear none h a b =
    subst (λ m. Searched g n first second m queue' 0) (sym a)
    (subst (λ q. Searched g n first second (set seen first true) q 0) (sym (b ∙ ap (λ q. queue_after seen q first) none)) (searched-first g n first second seen sized clear h))

-- and where it succeeds
pub Kept-moved : (seen seen' : List Bool) (queue queue' : List ℕ) (k : ℕ) → k < length seen → Kept seen queue → seen' ≡ set seen k true → queue' ≡ queue_after seen queue k → Kept seen' queue'
Kept-moved seen seen' queue queue' k h kept a b = subst (λ m. Kept m queue') (sym a) (subst (Kept (set seen k true)) (sym b) (kept-note seen queue k h kept))

-- the item at a place, whatever stands for a missing one
pub get_or-any : (xs : List ℕ) (i d e : ℕ) → i < length xs → get_or xs i d ≡ get_or xs i e
get_or-any [] i d e h = absurd (omega (arith, h))
get_or-any (x ∷ xs) zero d e h = refl
get_or-any (x ∷ xs) (suc i) d e h = get_or-any xs i d e (omega (arith, h))

-- the queue only grows
pub longer-follow : (seen seen' : List Bool) (queue queue' : List ℕ) (x : Node) → Follows x seen queue seen' queue' → length queue ≤ length queue'
longer-follow seen seen' queue queue' Free f = omega (arith, ap length f.1)
longer-follow seen seen' queue queue' (Leaf w) f = omega (arith, ap length f.1)
longer-follow seen seen' queue queue' (Apply l r) f = omega (arith, ap length f.1, queue-longer seen queue l, queue-longer (set seen l true) (queue_after seen queue l) r)
longer-follow seen seen' queue queue' (Same j) f = omega (arith, ap length f.1, queue-longer seen queue j)
