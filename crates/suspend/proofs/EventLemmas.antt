-- What a store knows of its keys, through the events of its log and through what happens to the heap.
use Rattle.std.proofs.Common.{◌≡◌, ℕ, suc, ◌+◌, ◌⊎◌, inl, inr, Bool, true, false, cond, ◌||◌, ◌&&◌, not, nat_eq, List, [], ◌∷◌, ◌++◌, map, filter, length, drop, refl, sym, ap, ◌∙◌, subst, Some, None, if◌then◌else◌, arith, length-append}
use Rattle.std.proofs.lemmas.Bool.{eqb-true, eqb-false}
use Rattle.level_terms.specs.declared.node.Change.{Change}
use Rattle.level_terms.specs.Graph.{Graph, Assigned}
use Rattle.level_terms.specs.Reading.{assigned_term}
use Rattle.level_terms.specs.Sound.{IsSound}
use Rattle.level_terms.specs.Growth.{Grows, changes_of}
use Rattle.level_terms.proofs.GrowthLemmas.{changes-length}
use Rattle.ref_terms.specs.terms.Term.{At, Var}
use Rattle.ref_terms.specs.search.Used.{Every}
use Rattle.ref_terms.specs.search.Waking.{IsQuiet}
use Rattle.suspend.specs.declared.constraint.Constraint.{Constraint}
use Rattle.suspend.specs.declared.constraint.Fired.{Fired}
use Rattle.suspend.specs.Store.{Event, joins, leaves, fires, heads, becomes, waits, sleeps, doubts, rests, added, moved_row, rows, waiting, stored, has, has_row, HasAllRows}
use Rattle.suspend.specs.Keyed.{keys_read, awake_in, first_awake, KeysValid, IsKeyed, Keyed, Stirred, AllStirred}
use Rattle.suspend.proofs.KeyLemmas.{quiet-sleeps, quiet-more, keyed-more, keyed-assigned, keyed-renamed, keyed-begun}

pub every-weaker : {A : Type 0} (P Q : A → Type 0) → ((a : A) → P a → Q a) → (xs : List A) → Every P xs → Every Q xs
every-weaker P Q h [] w = tt
every-weaker P Q h (x ∷ xs) w = (h x w.0, every-weaker P Q h xs w.1)

pub every-both : {A : Type 0} (P Q R : A → Type 0) → ((a : A) → P a → Q a → R a) → (xs : List A) → Every P xs → Every Q xs → Every R xs
every-both P Q R h [] u w = tt
every-both P Q R h (x ∷ xs) u w = (h x u.0 w.0, every-both P Q R h xs u.1 w.1)

pub every-last : {A : Type 0} (P : A → Type 0) (xs : List A) (y : A) → Every P xs → P y → Every P (xs ++ y ∷ [])
every-last P [] y w u = (u, tt)
every-last P (x ∷ xs) y w u = (w.0, every-last P xs y w.1 u)

pub every-filtered : {A : Type 0} (P Q : A → Type 0) (f : A → Bool) → ((a : A) → f a ≡ true → P a → Q a) → (xs : List A) → Every P xs → Every Q (filter f xs)
every-filtered P Q f h [] w = tt
every-filtered P Q f h (x ∷ xs) w = go (f x) refl (every-filtered P Q f h xs w.1)
  where
    go : (b : Bool) → f x ≡ b → Every Q (filter f xs) → Every Q (cond b (x ∷ filter f xs) (filter f xs))
    go true e u = (h x e w.0, u)
    go false e u = u

pub nat-eq-itself : (n : ℕ) → nat_eq n n ≡ true
nat-eq-itself n = go (nat_eq n n) refl
  where
    go : (b : Bool) → nat_eq n n ≡ b → nat_eq n n ≡ true
    go true e = e
    go false e = absurd (eqb-false n n e refl)

pub or-later : (a b : Bool) → b ≡ true → (a || b) ≡ true
or-later true b e = refl
or-later false b e = e

rows-same : (rs : List (ℕ × ℕ)) → HasAllRows rs rs
rows-same rs v n e = e

-- numbers and rows of the others stay
pub not-this : (m n : ℕ) → not (nat_eq m n) ≡ true → nat_eq n m ≡ false
not-this m n e = go (nat_eq n m) refl
  where
    go : (b : Bool) → nat_eq n m ≡ b → nat_eq n m ≡ false
    go true k = absurd (let z : true ≡ false = sym e ∙ ap not (ap (λ (x : ℕ). nat_eq m x) (eqb-true n m k) ∙ nat-eq-itself m) in cc)
    go false k = k

pub other-number : (n m : ℕ) (ns : List ℕ) → nat_eq n m ≡ false → has ns m ≡ true → has (filter (λ k. not (nat_eq k n)) ns) m ≡ true
other-number n m [] e h = h
other-number n m (k ∷ ns) e h = go (nat_eq m k) refl (nat_eq k n) refl (other-number n m ns e)
  where
    go : (a : Bool) → nat_eq m k ≡ a → (b : Bool) → nat_eq k n ≡ b → (has ns m ≡ true → has (filter (λ x. not (nat_eq x n)) ns) m ≡ true) → has (cond (not b) (k ∷ filter (λ x. not (nat_eq x n)) ns) (filter (λ x. not (nat_eq x n)) ns)) m ≡ true
    go true p true q rest = absurd (let z : true ≡ false = sym (nat-eq-itself n) ∙ ap (nat_eq n) (sym (eqb-true m k p ∙ eqb-true k n q)) ∙ e in cc)
    go true p false q rest = ap (λ (x : Bool). x || has (filter (λ y. not (nat_eq y n)) ns) m) p
    go false p true q rest = rest (sym (ap (λ (x : Bool). x || has ns m) p) ∙ h)
    go false p false q rest = or-later (nat_eq m k) (has (filter (λ x. not (nat_eq x n)) ns) m) (rest (sym (ap (λ (x : Bool). x || has ns m) p) ∙ h))

and-second : (a b : Bool) → (a && b) ≡ true → b ≡ true
and-second true b e = e
and-second false b e = absurd (let z : false ≡ true = e in cc)

other-row : (n v m : ℕ) (rs : List (ℕ × ℕ)) → nat_eq n m ≡ false → has_row rs v m ≡ true → has_row (filter (λ r. not (nat_eq r.1 n)) rs) v m ≡ true
other-row n v m [] e h = h
other-row n v m (r ∷ rs) e h = go (nat_eq v r.0 && nat_eq m r.1) refl (nat_eq r.1 n) refl (other-row n v m rs e)
  where
    go : (a : Bool) → (nat_eq v r.0 && nat_eq m r.1) ≡ a → (b : Bool) → nat_eq r.1 n ≡ b → (has_row rs v m ≡ true → has_row (filter (λ x. not (nat_eq x.1 n)) rs) v m ≡ true)
        → has_row (cond (not b) (r ∷ filter (λ x. not (nat_eq x.1 n)) rs) (filter (λ x. not (nat_eq x.1 n)) rs)) v m ≡ true
    go true p true q rest = absurd (let z : true ≡ false = sym (nat-eq-itself n) ∙ ap (nat_eq n) (sym (eqb-true m r.1 (and-second (nat_eq v r.0) (nat_eq m r.1) p) ∙ eqb-true r.1 n q)) ∙ e in cc)
    go true p false q rest = ap (λ (x : Bool). x || has_row (filter (λ y. not (nat_eq y.1 n)) rs) v m) p
    go false p true q rest = rest (sym (ap (λ (x : Bool). x || has_row rs v m) p) ∙ h)
    go false p false q rest = or-later (nat_eq v r.0 && nat_eq m r.1) (has_row (filter (λ x. not (nat_eq x.1 n)) rs) v m) (rest (sym (ap (λ (x : Bool). x || has_row rs v m) p) ∙ h))

-- nothing is assigned where the trail stays
length-none : {A : Type 0} (xs : List A) → length xs ≡ 0 → xs ≡ []
length-none [] e = refl
length-none (x ∷ xs) e = absurd (let z : suc (length xs) ≡ 0 = e in omega (arith, z))

pub nothing-assigned : (g h : Graph) (noted : List Change) (w : Grows g h noted noted) → w.new_assigned ≡ []
nothing-assigned g h noted w =
    let sizes : length noted ≡ length noted + length (changes_of w.new_assigned) = ap length w.trail ∙ length-append noted (changes_of w.new_assigned) in
    let none : length w.new_assigned ≡ 0 = omega (arith, sizes, changes-length w.new_assigned) in
    length-none w.new_assigned none

drop-all : {A : Type 0} (xs ys : List A) → drop (length xs) (xs ++ ys) ≡ ys
drop-all [] ys = refl
drop-all (x ∷ xs) ys = drop-all xs ys

-- a growth puts on the trail what the trail has gained
pub growth-gains : (g h : Graph) (s t : List Change) → Grows g h s t → Grows g h [] (drop (length s) t)
growth-gains g h s t w = record {
  new_nodes = w.new_nodes;
  new_depths = w.new_depths;
  new_assigned = w.new_assigned;
  nodes = w.nodes;
  depths = w.depths;
  assigned = w.assigned;
  trail = ap (drop (length s)) w.trail ∙ drop-all s (changes_of w.new_assigned);
}

pub in-later : (m : ℕ) (ns ms : List ℕ) → has ms m ≡ true → has (ns ++ ms) m ≡ true
in-later m [] ms e = e
in-later m (n ∷ ns) ms e = or-later (nat_eq m n) (has (ns ++ ms) m) (in-later m ns ms e)

module _ (X : Type 0) where
  abbrev Kept : Graph → List (ℕ × ℕ) → List ℕ → ℕ × Constraint X → Type 0
  Kept g rs ns e = IsKeyed g rs ns e.0 e.1.names e.1.keys

  pub after-joining : (g : Graph) (log : List (Event X)) (c : Constraint X) → KeysValid g c.names c.keys → Keyed log g → Keyed (joins c ∷ log) g
  after-joining g log c valid w = every-last (Kept g (rows log) (suc (added log) ∷ waiting log)) (stored log) (suc (added log), c)
      (every-weaker (Kept g (rows log) (waiting log)) (Kept g (rows log) (suc (added log) ∷ waiting log))
      (λ e u. keyed-more g (rows log) (rows log) (waiting log) (suc (added log) ∷ waiting log) e.0 e.1.names e.1.keys (rows-same (rows log)) (λ z. or-later (nat_eq e.0 (suc (added log))) (has (waiting log) e.0) z) u) (stored log) w)
      (valid, inl (ap (λ (b : Bool). b || has (waiting log) (suc (added log))) (nat-eq-itself (suc (added log)))))

  pub after-leaving : (g : Graph) (log : List (Event X)) (n : ℕ) → Keyed log g → Keyed (leaves n ∷ log) g
  after-leaving g log n w = every-filtered (Kept g (rows log) (waiting log)) (Kept g (filter (λ r. not (nat_eq r.1 n)) (rows log)) (filter (λ m. not (nat_eq m n)) (waiting log))) (λ e. not (nat_eq e.0 n))
      (λ e apart u. (u.0, go e (not-this e.0 n apart) u.1)) (stored log) w
    where
      go : (e : ℕ × Constraint X) → nat_eq n e.0 ≡ false → (has (waiting log) e.0 ≡ true) ⊎ IsQuiet (λ v. has_row (rows log) v e.0) (keys_read g e.1.keys)
          → (has (filter (λ m. not (nat_eq m n)) (waiting log)) e.0 ≡ true) ⊎ IsQuiet (λ v. has_row (filter (λ r. not (nat_eq r.1 n)) (rows log)) v e.0) (keys_read g e.1.keys)
      go e apart (inl z) = inl (other-number n e.0 (waiting log) apart z)
      go e apart (inr z) = inr (quiet-more (λ v. has_row (rows log) v e.0) (λ v. has_row (filter (λ r. not (nat_eq r.1 n)) (rows log)) v e.0) (λ v k. other-row n v e.0 (rows log) apart k) (keys_read g e.1.keys) z)

  pub after-firing : (g : Graph) (log : List (Event X)) (f : Fired) → Keyed log g → Keyed (fires f ∷ log) g
  after-firing g log f w = w

  pub after-row : (g : Graph) (log : List (Event X)) (v n : ℕ) → Keyed log g → Keyed (heads v n ∷ log) g
  after-row g log v n w = every-weaker (Kept g (rows log) (waiting log)) (Kept g ((v, n) ∷ rows log) (waiting log))
      (λ e u. keyed-more g (rows log) ((v, n) ∷ rows log) (waiting log) (waiting log) e.0 e.1.names e.1.keys (λ x m z. or-later (nat_eq x v && nat_eq m n) (has_row (rows log) x m) z) (λ z. z) u) (stored log) w

  pub after-waiting : (g : Graph) (log : List (Event X)) (n : ℕ) → Keyed log g → Keyed (waits n ∷ log) g
  after-waiting g log n w = every-weaker (Kept g (rows log) (waiting log)) (Kept g (rows log) (n ∷ waiting log))
      (λ e u. keyed-more g (rows log) (rows log) (waiting log) (n ∷ waiting log) e.0 e.1.names e.1.keys (rows-same (rows log)) (λ z. or-later (nat_eq e.0 n) (has (waiting log) e.0) z) u) (stored log) w

  pub after-looking : (g : Graph) (log : List (Event X)) (n : ℕ) → Every (λ e. nat_eq n e.0 ≡ true → IsQuiet (λ v. has_row (rows log) v e.0) (keys_read g e.1.keys)) (stored log) → Keyed log g → Keyed (sleeps n ∷ log) g
  after-looking g log n quiet w = every-both (λ e. nat_eq n e.0 ≡ true → IsQuiet (λ v. has_row (rows log) v e.0) (keys_read g e.1.keys)) (Kept g (rows log) (waiting log)) (Kept g (rows log) (filter (λ m. not (nat_eq m n)) (waiting log)))
      (λ e a u. (u.0, go e a (nat_eq n e.0) refl u.1)) (stored log) quiet w
    where
      go : (e : ℕ × Constraint X) → (nat_eq n e.0 ≡ true → IsQuiet (λ v. has_row (rows log) v e.0) (keys_read g e.1.keys)) → (b : Bool) → nat_eq n e.0 ≡ b
          → (has (waiting log) e.0 ≡ true) ⊎ IsQuiet (λ v. has_row (rows log) v e.0) (keys_read g e.1.keys)
          → (has (filter (λ m. not (nat_eq m n)) (waiting log)) e.0 ≡ true) ⊎ IsQuiet (λ v. has_row (rows log) v e.0) (keys_read g e.1.keys)
      go e a true k z = inr (a k)
      go e a false k (inl z) = inl (other-number n e.0 (waiting log) k z)
      go e a false k (inr z) = inr z

  pub after-doubting : (g : Graph) (log : List (Event X)) → Keyed log g → Keyed (doubts ∷ log) g
  after-doubting g log w = every-weaker (Kept g (rows log) (waiting log)) (Kept g (rows log) (map (λ e. e.0) (stored log) ++ waiting log))
      (λ e u. keyed-more g (rows log) (rows log) (waiting log) (map (λ z. z.0) (stored log) ++ waiting log) e.0 e.1.names e.1.keys (rows-same (rows log)) (in-later e.0 (map (λ z. z.0) (stored log)) (waiting log)) u) (stored log) w

  pub after-resting : (g : Graph) (log : List (Event X)) → Every (λ e. IsQuiet (λ v. has_row (rows log) v e.0) (keys_read g e.1.keys)) (stored log) → Keyed log g → Keyed (rests ∷ log) g
  after-resting g log quiet w = every-both (λ e. IsQuiet (λ v. has_row (rows log) v e.0) (keys_read g e.1.keys)) (Kept g (rows log) (waiting log)) (Kept g (rows log) []) (λ e a u. (u.0, inr a)) (stored log) quiet w

  pub after-assigning : (g : Graph) (a : Assigned) (log : List (Event X)) → Stirred (rows log) (waiting log) a.variable → Keyed log g → Keyed log (record g { assigned = a ∷ g.assigned })
  after-assigning g a log stirred w = every-weaker (Kept g (rows log) (waiting log)) (Kept (record g { assigned = a ∷ g.assigned }) (rows log) (waiting log)) (λ e u. keyed-assigned g a (rows log) (waiting log) e.0 e.1.names e.1.keys stirred u) (stored log) w

  pub after-renaming : (g : Graph) (a : Assigned) (u : ℕ) (log : List (Event X)) → assigned_term g a ≡ At (Var u) → Keyed log g → Keyed (becomes a.variable u ∷ log) (record g { assigned = a ∷ g.assigned })
  after-renaming g a u log value w = every-weaker (Kept g (rows log) (waiting log)) (Kept (record g { assigned = a ∷ g.assigned }) (map (moved_row a.variable u) (rows log)) (waiting log))
      (λ e z. keyed-renamed g a u (rows log) (waiting log) e.0 e.1.names e.1.keys value z) (stored log) w

  -- the heap has the nodes and variables of a later one, and its own assignments
  pub after-begun : (g h : Graph) (s t : List Change) (log : List (Event X)) → IsSound g → (w : Grows g h s t) → Keyed log g → Keyed log (record h { assigned = g.assigned })
  after-begun g h s t log sound w u = every-weaker (Kept g (rows log) (waiting log)) (Kept (record h { assigned = g.assigned }) (rows log) (waiting log)) (λ e z. keyed-begun g h s t (rows log) (waiting log) e.0 e.1.names e.1.keys sound w z) (stored log) u

  all-assigned : (h : Graph) (older : List Assigned) (log : List (Event X)) → Keyed log (record h { assigned = older }) → (more : List Assigned) → AllStirred (rows log) (waiting log) more → Keyed log (record h { assigned = more ++ older })
  all-assigned h older log w [] u = w
  all-assigned h older log w (a ∷ more) u = after-assigning (record h { assigned = more ++ older }) a log u.0 (all-assigned h older log w more u.1)

  pub after-growth : (g h : Graph) (s t : List Change) (log : List (Event X)) → IsSound g → (w : Grows g h s t) → AllStirred (rows log) (waiting log) w.new_assigned → Keyed log g → Keyed log h
  after-growth g h s t log sound w stirred u = subst (λ (x : Graph). Keyed log x) whole (all-assigned h g.assigned log (after-begun g h s t log sound w u) w.new_assigned stirred)
    where
      whole : record h { assigned = w.new_assigned ++ g.assigned } ≡ h
      whole = λ i. record h { assigned = sym w.assigned i }

  pub after-making : (g h : Graph) (noted : List Change) (log : List (Event X)) → IsSound g → Grows g h noted noted → Keyed log g → Keyed log h
  after-making g h noted log sound w u = after-growth g h noted noted log sound w (subst (λ (xs : List Assigned). AllStirred (rows log) (waiting log) xs) (sym (nothing-assigned g h noted w)) tt) u

  none-first : (g : Graph) (rs : List (ℕ × ℕ)) (ns : List ℕ) → ns ≡ [] → (es : List (ℕ × Constraint X)) → Every (Kept g rs ns) es → first_awake g es ≡ None
  none-first g rs ns e [] w = refl
  none-first g rs ns e (c ∷ cs) w = ap (λ (b : Bool). if b then Some c.0 else first_awake g cs) (go w.0.1) ∙ none-first g rs ns e cs w.1
    where
      go : (has ns c.0 ≡ true) ⊎ IsQuiet (λ v. has_row rs v c.0) (keys_read g c.1.keys) → awake_in g c.1.keys ≡ false
      go (inl z) = absurd (let k : false ≡ true = sym (ap (λ (xs : List ℕ). has xs c.0) e) ∙ z in cc)
      go (inr z) = quiet-sleeps g (λ v. has_row rs v c.0) c.1.keys z

  pub nothing-awake : (g : Graph) (log : List (Event X)) → waiting log ≡ [] → Keyed log g → first_awake g (stored log) ≡ None
  nothing-awake g log e w = none-first g (rows log) (waiting log) e (stored log) w
