-- What is to be looked at, and in what order.
use Rattle.std.proofs.Common.{◌≡◌, ℕ, suc, ◌+◌, ◌<◌, ◌≤◌, ◌⊎◌, inl, inr, Bool, true, false, cond, ◌||◌, ◌&&◌, not, nat_eq, List, [], ◌∷◌, map, filter, take, length, refl, sym, ap, ap₂, ◌∙◌, subst, Option, Some, None, if◌then◌else◌, arith, ne_eqb}
use Rattle.std.specs.List.{list_any}
use Rattle.std.specs.Prelude.{slice_index_or}
use Rattle.std.proofs.lemmas.List.{take_more, take_all}
use Rattle.std.proofs.lemmas.Bool.{eqb-true}
use Rattle.std.proofs.lemmas.List.Folds.{list_any-append}
use Rattle.level_terms.specs.Graph.{Graph}
use Rattle.level_terms.specs.Sound.{IsSound}
use Rattle.level_terms.specs.Gains.{GainsNodes}
use Rattle.ref_terms.specs.terms.Term.{Term}
use Rattle.ref_terms.specs.search.Used.{Every}
use Rattle.ref_terms.specs.search.Waking.{heading, IsQuiet}
use Rattle.suspend.specs.declared.constraint.Constraint.{Constraint}
use Rattle.suspend.specs.Store.{Event, joins, leaves, heads, waits, sleeps, rests, added, stored, stored_at, is_stored, rows, waiting, has, has_row, HasAll, IsAscending, SameStore}
use Rattle.suspend.specs.Keyed.{keys_read, awake_in, first_awake, KeysValid, IsKeyed, Keyed}
use Rattle.suspend.specs.inside.Queue.{IsLeast, Gets, Leaves}
use Rattle.suspend.specs.inside.Waking.{AreQueued, RestsAt, LooksOn, AllHead, AreHeadedBy, IsUp, IsDown}
use Rattle.suspend.proofs.KeyLemmas.{quiet-sleeps, quiet-more, keyed-more}
use Rattle.suspend.proofs.EventLemmas.{every-weaker, every-both, every-last, nat-eq-itself, or-later, other-number, after-resting}
use Rattle.suspend.proofs.LogLemmas.{numbers-ascend, later-itself, later-later}
use Rattle.suspend.proofs.AwakeLemmas.{awake-gained, all-valid}
use Rattle.suspend.proofs.LedgerLemmas.{any-without}

-- which test gives true
or-cases : (a b : Bool) → (a || b) ≡ true → (a ≡ true) ⊎ (b ≡ true)
or-cases true b e = inl refl
or-cases false b e = inr e

and-later : (a b : Bool) → (a && b) ≡ true → b ≡ true
and-later true b e = e
and-later false b e = absurd (let z : false ≡ true = e in cc)

not-true : (a : Bool) → (a ≡ true → ⊥) → a ≡ false
not-true true h = absurd (h refl)
not-true false h = refl

turned : (a b : ℕ) → nat_eq a b ≡ true → nat_eq b a ≡ true
turned a b e = ap (λ (x : ℕ). nat_eq b x) (eqb-true a b e) ∙ nat-eq-itself b

turned-apart : (a b : ℕ) → nat_eq a b ≡ false → nat_eq b a ≡ false
turned-apart a b e = not-true (nat_eq b a) (λ k. let z : false ≡ true = sym e ∙ turned b a k in cc)

pub has-filtered : (n : ℕ) (ns : List ℕ) (m : ℕ) → has (filter (λ k. not (nat_eq k n)) ns) m ≡ true → has ns m ≡ true
has-filtered n [] m e = e
has-filtered n (k ∷ ns) m e = go (nat_eq k n) (has-filtered n ns m) e
  where
    at : (has (filter (λ x. not (nat_eq x n)) ns) m ≡ true → has ns m ≡ true) → (nat_eq m k ≡ true) ⊎ (has (filter (λ x. not (nat_eq x n)) ns) m ≡ true) → (nat_eq m k || has ns m) ≡ true
    at f (inl y) = ap (λ (b : Bool). b || has ns m) y
    at f (inr y) = or-later (nat_eq m k) (has ns m) (f y)

    go : (b : Bool) → (has (filter (λ x. not (nat_eq x n)) ns) m ≡ true → has ns m ≡ true) → has (cond (not b) (k ∷ filter (λ x. not (nat_eq x n)) ns) (filter (λ x. not (nat_eq x n)) ns)) m ≡ true → (nat_eq m k || has ns m) ≡ true
    go true f z = or-later (nat_eq m k) (has ns m) (f z)
    go false f z = at f (or-cases (nat_eq m k) (has (filter (λ x. not (nat_eq x n)) ns) m) z)

-- a number that was filtered out isn't there
pub gone : (n : ℕ) (ns : List ℕ) → has (filter (λ k. not (nat_eq k n)) ns) n ≡ false
gone n [] = refl
gone n (k ∷ ns) = go (nat_eq k n) refl (gone n ns)
  where
    go : (b : Bool) → nat_eq k n ≡ b → has (filter (λ x. not (nat_eq x n)) ns) n ≡ false → has (cond (not b) (k ∷ filter (λ x. not (nat_eq x n)) ns) (filter (λ x. not (nat_eq x n)) ns)) n ≡ false
    go true e f = f
    go false e f = ap (λ (b : Bool). b || has (filter (λ x. not (nat_eq x n)) ns) n) (turned-apart k n e) ∙ f

module _ {X : Type 0} where
  -- the queue through events
  pub queued-joined : (log : List (Event X)) (c : Constraint X) (all : Bool) (q q' : List ℕ) (k : ℕ) → k ≡ suc (added log) → Gets q k q' → AreQueued log all q → AreQueued (joins c ∷ log) all q'
  queued-joined log c all q q' k at gets w n s h = go (nat_eq n (suc (added log))) refl
    where
      got : nat_eq n (suc (added log)) ≡ true → has q' n ≡ true
      got e = gets n ∙ ap (λ (b : Bool). b || has q n) (ap (λ (m : ℕ). nat_eq n m) at ∙ e)

      keeps : (all ≡ true) ⊎ (has q n ≡ true) → (all ≡ true) ⊎ (has q' n ≡ true)
      keeps (inl z) = inl z
      keeps (inr z) = inr (gets n ∙ or-later (nat_eq n k) (has q n) z)

      older : nat_eq n (suc (added log)) ≡ false → is_stored log n ≡ true
      older e = at-first (or-cases (is_stored log n) (nat_eq n (suc (added log)) || false) (sym (list_any-append (λ z. nat_eq n z.0) (stored log) ((suc (added log), c) ∷ [])) ∙ s))
        where
          at-first : (is_stored log n ≡ true) ⊎ ((nat_eq n (suc (added log)) || false) ≡ true) → is_stored log n ≡ true
          at-first (inl z) = z
          at-first (inr z) = absurd (let y : false ≡ true = sym (ap (λ (b : Bool). b || false) e) ∙ z in cc)

      go : (b : Bool) → nat_eq n (suc (added log)) ≡ b → (all ≡ true) ⊎ (has q' n ≡ true)
      go true e = inr (got e)
      go false e = keeps (w n (older e) (sym (ap (λ (b : Bool). b || has (waiting log) n) e) ∙ h))

  pub queued-more : (log : List (Event X)) (all : Bool) (q q' : List ℕ) (k : ℕ) → Gets q k q' → AreQueued log all q → AreQueued log all q'
  queued-more log all q q' k gets w n s h = go (w n s h)
    where
      go : (all ≡ true) ⊎ (has q n ≡ true) → (all ≡ true) ⊎ (has q' n ≡ true)
      go (inl z) = inl z
      go (inr z) = inr (gets n ∙ or-later (nat_eq n k) (has q n) z)

  pub queued-left : (log : List (Event X)) (k : ℕ) (all : Bool) (q : List ℕ) → AreQueued log all q → AreQueued (leaves k ∷ log) all q
  queued-left log k all q w n s h = w n (and-later (not (nat_eq n k)) (is_stored log n) (sym (any-without (stored log) k n) ∙ s)) (has-filtered k (waiting log) n h)

  pub queued-waiting : (log : List (Event X)) (k : ℕ) (all : Bool) (q q' : List ℕ) → Gets q k q' → AreQueued log all q → AreQueued (waits k ∷ log) all q'
  queued-waiting log k all q q' gets w n s h = go (or-cases (nat_eq n k) (has (waiting log) n) h)
    where
      keeps : (all ≡ true) ⊎ (has q n ≡ true) → (all ≡ true) ⊎ (has q' n ≡ true)
      keeps (inl z) = inl z
      keeps (inr z) = inr (gets n ∙ or-later (nat_eq n k) (has q n) z)

      go : (nat_eq n k ≡ true) ⊎ (has (waiting log) n ≡ true) → (all ≡ true) ⊎ (has q' n ≡ true)
      go (inl z) = inr (gets n ∙ ap (λ (b : Bool). b || has q n) z)
      go (inr z) = keeps (w n s z)

  pub queued-all : (log : List (Event X)) (all : Bool) (q : List ℕ) → all ≡ true → AreQueued log all q
  queued-all log all q e n s h = inl e

  pub queued-settled : (log : List (Event X)) (settled all : Bool) (q : List ℕ) → all ≡ not settled → (settled ≡ true → waiting log ≡ []) → AreQueued log all q
  queued-settled log settled all q e w n s h = go settled refl
    where
      go : (b : Bool) → settled ≡ b → (all ≡ true) ⊎ (has q n ≡ true)
      go true k = absurd (let z : false ≡ true = sym (ap (λ ns. has ns n) (w k)) ∙ h in cc)
      go false k = inl (e ∙ ap not k)

  pub queued-refilled : (log : List (Event X)) (all : Bool) (q q' : List ℕ) → AreQueued log all q → HasAll q q' → (all ≡ true → (n : ℕ) → is_stored log n ≡ true → has q' n ≡ true) → AreQueued log false q'
  queued-refilled log all q q' w more refilled n s h = go (w n s h)
    where
      go : (all ≡ true) ⊎ (has q n ≡ true) → (false ≡ true) ⊎ (has q' n ≡ true)
      go (inl z) = inr (refilled z n s)
      go (inr z) = inr (more n z)

  pub queued-kept : (log : List (Event X)) (all : Bool) (q q' : List ℕ) → HasAll q q' → AreQueued log all q → AreQueued log all q'
  queued-kept log all q q' more w n s h = go (w n s h)
    where
      go : (all ≡ true) ⊎ (has q n ≡ true) → (all ≡ true) ⊎ (has q' n ≡ true)
      go (inl z) = inl z
      go (inr z) = inr (more n z)

  same-stored : (log log' : List (Event X)) → SameStore log log' → (n : ℕ) → is_stored log' n ≡ true → is_stored log n ≡ true
  same-stored log log' w n s = ap (λ es. list_any (λ e. nat_eq n e.0) es) (sym w.constraints) ∙ s

  pub queued-looked : (log log' : List (Event X)) (all : Bool) (q : List ℕ) → LooksOn log log' → AreQueued log all q → AreQueued log' all q
  queued-looked log log' all q on w n s h = w n (same-stored log log' on.same n s) (on.fewer n h)

  pub queued-down : (log : List (Event X)) (all : Bool) (q q' : List ℕ) (k : ℕ) → IsDown log k → Leaves q k q' → AreQueued log all q → AreQueued log all q'
  queued-down log all q q' k down gone w n s h = go (w n s h) (nat_eq n k) refl
    where
      both : nat_eq n k ≡ true → ⊥
      both e =
          let same = eqb-true n k e in
          let none : has (waiting log) n ≡ false = ap (has (waiting log)) same ∙ down (ap (is_stored log) (sym same) ∙ s) in
          let y : false ≡ true = sym none ∙ h in
          cc

      go : (all ≡ true) ⊎ (has q n ≡ true) → (b : Bool) → nat_eq n k ≡ b → (all ≡ true) ⊎ (has q' n ≡ true)
      go (inl z) b e = inl z
      go (inr z) true e = absurd (both e)
      go (inr z) false e = inr (gone.0 n e z)

  -- looking goes on
  pub looks-itself : (log : List (Event X)) → LooksOn log log
  looks-itself log = record {
    same = record { constraints = refl; firings_are = refl; additions = refl };
    later = later-itself log;
    rows_stay = λ v n e. e;
    fewer = λ n e. e;
  }

  pub looks-later : (a b c : List (Event X)) → LooksOn a b → LooksOn b c → LooksOn a c
  looks-later a b c u w = record {
    same = record { constraints = w.same.constraints ∙ u.same.constraints; firings_are = w.same.firings_are ∙ u.same.firings_are; additions = w.same.additions ∙ u.same.additions };
    later = later-later a b c u.later w.later;
    rows_stay = λ v n e. w.rows_stay v n (u.rows_stay v n e);
    fewer = λ n e. u.fewer n (w.fewer n e);
  }

  pub looks-heads : (log : List (Event X)) (v n : ℕ) → LooksOn log (heads v n ∷ log)
  looks-heads log v n = record {
    same = record { constraints = refl; firings_are = refl; additions = refl };
    later = record { more = heads v n ∷ []; is = refl };
    rows_stay = λ w m e. or-later (nat_eq w v && nat_eq m n) (has_row (rows log) w m) e;
    fewer = λ m e. e;
  }

  pub looks-sleeps : (log : List (Event X)) (n : ℕ) → LooksOn log (sleeps n ∷ log)
  looks-sleeps log n = record {
    same = record { constraints = refl; firings_are = refl; additions = refl };
    later = record { more = sleeps n ∷ []; is = refl };
    rows_stay = λ w m e. e;
    fewer = λ m e. has-filtered n (waiting log) m e;
  }

  pub looks-rests : (log : List (Event X)) → LooksOn log (rests ∷ log)
  looks-rests log = record {
    same = record { constraints = refl; firings_are = refl; additions = refl };
    later = record { more = rests ∷ []; is = refl };
    rows_stay = λ w m e. e;
    fewer = λ m e. absurd (let z : false ≡ true = e in cc);
  }

  pub head-row : (log : List (Event X)) (v n : ℕ) → has_row (rows (heads v n ∷ log)) v n ≡ true
  head-row log v n = ap₂ (λ (a b : Bool). (a && b) || has_row (rows log) v n) (nat-eq-itself v) (nat-eq-itself n)

  -- one more variable has a row
  pub headed-more : (log log' : List (Event X)) (n i : ℕ) (vs : List ℕ) (d : ℕ) → i < length vs → log' ≡ heads (slice_index_or vs i d) n ∷ log → AllHead log n (take i vs) → AllHead log' n (take (i + 1) vs)
  headed-more log log' n i vs d low e w =
      let stay = (looks-heads log (slice_index_or vs i d) n).rows_stay in
      let before : AllHead (heads (slice_index_or vs i d) n ∷ log) n (take i vs) =
      every-weaker (λ x. has_row (rows log) x n ≡ true) (λ x. has_row (rows (heads (slice_index_or vs i d) n ∷ log)) x n ≡ true) (λ x y. stay x n y) (take i vs) w in
      subst (λ l. AllHead l n (take (i + 1) vs)) (sym e) (subst (AllHead (heads (slice_index_or vs i d) n ∷ log) n) (sym (take_more vs i d low))
      (every-last (λ x. has_row (rows (heads (slice_index_or vs i d) n ∷ log)) x n ≡ true) (take i vs) (slice_index_or vs i d) before (head-row log (slice_index_or vs i d) n)))

  -- all have
  pub headed-slept : (log log' : List (Event X)) (n i : ℕ) (vs : List ℕ) → length vs ≤ i → AllHead log n (take i vs) → log' ≡ sleeps n ∷ log → AllHead log' n vs
  headed-slept log log' n i vs h w e = subst (λ l. AllHead l n vs) (sym e) (subst (AllHead log n) (take_all i vs h) w)

  pub down-slept : (log log' : List (Event X)) (n : ℕ) → log' ≡ sleeps n ∷ log → has (waiting log') n ≡ false
  down-slept log log' n e = ap (λ l. has (waiting l) n) e ∙ gone n (waiting log)

  pub others-slept : (log log' : List (Event X)) (k : ℕ) → log' ≡ sleeps k ∷ log → (n : ℕ) → nat_eq k n ≡ false → has (waiting log) n ≡ true → has (waiting log') n ≡ true
  others-slept log log' k e n apart h = ap (λ l. has (waiting l) n) e ∙ other-number k n (waiting log) apart h

  pub looks-slept : (log log' : List (Event X)) (k : ℕ) → log' ≡ sleeps k ∷ log → LooksOn log log'
  looks-slept log log' k e = subst (LooksOn log) (sym e) (looks-sleeps log k)

  pub looks-same : (log log' : List (Event X)) → log' ≡ log → LooksOn log log'
  looks-same log log' e = subst (LooksOn log) (sym e) (looks-itself log)

  -- the constraint of a number stands there alone
  pub known-by-number : (es : List (ℕ × Constraint X)) (n : ℕ) → IsAscending es → Every (λ e. nat_eq n e.0 ≡ true → stored_at es n ≡ Some e.1) es
  known-by-number [] n w = tt
  known-by-number (e ∷ es) n w = (here, every-both (λ later. e.0 < later.0) (λ z. nat_eq n z.0 ≡ true → stored_at es n ≡ Some z.1) (λ z. nat_eq n z.0 ≡ true → stored_at (e ∷ es) n ≡ Some z.1) past es w.0 (known-by-number es n w.1))
    where
      here : nat_eq n e.0 ≡ true → stored_at (e ∷ es) n ≡ Some e.1
      here k = ap (λ (b : Bool). cond b (Some e.1) (stored_at es n)) (turned n e.0 k)

      past : (z : ℕ × Constraint X) → e.0 < z.0 → (nat_eq n z.0 ≡ true → stored_at es n ≡ Some z.1) → nat_eq n z.0 ≡ true → stored_at (e ∷ es) n ≡ Some z.1
      past z less f k =
          let same = eqb-true n z.0 k in
          let apart : nat_eq e.0 n ≡ false = ne_eqb e.0 n (omega (arith, less, same)) in
          ap (λ (b : Bool). cond b (Some e.1) (stored_at es n)) apart ∙ f k

  -- the keys of the constraint of a number are valid
  valid-in : (g : Graph) (es : List (ℕ × Constraint X)) (n : ℕ) (c : Constraint X) → Every (λ e. KeysValid g e.1.names e.1.keys) es → stored_at es n ≡ Some c → KeysValid g c.names c.keys
  valid-in g [] n c w e = absurd (let z : None ≡ Some c = e in cc)
  valid-in g (x ∷ es) n c w e = go (nat_eq x.0 n) (valid-in g es n c w.1) e
    where
      same : Some x.1 ≡ Some c → x.1 ≡ c
      same z = ap value z
        where
          value : Option (Constraint X) → Constraint X
          value (Some y) = y
          value None = c

      go : (b : Bool) → (stored_at es n ≡ Some c → KeysValid g c.names c.keys) → cond b (Some x.1) (stored_at es n) ≡ Some c → KeysValid g c.names c.keys
      go true f z = subst (λ (y : Constraint X). KeysValid g y.names y.keys) (same z) w.0
      go false f z = f z

  pub valid-at : (g : Graph) (log : List (Event X)) (n : ℕ) (c : Constraint X) → Keyed log g → stored_at (stored log) n ≡ Some c → KeysValid g c.names c.keys
  valid-at g log n c w e = valid-in g (stored log) n c (all-valid g log w) e

  -- keys whose heads have rows are quiet
  pub headed-quiet : (log : List (Event X)) (n : ℕ) (ts : List Term) (vs : List ℕ) → AreHeadedBy ts vs → AllHead log n vs → IsQuiet (λ v. has_row (rows log) v n) ts
  headed-quiet log n [] vs e w = tt
  headed-quiet log n (t ∷ ts) [] e w = absurd (let z : heading t ∷ map heading ts ≡ [] = e in cc)
  headed-quiet log n (t ∷ ts) (v ∷ vs) e w =
      let first : heading t ≡ Some v = ap (λ xs. head_or xs) e in
      let rest : map heading ts ≡ map (λ x. Some x) vs = ap tail_of e in
      ((v, first, w.0), headed-quiet log n ts vs rest w.1)
    where
      head_or : List (Option ℕ) → Option ℕ
      head_or [] = None
      head_or (x ∷ xs) = x

      tail_of : List (Option ℕ) → List (Option ℕ)
      tail_of [] = []
      tail_of (x ∷ xs) = xs

  -- a constraint was looked at, and each of its keys is headed by a variable that has a row with it now
  pub keyed-looked : (g : Graph) (log log' : List (Event X)) (n : ℕ) (c : Constraint X) (vs : List ℕ) → LooksOn log log' → stored_at (stored log) n ≡ Some c → AreHeadedBy (keys_read g c.keys) vs → AllHead log' n vs
      → ((m : ℕ) → nat_eq n m ≡ false → has (waiting log) m ≡ true → has (waiting log') m ≡ true) → Keyed log g → Keyed log' g
  keyed-looked g log log' n c vs on at headed rowed others w =
      subst (λ es. Every (λ e. IsKeyed g (rows log') (waiting log') e.0 e.1.names e.1.keys) es) (sym on.same.constraints)
      (every-both (λ e. nat_eq n e.0 ≡ true → stored_at (stored log) n ≡ Some e.1) (λ e. IsKeyed g (rows log) (waiting log) e.0 e.1.names e.1.keys) (λ e. IsKeyed g (rows log') (waiting log') e.0 e.1.names e.1.keys)
      (λ e known u. (u.0, go e known u.1 (nat_eq n e.0) refl)) (stored log) (known-by-number (stored log) n (numbers-ascend log)) w)
    where
      some-same : (a b : Constraint X) → Some a ≡ Some b → a ≡ b
      some-same a b e = ap value e
        where
          value : Option (Constraint X) → Constraint X
          value (Some z) = z
          value None = a

      looked : (e : ℕ × Constraint X) → nat_eq n e.0 ≡ true → stored_at (stored log) n ≡ Some e.1 → IsQuiet (λ v. has_row (rows log') v e.0) (keys_read g e.1.keys)
      looked e k known =
          let same : c ≡ e.1 = some-same c e.1 (sym at ∙ known) in
          subst (λ (x : Constraint X). IsQuiet (λ v. has_row (rows log') v e.0) (keys_read g x.keys)) same
          (subst (λ (m : ℕ). IsQuiet (λ v. has_row (rows log') v m) (keys_read g c.keys)) (eqb-true n e.0 k) (headed-quiet log' n (keys_read g c.keys) vs headed rowed))

      go : (e : ℕ × Constraint X) → (nat_eq n e.0 ≡ true → stored_at (stored log) n ≡ Some e.1) → (has (waiting log) e.0 ≡ true) ⊎ IsQuiet (λ v. has_row (rows log) v e.0) (keys_read g e.1.keys) → (b : Bool) → nat_eq n e.0 ≡ b
          → (has (waiting log') e.0 ≡ true) ⊎ IsQuiet (λ v. has_row (rows log') v e.0) (keys_read g e.1.keys)
      go e known u true k = inr (looked e k (known k))
      go e known (inl z) false k = inl (others e.0 k z)
      go e known (inr z) false k = inr (quiet-more (λ v. has_row (rows log) v e.0) (λ v. has_row (rows log') v e.0) (λ v y. on.rows_stay v e.0 y) (keys_read g e.1.keys) z)

  -- looking was given up: the same is to be looked at
  pub keyed-given-up : (g : Graph) (log log' : List (Event X)) → LooksOn log log' → waiting log' ≡ waiting log → Keyed log g → Keyed log' g
  keyed-given-up g log log' on same w =
      subst (λ es. Every (λ e. IsKeyed g (rows log') (waiting log') e.0 e.1.names e.1.keys) es) (sym on.same.constraints)
      (every-weaker (λ e. IsKeyed g (rows log) (waiting log) e.0 e.1.names e.1.keys) (λ e. IsKeyed g (rows log') (waiting log') e.0 e.1.names e.1.keys)
      (λ e u. keyed-more g (rows log) (rows log') (waiting log) (waiting log') e.0 e.1.names e.1.keys on.rows_stay (λ z. ap (λ ns. has ns e.0) same ∙ z) u) (stored log) w)

  -- the first awake constraint, where the heap has made nodes since
  pub first-gained : (g h : Graph) → IsSound g → GainsNodes g h → (es : List (ℕ × Constraint X)) → Every (λ e. KeysValid g e.1.names e.1.keys) es → first_awake h es ≡ first_awake g es
  first-gained g h sound gains [] w = refl
  first-gained g h sound gains (e ∷ es) w =
      ap₂ (λ (b : Bool) (o : Option ℕ). if b then Some e.0 else o) (awake-gained g h sound gains e.1.names e.1.keys w.0) (first-gained g h sound gains es w.1)

  stored-past : (k : ℕ) (es : List (ℕ × Constraint X)) (n : ℕ) (c : Constraint X) → Every (λ e. k < e.0) es → stored_at es n ≡ Some c → k < n
  stored-past k [] n c w e = absurd (let z : None ≡ Some c = e in cc)
  stored-past k (x ∷ es) n c w e = go (nat_eq x.0 n) refl (stored-past k es n c w.1)
    where
      go : (b : Bool) → nat_eq x.0 n ≡ b → (stored_at es n ≡ Some c → k < n) → k < n
      go true p f = let same = eqb-true x.0 n p in let less = w.0 in omega (arith, same, less)
      go false p f = f (sym (ap (λ (b : Bool). cond b (Some x.1) (stored_at es n)) p) ∙ e)

  asleep-keyed : (g : Graph) (rs : List (ℕ × ℕ)) (ns : List ℕ) (e : ℕ × Constraint X) → (has ns e.0 ≡ true → ⊥) → IsKeyed g rs ns e.0 e.1.names e.1.keys → awake_in g e.1.keys ≡ false
  asleep-keyed g rs ns e none u = go u.1
    where
      go : (has ns e.0 ≡ true) ⊎ IsQuiet (λ v. has_row rs v e.0) (keys_read g e.1.keys) → awake_in g e.1.keys ≡ false
      go (inl z) = absurd (none z)
      go (inr z) = quiet-sleeps g (λ v. has_row rs v e.0) e.1.keys z

  first-in : (g : Graph) (rs : List (ℕ × ℕ)) (ns : List ℕ) (n : ℕ) (c : Constraint X) → awake_in g c.keys ≡ true → (es : List (ℕ × Constraint X)) → IsAscending es → stored_at es n ≡ Some c
      → ((m : ℕ) → m < n → list_any (λ e. nat_eq m e.0) es ≡ true → has ns m ≡ true → ⊥) → Every (λ e. IsKeyed g rs ns e.0 e.1.names e.1.keys) es → first_awake g es ≡ Some n
  first-in g rs ns n c up [] w at none u = absurd (let z : None ≡ Some c = at in cc)
  first-in g rs ns n c up (e ∷ es) w at none u = go (nat_eq e.0 n) refl (λ rest others. first-in g rs ns n c up es w.1 rest others u.1)
    where
      some-same : (a b : Constraint X) → Some a ≡ Some b → a ≡ b
      some-same a b z = ap value z
        where
          value : Option (Constraint X) → Constraint X
          value (Some y) = y
          value None = a

      here : nat_eq e.0 n ≡ true → first_awake g (e ∷ es) ≡ Some n
      here k =
          let same : e.1 ≡ c = some-same e.1 c (sym (ap (λ (b : Bool). cond b (Some e.1) (stored_at es n)) k) ∙ at) in
          ap (λ (b : Bool). if b then Some e.0 else first_awake g es) (ap (λ (x : Constraint X). awake_in g x.keys) same ∙ up) ∙ ap (λ (m : ℕ). Some m) (eqb-true e.0 n k)

      later : (stored_at es n ≡ Some c → ((m : ℕ) → m < n → list_any (λ z. nat_eq m z.0) es ≡ true → has ns m ≡ true → ⊥) → first_awake g es ≡ Some n) → nat_eq e.0 n ≡ false → first_awake g (e ∷ es) ≡ Some n
      later f k =
          let rest : stored_at es n ≡ Some c = sym (ap (λ (b : Bool). cond b (Some e.1) (stored_at es n)) k) ∙ at in
          let less : e.0 < n = stored-past e.0 es n c w.0 rest in
          let stands : list_any (λ z. nat_eq e.0 z.0) (e ∷ es) ≡ true = ap (λ (b : Bool). b || list_any (λ z. nat_eq e.0 z.0) es) (nat-eq-itself e.0) in
          ap (λ (b : Bool). if b then Some e.0 else first_awake g es) (asleep-keyed g rs ns e (none e.0 less stands) u.0)
          ∙ f rest (λ m l s. none m l (or-later (nat_eq m e.0) (list_any (λ z. nat_eq m z.0) es) s))

      go : (b : Bool) → nat_eq e.0 n ≡ b → (stored_at es n ≡ Some c → ((m : ℕ) → m < n → list_any (λ z. nat_eq m z.0) es ≡ true → has ns m ≡ true → ⊥) → first_awake g es ≡ Some n) → first_awake g (e ∷ es) ≡ Some n
      go true k f = here k
      go false k f = later f k

  -- the least of the queue, where it is awake
  pub first-least : (g : Graph) (log : List (Event X)) (q : List ℕ) (n : ℕ) → AreQueued log false q → IsLeast q n → IsUp g log n → Keyed log g → first_awake g (stored log) ≡ Some n
  first-least g log q n queued least up w = first-in g (rows log) (waiting log) n up.constraint up.awake (stored log) (numbers-ascend log) up.at
      (λ m less s h. go m less (queued m s h)) w
    where
      go : (m : ℕ) → m < n → (false ≡ true) ⊎ (has q m ≡ true) → ⊥
      go m less (inl z) = absurd (let y : false ≡ true = z in cc)
      go m less (inr z) = let low = least.1 m z in absurd (omega (arith, low, less))

  -- an empty queue: none is awake
  pub none-waits : (log : List (Event X)) (q : List ℕ) → q ≡ [] → AreQueued log false q → (n : ℕ) → is_stored log n ≡ true → has (waiting log) n ≡ true → ⊥
  none-waits log q e queued n s h = go (queued n s h)
    where
      go : (false ≡ true) ⊎ (has q n ≡ true) → ⊥
      go (inl z) = absurd (let y : false ≡ true = z in cc)
      go (inr z) = absurd (let y : false ≡ true = sym (ap (λ ns. has ns n) e) ∙ z in cc)

  every-stored : (es all : List (ℕ × Constraint X)) → ((m : ℕ) → list_any (λ e. nat_eq m e.0) es ≡ true → list_any (λ e. nat_eq m e.0) all ≡ true) → Every (λ e. list_any (λ z. nat_eq e.0 z.0) all ≡ true) es
  every-stored [] all h = tt
  every-stored (e ∷ es) all h = (h e.0 (ap (λ (b : Bool). b || list_any (λ z. nat_eq e.0 z.0) es) (nat-eq-itself e.0)), every-stored es all (λ m z. h m (or-later (nat_eq m e.0) (list_any (λ y. nat_eq m y.0) es) z)))

  pub all-quiet : (g : Graph) (log : List (Event X)) → ((n : ℕ) → is_stored log n ≡ true → has (waiting log) n ≡ true → ⊥) → Keyed log g → Every (λ e. IsQuiet (λ v. has_row (rows log) v e.0) (keys_read g e.1.keys)) (stored log)
  all-quiet g log none w = every-both (λ e. is_stored log e.0 ≡ true) (λ e. IsKeyed g (rows log) (waiting log) e.0 e.1.names e.1.keys) (λ e. IsQuiet (λ v. has_row (rows log) v e.0) (keys_read g e.1.keys))
      (λ e s u. go e (none e.0 s) u.1) (stored log) (every-stored (stored log) (stored log) (λ m z. z)) w
    where
      go : (e : ℕ × Constraint X) → (has (waiting log) e.0 ≡ true → ⊥) → (has (waiting log) e.0 ≡ true) ⊎ IsQuiet (λ v. has_row (rows log) v e.0) (keys_read g e.1.keys) → IsQuiet (λ v. has_row (rows log) v e.0) (keys_read g e.1.keys)
      go e h (inl z) = absurd (h z)
      go e h (inr z) = z

  pub none-first : (g : Graph) (es : List (ℕ × Constraint X)) (rs : List (ℕ × ℕ)) → Every (λ e. IsQuiet (λ v. has_row rs v e.0) (keys_read g e.1.keys)) es → first_awake g es ≡ None
  none-first g [] rs w = refl
  none-first g (e ∷ es) rs w = ap (λ (b : Bool). if b then Some e.0 else first_awake g es) (quiet-sleeps g (λ v. has_row rs v e.0) e.1.keys w.0) ∙ none-first g es rs w.1

  pub keyed-rested : (g : Graph) (log log' : List (Event X)) → RestsAt log log' → ((n : ℕ) → is_stored log n ≡ true → has (waiting log) n ≡ true → ⊥) → Keyed log g → Keyed log' g
  keyed-rested g log log' (inl e) none w = subst (λ l. Keyed l g) (sym e) (after-resting X g log (all-quiet g log none w) w)
  keyed-rested g log log' (inr e) none w = subst (λ l. Keyed l g) (sym e.0) w

  pub looks-rested : (log log' : List (Event X)) → RestsAt log log' → LooksOn log log'
  looks-rested log log' (inl e) = subst (λ l. LooksOn log l) (sym e) (looks-rests log)
  looks-rested log log' (inr e) = subst (λ l. LooksOn log l) (sym e.0) (looks-itself log)
