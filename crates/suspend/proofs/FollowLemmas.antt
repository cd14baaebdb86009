-- Rows in the watch lists, and following what was assigned.
use Rattle.std.proofs.Common.{◌≡◌, ℕ, suc, ◌+◌, ◌-◌, ◌<◌, ◌≤◌, ◌⊎◌, inl, inr, Bool, true, false, cond, ◌||◌, ◌&&◌, not, nat_eq, List, [], ◌∷◌, ◌++◌, map, filter, take, length, slice_index, refl, sym, ap, ap₂, ◌∙◌, subst, Option, Some, None, arith, length-append}
use Rattle.std.specs.List.{list_any}
use Rattle.std.specs.Prelude.{slice_index_or}
use Rattle.std.proofs.lemmas.Bool.{eqb-true}
use Rattle.std.proofs.lemmas.List.{append_assoc, map-append, get_or-reverse, take_more, take_all}
use Rattle.std.proofs.lemmas.List.Folds.{list_any-append}
use Rattle.std.proofs.Math.Seq.{get_or-append_seam}
use Rattle.level_terms.specs.declared.node.Node.{Node}
use Rattle.level_terms.specs.declared.node.Node.TheVariants.{Var as VarNode}
use Rattle.level_terms.specs.declared.node.Change.{Change}
use Rattle.level_terms.specs.Graph.{Graph, Assigned, value_in}
use Rattle.level_terms.specs.Reading.{layer_term, levels, node_term, closed_term, value_term, values_of, assigned_term}
use Rattle.level_terms.specs.Reached.{NoCycle}
use Rattle.level_terms.specs.Sound.{IsSound}
use Rattle.level_terms.specs.Growth.{change_of, changes_of}
use Rattle.level_terms.proofs.FoldLemmas.{over-at, names_older}
use Rattle.level_terms.proofs.GrowthLemmas.{changes-length}
use Rattle.level_terms.proofs.ValueLemmas.{values-free}
use Rattle.ref_terms.specs.terms.Term as term
use Rattle.ref_terms.specs.terms.Term.{Term, At, Var}
use Rattle.ref_terms.specs.terms.Instance.{inst_all}
use Rattle.ref_terms.specs.unification.Spine.{apply_all}
use Rattle.ref_terms.specs.search.Used.{Every}
use Rattle.watch_lists.specs.Rows.{numbers_after}
use Rattle.watch_lists.specs.declared.Change.{Change as Watched}
use Rattle.suspend.specs.declared.constraint.Constraint.{Constraint}
use Rattle.suspend.specs.declared.constraint.Fired.{Fired}
use Rattle.suspend.specs.declared.note.Note.{Note}
use Rattle.suspend.specs.declared.note.Note.TheVariants.{Joins, Leaves, Fires, Heads, Becomes, Waits, Sleeps, Doubts, Rests}
use Rattle.suspend.specs.Store.{Event, becomes, waits, doubts, moved_row, stored, rows, waiting, has, has_row, IsLater, SameStore}
use Rattle.suspend.specs.Keyed.{IsKeyed, Keyed, Follows, Stirred}
use Rattle.suspend.specs.inside.Kept.{told, watched}
use Rattle.suspend.specs.inside.Renamed.{IsFreeVariable, BecomesVariable}
use Rattle.suspend.specs.inside.Waking.{Watches, StirsOn, AllWait, KeepsKeyed, FollowsOne, FollowsSome}
use Rattle.suspend.proofs.KeyLemmas.{keyed-more}
use Rattle.suspend.proofs.EventLemmas.{every-weaker, every-both, every-last, nat-eq-itself, or-later, in-later, after-assigning, after-renaming, after-begun, after-doubting}
use Rattle.suspend.proofs.LogLemmas.{later-itself, later-later}

both-true : (a b : Bool) → (a && b) ≡ true → (a ≡ true) × (b ≡ true)
both-true true b e = (refl, e)
both-true false b e = absurd (let z : false ≡ true = e in cc)

either-true : (a b : Bool) → (a || b) ≡ true → (a ≡ true) ⊎ (b ≡ true)
either-true true b e = inl refl
either-true false b e = inr e

other-way : (a b : ℕ) → nat_eq a b ≡ true → nat_eq b a ≡ true
other-way a b e = ap (λ (x : ℕ). nat_eq b x) (eqb-true a b e) ∙ nat-eq-itself b

has-left : (m : ℕ) (xs ys : List ℕ) → has xs m ≡ true → has (xs ++ ys) m ≡ true
has-left m xs ys e = list_any-append (nat_eq m) xs ys ∙ ap (λ (b : Bool). b || has ys m) e

row-filtered : (k v n : ℕ) (rs : List (ℕ × ℕ)) → has_row (filter (λ r. not (nat_eq r.1 k)) rs) v n ≡ true → has_row rs v n ≡ true
row-filtered k v n [] e = e
row-filtered k v n (r ∷ rs) e = go (nat_eq r.1 k) (λ z. row-filtered k v n rs z) e
  where
    at : (has_row (filter (λ x. not (nat_eq x.1 k)) rs) v n ≡ true → has_row rs v n ≡ true) → ((nat_eq v r.0 && nat_eq n r.1) ≡ true) ⊎ (has_row (filter (λ x. not (nat_eq x.1 k)) rs) v n ≡ true) → has_row (r ∷ rs) v n ≡ true
    at f (inl y) = ap (λ (b : Bool). b || has_row rs v n) y
    at f (inr y) = or-later (nat_eq v r.0 && nat_eq n r.1) (has_row rs v n) (f y)

    go : (b : Bool) → (has_row (filter (λ x. not (nat_eq x.1 k)) rs) v n ≡ true → has_row rs v n ≡ true) → has_row (cond (not b) (r ∷ filter (λ x. not (nat_eq x.1 k)) rs) (filter (λ x. not (nat_eq x.1 k)) rs)) v n ≡ true → has_row (r ∷ rs) v n ≡ true
    go true f z = or-later (nat_eq v r.0 && nat_eq n r.1) (has_row rs v n) (f z)
    go false f z = at f (either-true (nat_eq v r.0 && nat_eq n r.1) (has_row (filter (λ x. not (nat_eq x.1 k)) rs) v n) z)

-- a row after a variable became another one was the variable's, or was there
moved-back : (w u v n : ℕ) (rs : List (ℕ × ℕ)) → has_row (map (moved_row w u) rs) v n ≡ true → ((nat_eq u v ≡ true) × (has_row rs w n ≡ true)) ⊎ (has_row rs v n ≡ true)
moved-back w u v n [] e = inr e
moved-back w u v n (r ∷ rs) e = go (either-true (nat_eq v (moved_row w u r).0 && nat_eq n (moved_row w u r).1) (has_row (map (moved_row w u) rs) v n) e) (moved-back w u v n rs)
  where
    rest : ((nat_eq u v ≡ true) × (has_row rs w n ≡ true)) ⊎ (has_row rs v n ≡ true) → ((nat_eq u v ≡ true) × (has_row (r ∷ rs) w n ≡ true)) ⊎ (has_row (r ∷ rs) v n ≡ true)
    rest (inl z) = inl (z.0, or-later (nat_eq w r.0 && nat_eq n r.1) (has_row rs w n) z.1)
    rest (inr z) = inr (or-later (nat_eq v r.0 && nat_eq n r.1) (has_row rs v n) z)

    here : (b : Bool) → nat_eq r.0 w ≡ b → (m : ℕ × ℕ) → m ≡ cond b (u, r.1) r → (nat_eq v m.0 ≡ true) × (nat_eq n m.1 ≡ true) → ((nat_eq u v ≡ true) × (has_row (r ∷ rs) w n ≡ true)) ⊎ (has_row (r ∷ rs) v n ≡ true)
    here true k m q z = inl (
      other-way v u (ap (λ (x : ℕ × ℕ). nat_eq v x.0) (sym q) ∙ z.0),
      ap₂ (λ (a b : Bool). (a && b) || has_row rs w n) (other-way r.0 w k) (ap (λ (x : ℕ × ℕ). nat_eq n x.1) (sym q) ∙ z.1),
    )
    here false k m q z = inr (ap₂ (λ (a b : Bool). (a && b) || has_row rs v n) (ap (λ (x : ℕ × ℕ). nat_eq v x.0) (sym q) ∙ z.0) (ap (λ (x : ℕ × ℕ). nat_eq n x.1) (sym q) ∙ z.1))

    go : ((nat_eq v (moved_row w u r).0 && nat_eq n (moved_row w u r).1) ≡ true) ⊎ (has_row (map (moved_row w u) rs) v n ≡ true) → (has_row (map (moved_row w u) rs) v n ≡ true → ((nat_eq u v ≡ true) × (has_row rs w n ≡ true)) ⊎ (has_row rs v n ≡ true))
        → ((nat_eq u v ≡ true) × (has_row (r ∷ rs) w n ≡ true)) ⊎ (has_row (r ∷ rs) v n ≡ true)
    go (inl z) f = here (nat_eq r.0 w) refl (moved_row w u r) refl (both-true (nat_eq v (moved_row w u r).0) (nat_eq n (moved_row w u r).1) z)
    go (inr z) f = rest (f z)

none-stands : (v n : ℕ) (xs : List ℕ) → has_row [] v n ≡ true → has xs n ≡ true
none-stands v n xs e = absurd (let z : false ≡ true = e in cc)

each-has : (ws ns : List ℕ) → Every (λ n. has ws n ≡ true) ns → (n : ℕ) → has ns n ≡ true → has ws n ≡ true
each-has ws [] w n h = absurd (let z : false ≡ true = h in cc)
each-has ws (k ∷ ns) w n h = go (either-true (nat_eq n k) (has ns n) h) (each-has ws ns w.1 n)
  where
    go : (nat_eq n k ≡ true) ⊎ (has ns n ≡ true) → (has ns n ≡ true → has ws n ≡ true) → has ws n ≡ true
    go (inl z) f = ap (has ws) (eqb-true n k z) ∙ w.0
    go (inr z) f = f z

-- what the log has as a row stands in the watch lists
module _ {X : Type 0} where
  abbrev Stands : List Note → List (Constraint X) → List Fired → Type 0
  Stands notes cs fs = (v n : ℕ) → has_row (rows (told notes cs fs)) v n ≡ true → has (numbers_after (watched notes) v) n ≡ true

  pub watched-rows : (notes : List Note) (cs : List (Constraint X)) (fs : List Fired) → Stands notes cs fs
  watched-rows [] cs fs v n e = none-stands v n [] e
  watched-rows (Joins ∷ older) [] fs v n e = none-stands v n (numbers_after (watched older) v) e
  watched-rows (Joins ∷ older) (c ∷ cs) fs v n e = watched-rows older cs fs v n e
  watched-rows (Leaves k ∷ older) cs fs v n e = watched-rows older cs fs v n (row-filtered k v n (rows (told older cs fs)) e)
  watched-rows (Fires ∷ older) cs [] v n e = none-stands v n (numbers_after (watched older) v) e
  watched-rows (Fires ∷ older) cs (f ∷ fs) v n e = watched-rows older cs fs v n e
  watched-rows (Heads w m ∷ older) cs fs v n e = go (λ z. watched-rows older cs fs v n z) (either-true (nat_eq v w && nat_eq n m) (has_row (rows (told older cs fs)) v n) e)
    where
      more : (b : Bool) → has (numbers_after (watched older) v) n ≡ true → has (cond b (m ∷ numbers_after (watched older) v) (numbers_after (watched older) v)) n ≡ true
      more true z = or-later (nat_eq n m) (has (numbers_after (watched older) v) n) z
      more false z = z

      here : (nat_eq v w ≡ true) × (nat_eq n m ≡ true) → has (cond (nat_eq w v) (m ∷ numbers_after (watched older) v) (numbers_after (watched older) v)) n ≡ true
      here z = ap (λ (b : Bool). has (cond b (m ∷ numbers_after (watched older) v) (numbers_after (watched older) v)) n) (other-way v w z.0) ∙ ap (λ (b : Bool). b || has (numbers_after (watched older) v) n) z.1

      go : (has_row (rows (told older cs fs)) v n ≡ true → has (numbers_after (watched older) v) n ≡ true) → ((nat_eq v w && nat_eq n m) ≡ true) ⊎ (has_row (rows (told older cs fs)) v n ≡ true) → has (cond (nat_eq w v) (m ∷ numbers_after (watched older) v) (numbers_after (watched older) v)) n ≡ true
      go f (inl z) = here (both-true (nat_eq v w) (nat_eq n m) z)
      go f (inr z) = more (nat_eq w v) (f z)
  watched-rows (Becomes w u ∷ older) cs fs v n e = go (λ z. watched-rows older cs fs w n z) (λ z. watched-rows older cs fs v n z) (moved-back w u v n (rows (told older cs fs)) e)
    where
      more : (b : Bool) → has (numbers_after (watched older) v) n ≡ true → has (cond b (numbers_after (watched older) w ++ numbers_after (watched older) v) (numbers_after (watched older) v)) n ≡ true
      more true z = in-later n (numbers_after (watched older) w) (numbers_after (watched older) v) z
      more false z = z

      go : (has_row (rows (told older cs fs)) w n ≡ true → has (numbers_after (watched older) w) n ≡ true) → (has_row (rows (told older cs fs)) v n ≡ true → has (numbers_after (watched older) v) n ≡ true)
          → ((nat_eq u v ≡ true) × (has_row (rows (told older cs fs)) w n ≡ true)) ⊎ (has_row (rows (told older cs fs)) v n ≡ true) → has (cond (nat_eq u v) (numbers_after (watched older) w ++ numbers_after (watched older) v) (numbers_after (watched older) v)) n ≡ true
      go f h (inl z) = ap (λ (b : Bool). has (cond b (numbers_after (watched older) w ++ numbers_after (watched older) v) (numbers_after (watched older) v)) n) z.0 ∙ has-left n (numbers_after (watched older) w) (numbers_after (watched older) v) (f z.1)
      go f h (inr z) = more (nat_eq u v) (h z)
  watched-rows (Waits m ∷ older) cs fs v n e = watched-rows older cs fs v n e
  watched-rows (Sleeps m ∷ older) cs fs v n e = watched-rows older cs fs v n e
  watched-rows (Doubts ∷ older) cs fs v n e = watched-rows older cs fs v n e
  watched-rows (Rests ∷ older) cs fs v n e = watched-rows older cs fs v n e

  -- a variable whose list is empty has no row
  pub unwatched-none : (notes : List Note) (cs : List (Constraint X)) (fs : List Fired) (ws : List Watched) (v : ℕ) → ws ≡ watched notes → numbers_after ws v ≡ [] → (n : ℕ) → has_row (rows (told notes cs fs)) v n ≡ false
  unwatched-none notes cs fs ws v e none n = go (has_row (rows (told notes cs fs)) v n) refl
    where
      go : (b : Bool) → has_row (rows (told notes cs fs)) v n ≡ b → b ≡ false
      go true z = absurd (let y : false ≡ true = sym (ap (λ ns. has ns n) none) ∙ ap (λ xs. has (numbers_after xs v) n) e ∙ watched-rows notes cs fs v n z in cc)
      go false z = refl

  -- the numbers in the list of a variable
  pub watches-all : (notes : List Note) (cs : List (Constraint X)) (fs : List Fired) (log : List (Event X)) (ws : List Watched) (v : ℕ) (out new : List ℕ)
      → told notes cs fs ≡ log → ws ≡ watched notes → new ≡ out ++ numbers_after ws v → Watches (rows log) v new
  watches-all notes cs fs log ws v out new same e f =
      subst (λ l. Watches (rows l) v new) same (λ n z. ap (λ ns. has ns n) f ∙ in-later n out (numbers_after ws v) (ap (λ xs. has (numbers_after xs v) n) e ∙ watched-rows notes cs fs v n z))

  -- more is to be looked at
  pub stirs-itself : (log : List (Event X)) → StirsOn log log
  stirs-itself log = record { same = record { constraints = refl; firings_are = refl; additions = refl }; later = later-itself log; rows_stay = refl; more = λ n e. e }

  pub stirs-waits : (log : List (Event X)) (n : ℕ) → StirsOn log (waits n ∷ log)
  stirs-waits log n = record {
    same = record { constraints = refl; firings_are = refl; additions = refl };
    later = record { more = waits n ∷ []; is = refl };
    rows_stay = refl;
    more = λ m e. or-later (nat_eq m n) (has (waiting log) m) e;
  }

  pub stirs-later : (a b c : List (Event X)) → StirsOn a b → StirsOn b c → StirsOn a c
  stirs-later a b c u w = record {
    same = record { constraints = w.same.constraints ∙ u.same.constraints; firings_are = w.same.firings_are ∙ u.same.firings_are; additions = w.same.additions ∙ u.same.additions };
    later = later-later a b c u.later w.later;
    rows_stay = w.rows_stay ∙ u.rows_stay;
    more = λ n e. w.more n (u.more n e);
  }

  pub stirs-waited : (log log' : List (Event X)) (n : ℕ) → log' ≡ waits n ∷ log → StirsOn log log'
  stirs-waited log log' n e = subst (StirsOn log) (sym e) (stirs-waits log n)

  -- one more of some numbers is to be looked at
  pub waits-more : (log log' : List (Event X)) (ns : List ℕ) (i d : ℕ) → i < length ns → log' ≡ waits (slice_index_or ns i d) ∷ log → Every (λ n. has (waiting log) n ≡ true) (take i ns) → Every (λ n. has (waiting log') n ≡ true) (take (i + 1) ns)
  waits-more log log' ns i d low e w =
      let before : Every (λ n. has (waiting (waits (slice_index_or ns i d) ∷ log)) n ≡ true) (take i ns) =
      every-weaker (λ n. has (waiting log) n ≡ true) (λ n. has (waiting (waits (slice_index_or ns i d) ∷ log)) n ≡ true) (λ n y. or-later (nat_eq n (slice_index_or ns i d)) (has (waiting log) n) y) (take i ns) w in
      subst (λ l. Every (λ n. has (waiting l) n ≡ true) (take (i + 1) ns)) (sym e) (subst (Every (λ n. has (waiting (waits (slice_index_or ns i d) ∷ log)) n ≡ true)) (sym (take_more ns i d low))
      (every-last (λ n. has (waiting (waits (slice_index_or ns i d) ∷ log)) n ≡ true) (take i ns) (slice_index_or ns i d) before (ap (λ (b : Bool). b || has (waiting log) (slice_index_or ns i d)) (nat-eq-itself (slice_index_or ns i d)))))

  pub stirred-all : (old log : List (Event X)) (v i : ℕ) (ns : List ℕ) → Watches (rows old) v ns → rows log ≡ rows old → length ns ≤ i → Every (λ n. has (waiting log) n ≡ true) (take i ns) → Stirred (rows log) (waiting log) v
  stirred-all old log v i ns watches same h w n z = each-has (waiting log) ns (subst (Every (λ n. has (waiting log) n ≡ true)) (take_all i ns h) w) n (watches n (ap (λ rs. has_row rs v n) (sym same) ∙ z))

  pub same-later : (a b c : List (Event X)) → SameStore a b → SameStore b c → SameStore a c
  same-later a b c u w = record { constraints = w.constraints ∙ u.constraints; firings_are = w.firings_are ∙ u.firings_are; additions = w.additions ∙ u.additions }

  pub same-itself : (log : List (Event X)) → SameStore log log
  same-itself log = record { constraints = refl; firings_are = refl; additions = refl }

  pub stirs-keyed : (old new : List (Event X)) → StirsOn old new → KeepsKeyed old new
  stirs-keyed old new w g k =
      subst (λ es. Every (λ e. IsKeyed g (rows new) (waiting new) e.0 e.1.names e.1.keys) es) (sym w.same.constraints)
      (every-weaker (λ e. IsKeyed g (rows old) (waiting old) e.0 e.1.names e.1.keys) (λ e. IsKeyed g (rows new) (waiting new) e.0 e.1.names e.1.keys)
      (λ e u. keyed-more g (rows old) (rows new) (waiting old) (waiting new) e.0 e.1.names e.1.keys (λ v n z. ap (λ rs. has_row rs v n) w.rows_stay ∙ z) (w.more e.0) u) (stored old) k)

  -- all are to be looked at
  mapped : (es : List (ℕ × Constraint X)) (m : ℕ) → has (map (λ e. e.0) es) m ≡ list_any (λ e. nat_eq m e.0) es
  mapped [] m = refl
  mapped (e ∷ es) m = ap (λ (b : Bool). nat_eq m e.0 || b) (mapped es m)

  each-mapped : (es all : List (ℕ × Constraint X)) → ((m : ℕ) → list_any (λ e. nat_eq m e.0) es ≡ true → list_any (λ e. nat_eq m e.0) all ≡ true) → Every (λ e. has (map (λ z. z.0) all) e.0 ≡ true) es
  each-mapped [] all h = tt
  each-mapped (e ∷ es) all h = (mapped all e.0 ∙ h e.0 (ap (λ (b : Bool). b || list_any (λ z. nat_eq e.0 z.0) es) (nat-eq-itself e.0)), each-mapped es all (λ m z. h m (or-later (nat_eq m e.0) (list_any (λ y. nat_eq m y.0) es) z)))

  pub doubts-wait : (older : List (Event X)) → AllWait (doubts ∷ older)
  doubts-wait older = every-weaker (λ e. has (map (λ z. z.0) (stored older)) e.0 ≡ true) (λ e. has (map (λ z. z.0) (stored older) ++ waiting older) e.0 ≡ true)
      (λ e z. has-left e.0 (map (λ y. y.0) (stored older)) (waiting older) z) (stored older) (each-mapped (stored older) (stored older) (λ m z. z))

  pub all-wait : (log older : List (Event X)) → log ≡ doubts ∷ older → AllWait log
  all-wait log older e = subst AllWait (sym e) (doubts-wait older)

  pub doubt-keeps : (old new : List (Event X)) → (new ≡ doubts ∷ old) ⊎ (new ≡ old) → KeepsKeyed old new
  doubt-keeps old new (inl e) g k = subst (λ l. Keyed l g) (sym e) (after-doubting X g old k)
  doubt-keeps old new (inr e) g k = subst (λ l. Keyed l g) (sym e) k

  pub doubt-same : (old new : List (Event X)) → (new ≡ doubts ∷ old) ⊎ (new ≡ old) → SameStore old new
  doubt-same old new (inl e) = subst (λ l. SameStore old l) (sym e) (record { constraints = refl; firings_are = refl; additions = refl })
  doubt-same old new (inr e) = subst (λ l. SameStore old l) (sym e) (same-itself old)

  pub doubt-later : (old new : List (Event X)) → (new ≡ doubts ∷ old) ⊎ (new ≡ old) → IsLater old new
  doubt-later old new (inl e) = record { more = doubts ∷ []; is = e }
  doubt-later old new (inr e) = record { more = []; is = e }

  -- one more event, or none
  pub later-one : (log log' : List (Event X)) (x : Event X) → log' ≡ x ∷ log → IsLater log log'
  later-one log log' x e = record { more = x ∷ []; is = e }

  pub later-same : (log log' : List (Event X)) → log' ≡ log → IsLater log log'
  later-same log log' e = record { more = []; is = e }

  -- following one assignment
  pub follows-waiting : (old new : List (Event X)) (h : Graph) (v : ℕ) → AllWait new → KeepsKeyed old new → FollowsOne old new h v
  follows-waiting old new h v all keeps g a newer e w k =
      every-both (λ z. has (waiting new) z.0 ≡ true) (λ z. IsKeyed g (rows new) (waiting new) z.0 z.1.names z.1.keys) (λ z. IsKeyed (record g { assigned = a ∷ g.assigned }) (rows new) (waiting new) z.0 z.1.names z.1.keys)
      (λ z y u. (u.0, inl y)) (stored new) all (keeps g k)

  pub follows-stirred : (old new : List (Event X)) (h : Graph) (v : ℕ) → KeepsKeyed old new → Stirred (rows new) (waiting new) v → FollowsOne old new h v
  follows-stirred old new h v keeps stirred g a newer e w k = after-assigning X g a new (subst (Stirred (rows new) (waiting new)) (sym e) stirred) (keeps g k)

  pub follows-unwatched : (log : List (Event X)) (h : Graph) (v : ℕ) → ((n : ℕ) → has_row (rows log) v n ≡ false) → FollowsOne log log h v
  follows-unwatched log h v none = follows-stirred log log h v (λ g k. k) (λ n z. absurd (let y : false ≡ true = sym (none n) ∙ z in cc))

-- the value of a variable is its assignment's
value-older : (xs : List Assigned) (a : Assigned) (older : List Assigned) (nodes : List Node) → NoCycle nodes (xs ++ a ∷ older) → value_in (xs ++ a ∷ older) a.variable ≡ Some a.value
value-older [] a older nodes w = ap (λ (b : Bool). cond b (Some a.value) (value_in older a.variable)) (nat-eq-itself a.variable)
value-older (x ∷ xs) a older nodes w = go (nat_eq x.variable a.variable) refl (value-older xs a older nodes w.2)
  where
    go : (b : Bool) → nat_eq x.variable a.variable ≡ b → value_in (xs ++ a ∷ older) a.variable ≡ Some a.value → cond b (Some x.value) (value_in (xs ++ a ∷ older) a.variable) ≡ Some a.value
    go true e z = absurd (let y : None ≡ Some a.value = sym w.0 ∙ ap (value_in (xs ++ a ∷ older)) (eqb-true x.variable a.variable e) ∙ z in cc)
    go false e z = z

free-older : (xs older : List Assigned) (u : ℕ) → value_in (xs ++ older) u ≡ None → value_in older u ≡ None
free-older [] older u e = e
free-older (x ∷ xs) older u e = go (nat_eq x.variable u) (free-older xs older u) e
  where
    go : (b : Bool) → (value_in (xs ++ older) u ≡ None → value_in older u ≡ None) → cond b (Some x.value) (value_in (xs ++ older) u) ≡ None → value_in older u ≡ None
    go true f z = absurd (let y : Some x.value ≡ None = z in cc)
    go false f z = f z

some-value : (a b : ℕ) → Some a ≡ Some b → a ≡ b
some-value a b e = ap value e
  where
    value : Option ℕ → ℕ
    value (Some z) = z
    value None = a

-- the entry of an assignment
entry-at : (newer older : List Assigned) (a : Assigned) (d : Change) → slice_index_or (changes_of (newer ++ a ∷ older)) (length older) d ≡ change_of a
entry-at newer older a d =
    let xs = map change_of (newer ++ a ∷ older) in
    let split : map change_of (newer ++ a ∷ older) ≡ map change_of newer ++ change_of a ∷ map change_of older = map-append change_of newer (a ∷ older) in
    let size : length (map change_of (newer ++ a ∷ older)) ≡ length newer + suc (length older) = length-map change_of (newer ++ a ∷ older) ∙ length-append newer (a ∷ older) in
    let low : length older < length (map change_of (newer ++ a ∷ older)) = omega (arith, size) in
    let at : length (map change_of (newer ++ a ∷ older)) - 1 - length older ≡ length (map change_of newer) = omega (arith, size, length-map change_of newer) in
    get_or-reverse (map change_of (newer ++ a ∷ older)) (length older) d low
    ∙ ap (λ (i : ℕ). slice_index_or (map change_of (newer ++ a ∷ older)) i d) at
    ∙ ap (λ (zs : List Change). slice_index_or zs (length (map change_of newer)) d) split
    ∙ get_or-append_seam (map change_of newer) (change_of a) (map change_of older) d
  where
    length-map : (f : Assigned → Change) (xs : List Assigned) → length (map f xs) ≡ length xs
    length-map f [] = refl
    length-map f (x ∷ xs) = ap suc (length-map f xs)

-- what a variable is assigned, where its value is a variable and neither has levels
becomes-variable : (h : Graph) (older : List Assigned) (a : Assigned) (u : ℕ) → IsSound h → slice_index h.depths a.variable ≡ 0 → IsFreeVariable h a.value u → ((v : ℕ) → value_in h.assigned v ≡ None → value_in older v ≡ None) → assigned_term (record h { assigned = older }) a ≡ At (Var u)
becomes-variable h older a u sound flat f free =
    let env : ℕ → Term = λ i. At (term.Bound i) in
    let node : node_term h.nodes h.depths a.value (λ i. At (term.Bound i)) ≡ apply_all (At (Var f.variable.index)) (levels (slice_index h.depths f.variable.index) (λ i. At (term.Bound i))) =
    ap (λ (r : (ℕ → Term) → Term). r (λ i. At (term.Bound i))) (over-at (layer_term h.depths) (λ x. At (term.Con 0)) h.nodes a.value (VarNode f.variable) (names_older (length h.depths) h.nodes sound.made) f.node) in
    let value : value_term h.nodes h.depths a ≡ At (Var f.variable.index) =
    ap (λ (k : ℕ). closed_term h.nodes h.depths 0 k a.value (λ i. At (term.Bound i))) flat ∙ node ∙ ap (λ (k : ℕ). apply_all (At (Var f.variable.index)) (levels k (λ i. At (term.Bound i)))) f.without_levels in
    ap (inst_all (values_of h.nodes h.depths older)) value ∙ values-free h.nodes h.depths older f.variable.index (free f.variable.index f.free) ∙ ap (λ (k : ℕ). At (Var k)) f.number

module _ {X : Type 0} where
  pub follows-renamed : (log : List (Event X)) (h : Graph) (v u : ℕ) → IsSound h → BecomesVariable h v u → FollowsOne log (becomes v u ∷ log) h v
  follows-renamed log h v u sound b g a newer e w k =
      let assigned : h.assigned ≡ newer ++ a ∷ g.assigned = ap (λ (x : Graph). x.assigned) w in
      let same : record h { assigned = g.assigned } ≡ g = ap (λ (x : Graph). record x { assigned = g.assigned }) w in
      let here : a.value ≡ b.value = some-value a.value b.value
      (sym (value-older newer a g.assigned h.nodes (subst (NoCycle h.nodes) assigned sound.acyclic)) ∙ ap (λ (xs : List Assigned). value_in xs a.variable) (sym assigned) ∙ ap (value_in h.assigned) e ∙ b.assigned) in
      let value : assigned_term (record h { assigned = g.assigned }) a ≡ At (Var u) = becomes-variable h g.assigned a u sound (ap (slice_index h.depths) e ∙ b.without_levels) (subst (λ t. IsFreeVariable h t u) (sym here) b.free)
      (λ x z. free-older (newer ++ a ∷ []) g.assigned x (ap (λ (xs : List Assigned). value_in xs x) (append_assoc newer (a ∷ []) g.assigned ∙ sym assigned) ∙ z)) in
      subst (λ (x : ℕ). Keyed (becomes x u ∷ log) (record g { assigned = a ∷ g.assigned })) e (after-renaming X g a u log (ap (λ (x : Graph). assigned_term x a) (sym same) ∙ value) k)

  pub follows-handed : (old log log' : List (Event X)) (h : Graph) (v u : ℕ) → old ≡ log → IsSound h → BecomesVariable h v u → log' ≡ becomes v u ∷ old → FollowsOne log log' h v
  follows-handed old log log' h v u same sound b e = subst (λ l. FollowsOne log l h v) (sym e) (subst (λ l. FollowsOne l (becomes v u ∷ old) h v) same (follows-renamed old h v u sound b))

  -- following one more
  pub follows-none : (log : List (Event X)) (h : Graph) (entries : List Change) → length log ≡ 0 → Follows log log h entries
  follows-none [] h entries e g sound w k = tt
  follows-none (x ∷ log) h entries e g sound w k = absurd (let z : suc (length log) ≡ 0 = e in omega (arith, z))

  pub some-begun : (log : List (Event X)) (h : Graph) (entries : List Change) → FollowsSome log log h entries 0
  some-begun log h entries g sound w k newer [] e n = after-begun X g h [] entries log sound w k
  some-begun log h entries g sound w k newer (a ∷ older) e n = absurd (let z : suc (length older) ≡ 0 = n in omega (arith, z))

  pub some-more : (earlier log log' : List (Event X)) (h : Graph) (entries : List Change) (i v : ℕ) (d : Change) → FollowsSome earlier log h entries i → FollowsOne log log' h v → v ≡ (slice_index_or entries i d).variable.index → FollowsSome earlier log' h entries (i + 1)
  some-more earlier log log' h entries i v d before one at g sound w k newer [] e n = absurd (let z : 0 ≡ i + 1 = n in omega (arith, z))
  some-more earlier log log' h entries i v d before one at g sound w k newer (a ∷ older) e n =
      let count : length older ≡ i = (let z : suc (length older) ≡ i + 1 = n in omega (arith, z)) in
      let prev : Keyed log (record h { assigned = older ++ g.assigned }) = before g sound w k (newer ++ a ∷ []) older (e ∙ sym (append_assoc newer (a ∷ []) older)) count in
      let assigned : h.assigned ≡ newer ++ a ∷ (older ++ g.assigned) = w.assigned ∙ ap (λ (xs : List Assigned). xs ++ g.assigned) e ∙ append_assoc newer (a ∷ older) g.assigned in
      let whole : h ≡ record h { assigned = newer ++ a ∷ (older ++ g.assigned) } = λ j. record h { assigned = assigned j } in
      let entry : change_of a ≡ slice_index_or entries i d =
      sym (entry-at newer older a d) ∙ ap (λ (xs : List Assigned). slice_index_or (changes_of xs) (length older) d) (sym e) ∙ ap (λ (zs : List Change). slice_index_or zs (length older) d) (sym w.trail) ∙ ap (λ (j : ℕ). slice_index_or entries j d) count in
      one (record h { assigned = older ++ g.assigned }) a newer (ap (λ (c : Change). c.variable.index) entry ∙ sym at) whole prev

  pub some-all : (earlier log : List (Event X)) (h : Graph) (entries : List Change) (i : ℕ) → length entries ≤ i → i ≤ length entries → FollowsSome earlier log h entries i → Follows earlier log h entries
  some-all earlier log h entries i low high all g sound w k =
      let size : length w.new_assigned ≡ i = (let a = ap length w.trail in let b = changes-length w.new_assigned in omega (arith, a, b, low, high)) in
      subst (λ (x : Graph). Keyed log x) whole (all g sound w k [] w.new_assigned refl size)
    where
      whole : record h { assigned = w.new_assigned ++ g.assigned } ≡ h
      whole = λ j. record h { assigned = sym w.assigned j }
