-- The first awake constraint, and the others.
use Rattle.std.proofs.Common.{◌≡◌, ℕ, ◌<◌, Bool, true, false, cond, ◌||◌, not, nat_eq, List, [], ◌∷◌, map, filter, Option, Some, None, if◌then◌else◌, refl, sym, ap, ap₂, ◌∙◌, subst, arith, ne_eqb, eq-eqb}
use Rattle.std.specs.List.{list_any}
use Rattle.level_terms.specs.Graph.{Graph}
use Rattle.ref_terms.specs.search.Branch as branch
use Rattle.ref_terms.specs.search.Next.{is_awake}
use Rattle.ref_terms.specs.search.Used.{Every}
use Rattle.hyp_clause.specs.declared.hyp.Hyp.{Hyp}
use Rattle.suspend.specs.declared.constraint.Constraint.{Constraint}
use Rattle.suspend.specs.Store.{without, stored_at, IsAscending}
use Rattle.suspend.specs.Keyed.{awake_in, first_awake}
use Rattle.search_moves.specs.World.{IsConstraintAt, AllConstraints}
use Rattle.search_moves.specs.Reading.{constraint_in}
use Rattle.search_moves.specs.Waking.{first_up}

-- the store's own word for it
pub first-up_is : (g : Graph) (es : List (ℕ × Constraint (List Hyp))) → first_awake g es ≡ first_up (map (constraint_in g) es)
first-up_is g [] = refl
first-up_is g (e ∷ es) = ap (λ (o : Option ℕ). if awake_in g e.1.keys then Some e.0 else o) (first-up_is g es)

-- it is stored
pub first-up_stored : (g : Graph) (es : List (ℕ × Constraint (List Hyp))) (n : ℕ) → first_up (map (constraint_in g) es) ≡ Some n → list_any (λ e. nat_eq n e.0) es ≡ true
first-up_stored g [] n h = absurd (let z : ◌≡◌ {A = Option ℕ} None (Some n) = h in cc)
first-up_stored g (e ∷ es) n h = go (is_awake (constraint_in g e)) h (λ k. first-up_stored g es n k)
  where
    either : (a b : Bool) → b ≡ true → (a || b) ≡ true
    either true b k = refl
    either false b k = k

    go : (b : Bool) → (if b then Some e.0 else first_up (map (constraint_in g) es)) ≡ Some n → (first_up (map (constraint_in g) es) ≡ Some n → list_any (λ x. nat_eq n x.0) es ≡ true) → list_any (λ x. nat_eq n x.0) (e ∷ es) ≡ true
    go true k later = let same : n ≡ e.0 = (let z : Some e.0 ≡ Some n = k in cc) in ap (λ b. b || list_any (λ x. nat_eq n x.0) es) (eq-eqb n e.0 same)
    go false k later = either (nat_eq n e.0) (list_any (λ x. nat_eq n x.0) es) (later k)

-- its number is past those before it
first-later : (g : Graph) (m : ℕ) (es : List (ℕ × Constraint (List Hyp))) (n : ℕ) → Every (λ e. m < e.0) es → first_up (map (constraint_in g) es) ≡ Some n → m < n
first-later g m [] n w h = absurd (let z : ◌≡◌ {A = Option ℕ} None (Some n) = h in cc)
first-later g m (e ∷ es) n w h = go (is_awake (constraint_in g e)) h (λ k. first-later g m es n w.1 k)
  where
    go : (b : Bool) → (if b then Some e.0 else first_up (map (constraint_in g) es)) ≡ Some n → (first_up (map (constraint_in g) es) ≡ Some n → m < n) → m < n
    go true k later = let same : e.0 ≡ n = (let z : Some e.0 ≡ Some n = k in cc) in let low = w.0 in omega (arith, low, same)
    go false k later = later k

-- none of the later ones has the number
without-later : (n : ℕ) (es : List (ℕ × Constraint (List Hyp))) → Every (λ e. n < e.0) es → without n es ≡ es
without-later n [] w = refl
without-later n (e ∷ es) w =
    let low = w.0 in
    ap (λ b. cond (not b) (e ∷ without n es) (without n es)) (ne_eqb e.0 n (λ k. omega (arith, low, k)))
    ∙ ap (λ (xs : List (ℕ × Constraint (List Hyp))). e ∷ xs) (without-later n es w.1)

pub without-valid : (g : Graph) (n : ℕ) (es : List (ℕ × Constraint (List Hyp))) → AllConstraints g es → AllConstraints g (without n es)
without-valid g n [] v = tt
without-valid g n (e ∷ es) v = go (nat_eq e.0 n) (without-valid g n es v.1)
  where
    go : (b : Bool) → AllConstraints g (without n es) → AllConstraints g (cond (not b) (e ∷ without n es) (without n es))
    go true w = w
    go false w = (v.0, w)

abbrev pub sleeps_on : branch.Constraint → Bool
sleeps_on c = not (is_awake c)

-- what is left when the first awake one has left
pub record Woken (g : Graph) (es : List (ℕ × Constraint (List Hyp))) (n : ℕ) (c : Constraint (List Hyp)) : Type 0 where
  pub first : filter is_awake (map (constraint_in g) es) ≡ constraint_in g (n, c) ∷ filter is_awake (map (constraint_in g) (without n es))
  pub asleep : filter sleeps_on (map (constraint_in g) (without n es)) ≡ filter sleeps_on (map (constraint_in g) es)
  pub valid : IsConstraintAt g c

pub wakes : (g : Graph) (es : List (ℕ × Constraint (List Hyp))) (n : ℕ) (c : Constraint (List Hyp)) → AllConstraints g es → IsAscending es → first_up (map (constraint_in g) es) ≡ Some n → stored_at es n ≡ Some c → Woken g es n c
wakes g [] n c v w h k = absurd (let z : ◌≡◌ {A = Option ℕ} None (Some n) = h in cc)
wakes g (e ∷ es) n c v w h k = go (is_awake (constraint_in g e)) refl h (λ a b. wakes g es n c v.1 w.1 a b)
  where
    read : List (ℕ × Constraint (List Hyp)) → List branch.Constraint
    read xs = map (constraint_in g) xs

    go : (b : Bool) → is_awake (constraint_in g e) ≡ b → (if b then Some e.0 else first_up (map (constraint_in g) es)) ≡ Some n
        → (first_up (map (constraint_in g) es) ≡ Some n → stored_at es n ≡ Some c → Woken g es n c) → Woken g (e ∷ es) n c
    go true up q later =
        let same : n ≡ e.0 = (let z : Some e.0 ≡ Some n = q in cc) in
        let at : Some e.1 ≡ Some c = sym (ap (λ b. cond b (Some e.1) (stored_at es n)) (eq-eqb e.0 n (sym same))) ∙ k in
        let is : e.1 ≡ c = cc in
        let whole : constraint_in g e ≡ constraint_in g (n, c) = ap₂ (λ (m : ℕ) (x : Constraint (List Hyp)). constraint_in g (m, x)) (sym same) is in
        let out : without n (e ∷ es) ≡ es =
        ap (λ b. cond (not b) (e ∷ without n es) (without n es)) (eq-eqb e.0 n (sym same))
        ∙ without-later n es (subst (λ m. Every (λ x. m < x.0) es) (sym same) w.0) in
        record {
          first = ap (λ b. cond b (constraint_in g e ∷ filter is_awake (map (constraint_in g) es)) (filter is_awake (map (constraint_in g) es))) up
              ∙ ap₂ (λ (x : branch.Constraint) (xs : List branch.Constraint). x ∷ xs) whole (ap (λ xs. filter is_awake (map (constraint_in g) xs)) (sym out));
          asleep = ap (λ xs. filter sleeps_on (map (constraint_in g) xs)) out
              ∙ sym (ap (λ b. cond (not b) (constraint_in g e ∷ filter sleeps_on (map (constraint_in g) es)) (filter sleeps_on (map (constraint_in g) es))) up);
          valid = subst (IsConstraintAt g) is v.0;
        }
    go false up q later =
        let past : e.0 < n = first-later g e.0 es n w.0 q in
        let at : stored_at es n ≡ Some c = sym (ap (λ b. cond b (Some e.1) (stored_at es n)) (ne_eqb e.0 n (λ z. omega (arith, past, z)))) ∙ k in
        let more = later q at in
        let kept : without n (e ∷ es) ≡ e ∷ without n es = ap (λ b. cond (not b) (e ∷ without n es) (without n es)) (ne_eqb e.0 n (λ z. omega (arith, past, z))) in
        let skipped : (xs : List (ℕ × Constraint (List Hyp))) → filter is_awake (map (constraint_in g) (e ∷ xs)) ≡ filter is_awake (map (constraint_in g) xs) =
        λ xs. ap (λ b. cond b (constraint_in g e ∷ filter is_awake (map (constraint_in g) xs)) (filter is_awake (map (constraint_in g) xs))) up in
        let taken : (xs : List (ℕ × Constraint (List Hyp))) → filter sleeps_on (map (constraint_in g) (e ∷ xs)) ≡ constraint_in g e ∷ filter sleeps_on (map (constraint_in g) xs) =
        λ xs. ap (λ b. cond (not b) (constraint_in g e ∷ filter sleeps_on (map (constraint_in g) xs)) (filter sleeps_on (map (constraint_in g) xs))) up in
        record {
          first = skipped es ∙ more.first ∙ ap (λ (xs : List branch.Constraint). constraint_in g (n, c) ∷ xs) (sym (skipped (without n es)) ∙ ap (λ xs. filter is_awake (map (constraint_in g) xs)) (sym kept));
          asleep = ap (λ xs. filter sleeps_on (map (constraint_in g) xs)) kept ∙ taken (without n es) ∙ ap (λ (xs : List branch.Constraint). constraint_in g e ∷ xs) more.asleep ∙ sym (taken es);
          valid = more.valid;
        }

-- where none is awake, none is first
pub none-up : (cs : List branch.Constraint) → first_up cs ≡ None → filter is_awake cs ≡ []
none-up [] h = refl
none-up (c ∷ cs) h = go (is_awake c) refl h (λ k. none-up cs k)
  where
    go : (b : Bool) → is_awake c ≡ b → (if b then Some c.number else first_up cs) ≡ None → (first_up cs ≡ None → filter is_awake cs ≡ []) → filter is_awake (c ∷ cs) ≡ []
    go true up q later = absurd (let z : Some c.number ≡ None = q in cc)
    go false up q later = ap (λ b. cond b (c ∷ filter is_awake cs) (filter is_awake cs)) up ∙ later q

-- and all sleep on
pub all-asleep : (cs : List branch.Constraint) → filter is_awake cs ≡ [] → filter sleeps_on cs ≡ cs
all-asleep [] h = refl
all-asleep (c ∷ cs) h = go (is_awake c) refl h (λ k. all-asleep cs k)
  where
    go : (b : Bool) → is_awake c ≡ b → cond b (c ∷ filter is_awake cs) (filter is_awake cs) ≡ [] → (filter is_awake cs ≡ [] → filter sleeps_on cs ≡ cs) → filter sleeps_on (c ∷ cs) ≡ c ∷ cs
    go true up q later = absurd (let z : ◌≡◌ {A = List branch.Constraint} (c ∷ filter is_awake cs) [] = q in cc)
    go false up q later = ap (λ b. cond (not b) (c ∷ filter sleeps_on cs) (filter sleeps_on cs)) up ∙ ap (λ (xs : List branch.Constraint). c ∷ xs) (later q)
