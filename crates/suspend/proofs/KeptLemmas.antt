-- A store's list has its stored numbers, and its constraints stand at their numbers.
use Rattle.std.proofs.Common.{◌≡◌, ◌≢◌, ℕ, suc, ◌-◌, ◌<◌, ◌≤◌, ◌⊎◌, inl, inr, Bool, true, false, cond, ◌||◌, not, nat_eq, List, [], ◌∷◌, ◌++◌, reverse, length, slice_get, refl, sym, ap, ◌∙◌, subst, Option, Some, None, arith, ne_eqb}
use Rattle.std.specs.List.{list_any, AllPairs}
use Rattle.std.specs.Prelude.{slice_index_or}
use Rattle.std.proofs.lemmas.Bool.{eqb-true, eqb-false, cases_order}
use Rattle.std.proofs.lemmas.Bool.Decides.{nat_tests}
use Rattle.std.proofs.lemmas.List.{reverse-reverse, reverse-append, length-reverse}
use Rattle.std.proofs.lemmas.Option.{slice_get-get_or}
use Rattle.level_terms.proofs.ViewLemmas.{slice_get-snoc}
use Rattle.dance_list.specs.Dance.{Unlinked, undone, left_by}
use Rattle.dance_list.specs.declared.cells.Node.{Node}
use Rattle.ref_terms.specs.search.Used.{Every}
use Rattle.suspend.specs.declared.constraint.Constraint.{Constraint}
use Rattle.suspend.specs.declared.constraint.Fired.{Fired}
use Rattle.suspend.specs.declared.note.Note.{Note}
use Rattle.suspend.specs.declared.note.Note.TheVariants.{Joins, Leaves, Fires, Heads, Becomes, Waits, Sleeps, Doubts, Rests}
use Rattle.suspend.specs.Store.{Event, added, stored, without, stored_at, is_stored, IsAscending}
use Rattle.suspend.specs.inside.Kept.{numbered, told, IsKept, Alike}
use Rattle.suspend.specs.inside.Given.{given, with_constraint, AllStored}
use Rattle.suspend.proofs.EventLemmas.{nat-eq-itself}
use Rattle.suspend.proofs.LogLemmas.{numbers-ascend}

nat_eq-suc : (a b : ℕ) → nat_eq a b ≡ nat_eq (suc a) (suc b)
nat_eq-suc a b = grind (arith, nat_tests)

-- numbers and places
pub numbered-newest : {A : Type 0} (xs : List A) (i : ℕ) → numbered xs (suc i) ≡ slice_get (reverse xs) i
numbered-newest [] i = refl
numbered-newest (x ∷ xs) i =
    ap (cond (nat_eq (suc (length xs)) (suc i)) (Some x)) (numbered-newest xs i)
    ∙ ap (λ (b : Bool). cond b (Some x) (slice_get (reverse xs) i)) (sym (nat_eq-suc (length xs) i))
    ∙ ap (λ (k : ℕ). cond (nat_eq k i) (Some x) (slice_get (reverse xs) i)) (sym (length-reverse xs))
    ∙ sym (slice_get-snoc (reverse xs) x i)
    ∙ ap (λ zs. slice_get zs i) (sym (reverse-append (x ∷ []) xs))

pub numbered-low : {A : Type 0} (xs : List A) (k : ℕ) (x : A) → numbered xs k ≡ Some x → (1 ≤ k) × (k ≤ length xs)
numbered-low [] k x e = absurd (let z : None ≡ Some x = e in cc)
numbered-low {A} (y ∷ xs) k x e = go (nat_eq (suc (length xs)) k) refl (λ z. numbered-low xs k x z)
  where
    go : (b : Bool) → nat_eq (suc (length xs)) k ≡ b → (numbered xs k ≡ Some x → (1 ≤ k) × (k ≤ length xs)) → (1 ≤ k) × (k ≤ suc (length xs))
    go true p f = let z = eqb-true (suc (length xs)) k p in (omega (arith, z), omega (arith, z))
    go false p f =
        let rest : numbered xs k ≡ Some x = sym (ap (λ (b : Bool). cond b (Some y) (numbered xs k)) p) ∙ e in
        let low = f rest in
        (low.0, omega (arith, low.1))

pub numbered-at : {A : Type 0} (xs : List A) (k : ℕ) (x d : A) → numbered (reverse xs) k ≡ Some x → (1 ≤ k) × (k - 1 < length xs) × (slice_index_or xs (k - 1) d ≡ x)
numbered-at {A} xs k x d e =
    let low = numbered-low (reverse xs) k x e in
    let within : k - 1 < length xs = omega (arith, low.0, low.1, length-reverse xs) in
    let next : suc (k - 1) ≡ k = omega (arith, low.0) in
    let here : slice_get xs (k - 1) ≡ Some x = ap (λ zs. slice_get zs (k - 1)) (sym (reverse-reverse xs)) ∙ sym (numbered-newest (reverse xs) (k - 1)) ∙ ap (numbered (reverse xs)) next ∙ e in
    let same : Some (slice_index_or xs (k - 1) d) ≡ Some x = sym (slice_get-get_or xs (k - 1) d within) ∙ here in
    (low.0, within, unwrapped same)
  where
    value : Option A → A
    value (Some z) = z
    value None = d

    unwrapped : Some (slice_index_or xs (k - 1) d) ≡ Some x → slice_index_or xs (k - 1) d ≡ x
    unwrapped z = ap value z

numbered-older : {A : Type 0} (y : A) (xs : List A) (k : ℕ) (x : A) → numbered xs k ≡ Some x → numbered (y ∷ xs) k ≡ Some x
numbered-older y xs k x e =
    let low = numbered-low xs k x e in
    let apart : nat_eq (suc (length xs)) k ≡ false = ne_eqb (suc (length xs)) k (omega (arith, low.1)) in
    ap (λ (b : Bool). cond b (Some y) (numbered xs k)) apart ∙ e

pub numbered-first : {A : Type 0} (x : A) (xs : List A) → numbered (x ∷ xs) (suc (length xs)) ≡ Some x
numbered-first x xs = ap (λ (b : Bool). cond b (Some x) (numbered xs (suc (length xs)))) (nat-eq-itself (suc (length xs)))

-- where none stands twice, a number is known by what it is the number of
pub numbered-once : (xs : List Node) (a b : ℕ) (n : Node) → AllPairs (λ m k. m ≢ k) xs → numbered (reverse xs) a ≡ Some n → numbered (reverse xs) b ≡ Some n → a ≡ b
numbered-once xs a b n once e f = go (cases_order a b)
  where
    apart : (i j : ℕ) → numbered (reverse xs) i ≡ Some n → numbered (reverse xs) j ≡ Some n → i < j → ⊥
    apart i j p q less =
        let first = numbered-at xs i n n p in
        let second = numbered-at xs j n n q in
        once (i - 1) (j - 1) n (omega (arith, less, first.0, second.0)) second.1 (first.2 ∙ sym second.2)

    go : (a ≡ b) ⊎ ((a < b) ⊎ (b < a)) → a ≡ b
    go (inl z) = z
    go (inr (inl z)) = absurd (apart a b e f z)
    go (inr (inr z)) = absurd (apart b a f e z)

-- a stored number stands in the list
pub record Stands (ns : List Node) (ls : List (Node × ℕ)) (k : ℕ) : Type 0 where
  pub before : List (Node × ℕ)
  pub node : Node
  pub after : List (Node × ℕ)
  pub split : ls ≡ before ++ (node, k) ∷ after
  pub at : numbered ns k ≡ Some node

-- a list and its constraints
module _ {X : Type 0} where
  alike-more : (c : Constraint X) (cs : List (Constraint X)) (n : Node) (ns : List Node) (ls : List (Node × ℕ)) (es : List (ℕ × Constraint X)) → Alike cs ns ls es → Alike (c ∷ cs) (n ∷ ns) ls es
  alike-more c cs n ns [] [] w = tt
  alike-more c cs n ns [] (e ∷ es) w = elim w [ ]
  alike-more c cs n ns (l ∷ ls) [] w = elim w [ ]
  alike-more c cs n ns (l ∷ ls) (e ∷ es) w = (w.0, numbered-older n ns e.0 l.0 w.1, numbered-older c cs e.0 e.1 w.2, alike-more c cs n ns ls es w.3)

  alike-last : (cs : List (Constraint X)) (ns : List Node) (n : Node) (k : ℕ) (c : Constraint X) → numbered ns k ≡ Some n → numbered cs k ≡ Some c → (ls : List (Node × ℕ)) (es : List (ℕ × Constraint X)) → Alike cs ns ls es → Alike cs ns (ls ++ (n, k) ∷ []) (es ++ (k, c) ∷ [])
  alike-last cs ns n k c p q [] [] w = (refl, p, q, tt)
  alike-last cs ns n k c p q [] (e ∷ es) w = elim w [ ]
  alike-last cs ns n k c p q (l ∷ ls) [] w = elim w [ ]
  alike-last cs ns n k c p q (l ∷ ls) (e ∷ es) w = (w.0, w.1, w.2, alike-last cs ns n k c p q ls es w.3)

  -- none of a list has a number that is below all
  without-none : (k : ℕ) (es : List (ℕ × Constraint X)) → Every (λ e. k < e.0) es → without k es ≡ es
  without-none k [] w = refl
  without-none k (e ∷ es) w =
      let less = w.0 in
      let apart : nat_eq e.0 k ≡ false = ne_eqb e.0 k (omega (arith, less)) in
      ap (λ (b : Bool). cond (not b) (e ∷ without k es) (without k es)) apart ∙ ap (λ zs. e ∷ zs) (without-none k es w.1)

  alike-past : (cs : List (Constraint X)) (ns : List Node) (xs ys : List (Node × ℕ)) (n : Node) (k p : ℕ) (es : List (ℕ × Constraint X)) → Alike cs ns (xs ++ (n, k) ∷ ys) es → Every (λ e. p < e.0) es → p < k
  alike-past cs ns [] ys n k p [] w u = elim w [ ]
  alike-past cs ns [] ys n k p (e ∷ es) w u = let less = u.0 in let same = w.0 in omega (arith, less, same)
  alike-past cs ns (x ∷ xs) ys n k p [] w u = elim w [ ]
  alike-past cs ns (x ∷ xs) ys n k p (e ∷ es) w u = alike-past cs ns xs ys n k p es w.3 u.1

  alike-left : (cs : List (Constraint X)) (ns : List Node) (xs ys : List (Node × ℕ)) (n : Node) (k : ℕ) (es : List (ℕ × Constraint X)) → Alike cs ns (xs ++ (n, k) ∷ ys) es → IsAscending es → Alike cs ns (xs ++ ys) (without k es)
  alike-left cs ns [] ys n k [] w u = elim w [ ]
  alike-left cs ns [] ys n k (e ∷ es) w u =
      let here : nat_eq e.0 k ≡ true = ap (nat_eq e.0) w.0 ∙ nat-eq-itself e.0 in
      let less : Every (λ z. k < z.0) es = subst (λ (m : ℕ). Every (λ z. m < z.0) es) (sym w.0) u.0 in
      let rest : without k (e ∷ es) ≡ es = ap (λ (b : Bool). cond (not b) (e ∷ without k es) (without k es)) here ∙ without-none k es less in
      subst (λ zs. Alike cs ns ys zs) (sym rest) w.3
  alike-left cs ns (x ∷ xs) ys n k [] w u = elim w [ ]
  alike-left cs ns (x ∷ xs) ys n k (e ∷ es) w u =
      let less : e.0 < k = alike-past cs ns xs ys n k e.0 es w.3 u.0 in
      let apart : nat_eq e.0 k ≡ false = ne_eqb e.0 k (omega (arith, less)) in
      let rest : without k (e ∷ es) ≡ e ∷ without k es = ap (λ (b : Bool). cond (not b) (e ∷ without k es) (without k es)) apart in
      subst (λ zs. Alike cs ns (x ∷ (xs ++ ys)) zs) (sym rest) (w.0, w.1, w.2, alike-left cs ns xs ys n k es w.3 u.1)

  pub alike-at : (cs : List (Constraint X)) (ns : List Node) (xs ys : List (Node × ℕ)) (n : Node) (k : ℕ) (es : List (ℕ × Constraint X)) → Alike cs ns (xs ++ (n, k) ∷ ys) es → numbered ns k ≡ Some n
  alike-at cs ns [] ys n k [] w = elim w [ ]
  alike-at cs ns [] ys n k (e ∷ es) w = ap (numbered ns) w.0 ∙ w.1
  alike-at cs ns (x ∷ xs) ys n k [] w = elim w [ ]
  alike-at cs ns (x ∷ xs) ys n k (e ∷ es) w = alike-at cs ns xs ys n k es w.3

  pub alike-stands : (cs : List (Constraint X)) (ns : List Node) (ls : List (Node × ℕ)) (es : List (ℕ × Constraint X)) (k : ℕ) → Alike cs ns ls es → list_any (λ e. nat_eq k e.0) es ≡ true → Stands ns ls k
  alike-stands cs ns [] [] k w h = absurd (let z : false ≡ true = h in cc)
  alike-stands cs ns [] (e ∷ es) k w h = elim w [ ]
  alike-stands cs ns (l ∷ ls) [] k w h = elim w [ ]
  alike-stands cs ns (l ∷ ls) (e ∷ es) k w h = go (nat_eq k e.0) refl (λ z. alike-stands cs ns ls es k w.3 z)
    where
      go : (b : Bool) → nat_eq k e.0 ≡ b → (list_any (λ z. nat_eq k z.0) es ≡ true → Stands ns ls k) → Stands ns (l ∷ ls) k
      go true p f =
          let same : k ≡ e.0 = eqb-true k e.0 p in
          let number : l.1 ≡ k = w.0 ∙ sym same in
          record { before = []; node = l.0; after = ls; split = ap (λ (m : ℕ). (l.0, m) ∷ ls) number; at = ap (numbered ns) same ∙ w.1 }
      go false p f =
          let rest = f (sym (ap (λ (b : Bool). b || list_any (λ z. nat_eq k z.0) es) p) ∙ h) in
          record { before = l ∷ rest.before; node = rest.node; after = rest.after; split = ap (λ zs. l ∷ zs) rest.split; at = rest.at }

  pub alike-found : (cs : List (Constraint X)) (ns : List Node) (ls : List (Node × ℕ)) (es : List (ℕ × Constraint X)) (k : ℕ) → Alike cs ns ls es → list_any (λ e. nat_eq k e.0) es ≡ true → (c : Constraint X) × (numbered cs k ≡ Some c) × (stored_at es k ≡ Some c)
  alike-found cs ns [] [] k w h = absurd (let z : false ≡ true = h in cc)
  alike-found cs ns [] (e ∷ es) k w h = elim w [ ]
  alike-found cs ns (l ∷ ls) [] k w h = elim w [ ]
  alike-found cs ns (l ∷ ls) (e ∷ es) k w h = go (nat_eq k e.0) refl (λ z. alike-found cs ns ls es k w.3 z)
    where
      go : (b : Bool) → nat_eq k e.0 ≡ b → (list_any (λ z. nat_eq k z.0) es ≡ true → (c : Constraint X) × (numbered cs k ≡ Some c) × (stored_at es k ≡ Some c))
          → (c : Constraint X) × (numbered cs k ≡ Some c) × (stored_at (e ∷ es) k ≡ Some c)
      go true p f =
          let same : k ≡ e.0 = eqb-true k e.0 p in
          let here : nat_eq e.0 k ≡ true = ap (nat_eq e.0) same ∙ nat-eq-itself e.0 in
          (e.1, ap (numbered cs) same ∙ w.2, ap (λ (b : Bool). cond b (Some e.1) (stored_at es k)) here)
      go false p f =
          let rest = f (sym (ap (λ (b : Bool). b || list_any (λ z. nat_eq k z.0) es) p) ∙ h) in
          let apart : nat_eq e.0 k ≡ false = ne_eqb e.0 k (λ z. eqb-false k e.0 p (sym z)) in
          (rest.0, rest.1, ap (λ (b : Bool). cond b (Some e.1) (stored_at es k)) apart ∙ rest.2)

  pub alike-length : (cs : List (Constraint X)) (ns : List Node) (ls : List (Node × ℕ)) (es : List (ℕ × Constraint X)) → Alike cs ns ls es → length ls ≡ length es
  alike-length cs ns [] [] w = refl
  alike-length cs ns [] (e ∷ es) w = elim w [ ]
  alike-length cs ns (l ∷ ls) [] w = elim w [ ]
  alike-length cs ns (l ∷ ls) (e ∷ es) w = ap suc (alike-length cs ns ls es w.3)

  -- what iteration gives
  some-same : (c d : Constraint X) → Some c ≡ Some d → c ≡ d
  some-same c d e = ap value e
    where
      value : Option (Constraint X) → Constraint X
      value (Some z) = z
      value None = c

  given-rest : (cs : List (Constraint X)) (ns : List Node) (ls : List (Node × ℕ)) (es : List (ℕ × Constraint X)) → Alike cs ns ls es
      → (ls' : List (Node × ℕ)) (es' : List (ℕ × Constraint X)) → Alike cs ns ls' es' → Every (λ e. list_any (λ z. nat_eq e.0 z.0) es ≡ true) es' → given es ls' ≡ es'
  given-rest cs ns ls es all [] [] w u = refl
  given-rest cs ns ls es all [] (e ∷ es') w u = elim w [ ]
  given-rest cs ns ls es all (l ∷ ls') [] w u = elim w [ ]
  given-rest cs ns ls es all (l ∷ ls') (e ∷ es') w u =
      let found = alike-found cs ns ls es e.0 all u.0 in
      let same : found.0 ≡ e.1 = some-same found.0 e.1 (sym found.1 ∙ w.2) in
      ap (λ (m : ℕ). with_constraint m (stored_at es m) (given es ls')) w.0
      ∙ ap (λ (o : Option (Constraint X)). with_constraint e.0 o (given es ls')) (found.2 ∙ ap (λ (c : Constraint X). Some c) same)
      ∙ ap (λ zs. e ∷ zs) (given-rest cs ns ls es all ls' es' w.3 u.1)

  any-later : (k : ℕ) (xs : List (ℕ × Constraint X)) (e : ℕ × Constraint X) → list_any (λ z. nat_eq k z.0) xs ≡ true → list_any (λ z. nat_eq k z.0) (e ∷ xs) ≡ true
  any-later k xs e h = go (nat_eq k e.0)
    where
      go : (b : Bool) → (b || list_any (λ z. nat_eq k z.0) xs) ≡ true
      go true = refl
      go false = h

  any-each : (es all : List (ℕ × Constraint X)) → ((k : ℕ) → list_any (λ z. nat_eq k z.0) es ≡ true → list_any (λ z. nat_eq k z.0) all ≡ true) → Every (λ e. list_any (λ z. nat_eq e.0 z.0) all ≡ true) es
  any-each [] all h = tt
  any-each (e ∷ es) all h = (h e.0 (ap (λ (b : Bool). b || list_any (λ z. nat_eq e.0 z.0) es) (nat-eq-itself e.0)), any-each es all (λ k z. h k (any-later k es e z)))

  pub alike-given : (cs : List (Constraint X)) (ns : List Node) (ls : List (Node × ℕ)) (es : List (ℕ × Constraint X)) → Alike cs ns ls es → given es ls ≡ es
  alike-given cs ns ls es w = given-rest cs ns ls es w ls es w (any-each es es (λ k z. z))

  all-stored : (log : List (Event X)) (cs : List (Constraint X)) (ns : List Node) (ls : List (Node × ℕ)) (es : List (ℕ × Constraint X)) → Alike cs ns ls es → Every (λ e. is_stored log e.0 ≡ true) es → AllStored log ls
  all-stored log cs ns [] [] w u = tt
  all-stored log cs ns [] (e ∷ es) w u = elim w [ ]
  all-stored log cs ns (l ∷ ls) [] w u = elim w [ ]
  all-stored log cs ns (l ∷ ls) (e ∷ es) w u = (ap (λ (m : ℕ). is_stored log m) w.0 ∙ u.0, all-stored log cs ns ls es w.3 u.1)

  pub alike-stored : (log : List (Event X)) (cs : List (Constraint X)) (ns : List Node) (ls : List (Node × ℕ)) → Alike cs ns ls (stored log) → AllStored log ls
  alike-stored log cs ns ls w = all-stored log cs ns ls (stored log) w (any-each (stored log) (stored log) (λ k z. z))

  -- a store as it is kept
  pub kept-nodes : (notes : List Note) (cs : List (Constraint X)) (fs : List Fired) (ns : List Node) (ls : List (Node × ℕ)) (us : List (Unlinked ℕ)) → IsKept notes cs fs ns ls us → length ns ≡ length cs
  kept-nodes [] cs fs ns ls us w = ap length w.2 ∙ sym (ap length w.0)
  kept-nodes (Joins ∷ older) cs fs ns ls us w = ap length w.6 ∙ ap suc (kept-nodes older w.1 fs w.3 w.4 us w.8) ∙ sym (ap length w.5)
  kept-nodes (Leaves k ∷ older) cs fs ns ls us w = kept-nodes older cs fs ns (undone w.0) w.1 w.6
  kept-nodes (Fires ∷ older) cs fs ns ls us w = kept-nodes older cs w.1 ns ls us w.3
  kept-nodes (Heads v n ∷ older) cs fs ns ls us w = kept-nodes older cs fs ns ls us w
  kept-nodes (Becomes v u' ∷ older) cs fs ns ls us w = kept-nodes older cs fs ns ls us w
  kept-nodes (Waits n ∷ older) cs fs ns ls us w = kept-nodes older cs fs ns ls us w
  kept-nodes (Sleeps n ∷ older) cs fs ns ls us w = kept-nodes older cs fs ns ls us w
  kept-nodes (Doubts ∷ older) cs fs ns ls us w = kept-nodes older cs fs ns ls us w
  kept-nodes (Rests ∷ older) cs fs ns ls us w = kept-nodes older cs fs ns ls us w

  pub kept-added : (notes : List Note) (cs : List (Constraint X)) (fs : List Fired) (ns : List Node) (ls : List (Node × ℕ)) (us : List (Unlinked ℕ)) → IsKept notes cs fs ns ls us → added (told notes cs fs) ≡ length cs
  kept-added [] cs fs ns ls us w = sym (ap length w.0)
  kept-added (Joins ∷ older) cs fs ns ls us w = ap (λ zs. added (told (Joins ∷ older) zs fs)) w.5 ∙ ap suc (kept-added older w.1 fs w.3 w.4 us w.8) ∙ sym (ap length w.5)
  kept-added (Leaves k ∷ older) cs fs ns ls us w = kept-added older cs fs ns (undone w.0) w.1 w.6
  kept-added (Fires ∷ older) cs fs ns ls us w = ap (λ zs. added (told (Fires ∷ older) cs zs)) w.2 ∙ kept-added older cs w.1 ns ls us w.3
  kept-added (Heads v n ∷ older) cs fs ns ls us w = kept-added older cs fs ns ls us w
  kept-added (Becomes v u' ∷ older) cs fs ns ls us w = kept-added older cs fs ns ls us w
  kept-added (Waits n ∷ older) cs fs ns ls us w = kept-added older cs fs ns ls us w
  kept-added (Sleeps n ∷ older) cs fs ns ls us w = kept-added older cs fs ns ls us w
  kept-added (Doubts ∷ older) cs fs ns ls us w = kept-added older cs fs ns ls us w
  kept-added (Rests ∷ older) cs fs ns ls us w = kept-added older cs fs ns ls us w

  pub kept-length : (notes : List Note) (cs : List (Constraint X)) (fs : List Fired) (ns : List Node) (ls : List (Node × ℕ)) (us : List (Unlinked ℕ)) → IsKept notes cs fs ns ls us → length (told notes cs fs) ≡ length notes
  kept-length [] cs fs ns ls us w = refl
  kept-length (Joins ∷ older) cs fs ns ls us w = ap (λ zs. length (told (Joins ∷ older) zs fs)) w.5 ∙ ap suc (kept-length older w.1 fs w.3 w.4 us w.8)
  kept-length (Leaves k ∷ older) cs fs ns ls us w = ap suc (kept-length older cs fs ns (undone w.0) w.1 w.6)
  kept-length (Fires ∷ older) cs fs ns ls us w = ap (λ zs. length (told (Fires ∷ older) cs zs)) w.2 ∙ ap suc (kept-length older cs w.1 ns ls us w.3)
  kept-length (Heads v n ∷ older) cs fs ns ls us w = ap suc (kept-length older cs fs ns ls us w)
  kept-length (Becomes v u' ∷ older) cs fs ns ls us w = ap suc (kept-length older cs fs ns ls us w)
  kept-length (Waits n ∷ older) cs fs ns ls us w = ap suc (kept-length older cs fs ns ls us w)
  kept-length (Sleeps n ∷ older) cs fs ns ls us w = ap suc (kept-length older cs fs ns ls us w)
  kept-length (Doubts ∷ older) cs fs ns ls us w = ap suc (kept-length older cs fs ns ls us w)
  kept-length (Rests ∷ older) cs fs ns ls us w = ap suc (kept-length older cs fs ns ls us w)

  joined : (older : List Note) (c : Constraint X) (cs : List (Constraint X)) (fs : List Fired) (n : Node) (ns : List Node) (ls : List (Node × ℕ)) (us : List (Unlinked ℕ)) → IsKept older cs fs ns ls us
      → Alike cs ns ls (stored (told older cs fs)) → Alike (c ∷ cs) (n ∷ ns) (ls ++ (n, suc (length cs)) ∷ []) (stored (told (Joins ∷ older) (c ∷ cs) fs))
  joined older c cs fs n ns ls us w u =
      let node : numbered (n ∷ ns) (suc (length cs)) ≡ Some n = ap (λ (k : ℕ). numbered (n ∷ ns) (suc k)) (sym (kept-nodes older cs fs ns ls us w)) ∙ numbered-first n ns in
      let all = alike-last (c ∷ cs) (n ∷ ns) n (suc (length cs)) c node (numbered-first c cs) ls (stored (told older cs fs)) (alike-more c cs n ns ls (stored (told older cs fs)) u) in
      subst (λ (k : ℕ). Alike (c ∷ cs) (n ∷ ns) (ls ++ (n, suc (length cs)) ∷ []) (stored (told older cs fs) ++ (suc k, c) ∷ [])) (sym (kept-added older cs fs ns ls us w)) all

  pub kept-alike : (notes : List Note) (cs : List (Constraint X)) (fs : List Fired) (ns : List Node) (ls : List (Node × ℕ)) (us : List (Unlinked ℕ)) → IsKept notes cs fs ns ls us → Alike cs ns ls (stored (told notes cs fs))
  kept-alike [] cs fs ns ls us w = subst (λ zs. Alike cs ns zs []) (sym w.3) tt
  kept-alike (Joins ∷ older) cs fs ns ls us w =
      subst (λ zs. Alike zs ns ls (stored (told (Joins ∷ older) zs fs))) (sym w.5)
      (subst (λ zs. Alike (w.0 ∷ w.1) zs ls (stored (told (Joins ∷ older) (w.0 ∷ w.1) fs))) (sym w.6)
      (subst (λ zs. Alike (w.0 ∷ w.1) (w.2 ∷ w.3) zs (stored (told (Joins ∷ older) (w.0 ∷ w.1) fs))) (sym w.7)
      (joined older w.0 w.1 fs w.2 w.3 w.4 us w.8 (kept-alike older w.1 fs w.3 w.4 us w.8))))
  kept-alike (Leaves k ∷ older) cs fs ns ls us w =
      let u = w.0 in
      let log = told older cs fs in
      let rest = alike-left cs ns u.2 u.3 u.0 u.1 (stored log) (kept-alike older cs fs ns (undone u) w.1 w.6) (numbers-ascend log) in
      subst (λ zs. Alike cs ns zs (without k (stored log))) (sym w.5) (subst (λ (m : ℕ). Alike cs ns (left_by u) (without m (stored log))) w.3 rest)
  kept-alike (Fires ∷ older) cs fs ns ls us w = subst (λ zs. Alike cs ns ls (stored (told (Fires ∷ older) cs zs))) (sym w.2) (kept-alike older cs w.1 ns ls us w.3)
  kept-alike (Heads v n ∷ older) cs fs ns ls us w = kept-alike older cs fs ns ls us w
  kept-alike (Becomes v u' ∷ older) cs fs ns ls us w = kept-alike older cs fs ns ls us w
  kept-alike (Waits n ∷ older) cs fs ns ls us w = kept-alike older cs fs ns ls us w
  kept-alike (Sleeps n ∷ older) cs fs ns ls us w = kept-alike older cs fs ns ls us w
  kept-alike (Doubts ∷ older) cs fs ns ls us w = kept-alike older cs fs ns ls us w
  kept-alike (Rests ∷ older) cs fs ns ls us w = kept-alike older cs fs ns ls us w
