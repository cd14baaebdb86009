-- Numbers of stored constraints, and logs that go on.
use Rattle.std.proofs.Common.{◌≡◌, ℕ, suc, ◌+◌, ◌-◌, ◌<◌, ◌≤◌, Bool, true, false, cond, not, nat_eq, List, [], ◌∷◌, ◌++◌, filter, length, drop, refl, sym, ap, ◌∙◌, arith, length-append, length-drop}
use Rattle.std.proofs.lemmas.List.{append_assoc, drop-drop}
use Rattle.ref_terms.specs.search.Used.{Every}
use Rattle.suspend.specs.declared.constraint.Constraint.{Constraint}
use Rattle.suspend.specs.Store.{Event, joins, leaves, fires, heads, becomes, waits, sleeps, doubts, rests, added, stored, oldest, IsAscending, IsLater}
use Rattle.suspend.proofs.EventLemmas.{every-weaker, every-last, every-filtered}

-- a filtered list keeps its order
ascending-filtered : {X : Type 0} (f : ℕ × Constraint X → Bool) (es : List (ℕ × Constraint X)) → IsAscending es → IsAscending (filter f es)
ascending-filtered f [] w = tt
ascending-filtered f (e ∷ es) w = go (f e) (ascending-filtered f es w.1)
  where
    go : (b : Bool) → IsAscending (filter f es) → IsAscending (cond b (e ∷ filter f es) (filter f es))
    go true u = (every-filtered (λ later. e.0 < later.0) (λ later. e.0 < later.0) f (λ a k z. z) es w.0, u)
    go false u = u

ascending-last : {X : Type 0} (es : List (ℕ × Constraint X)) (n : ℕ) (c : Constraint X) → IsAscending es → Every (λ e. e.0 ≤ n) es → IsAscending (es ++ (suc n, c) ∷ [])
ascending-last [] n c w u = (tt, tt)
ascending-last (e ∷ es) n c w u = (every-last (λ later. e.0 < later.0) es (suc n, c) w.0 (let low = u.0 in omega arith), ascending-last es n c w.1 u.1)

module _ {X : Type 0} where
  pub numbers-below : (log : List (Event X)) → Every (λ e. e.0 ≤ added log) (stored log)
  numbers-below [] = tt
  numbers-below (joins c ∷ log) = every-last (λ e. e.0 ≤ suc (added log)) (stored log) (suc (added log), c) (every-weaker (λ e. e.0 ≤ added log) (λ e. e.0 ≤ suc (added log)) (λ e u. omega (arith, u)) (stored log) (numbers-below log)) (omega arith)
  numbers-below (leaves n ∷ log) = every-filtered (λ e. e.0 ≤ added log) (λ e. e.0 ≤ added log) (λ e. not (nat_eq e.0 n)) (λ a k z. z) (stored log) (numbers-below log)
  numbers-below (fires f ∷ log) = numbers-below log
  numbers-below (heads v n ∷ log) = numbers-below log
  numbers-below (becomes v u ∷ log) = numbers-below log
  numbers-below (waits n ∷ log) = numbers-below log
  numbers-below (sleeps n ∷ log) = numbers-below log
  numbers-below (doubts ∷ log) = numbers-below log
  numbers-below (rests ∷ log) = numbers-below log

  pub numbers-ascend : (log : List (Event X)) → IsAscending (stored log)
  numbers-ascend [] = tt
  numbers-ascend (joins c ∷ log) = ascending-last (stored log) (added log) c (numbers-ascend log) (numbers-below log)
  numbers-ascend (leaves n ∷ log) = ascending-filtered (λ e. not (nat_eq e.0 n)) (stored log) (numbers-ascend log)
  numbers-ascend (fires f ∷ log) = numbers-ascend log
  numbers-ascend (heads v n ∷ log) = numbers-ascend log
  numbers-ascend (becomes v u ∷ log) = numbers-ascend log
  numbers-ascend (waits n ∷ log) = numbers-ascend log
  numbers-ascend (sleeps n ∷ log) = numbers-ascend log
  numbers-ascend (doubts ∷ log) = numbers-ascend log
  numbers-ascend (rests ∷ log) = numbers-ascend log

  pub later-itself : (log : List (Event X)) → IsLater log log
  later-itself log = record { more = []; is = refl }

  pub later-later : (log more most : List (Event X)) → IsLater log more → IsLater more most → IsLater log most
  later-later log more most u w = record { more = w.more ++ u.more; is = w.is ∙ ap (λ xs. w.more ++ xs) u.is ∙ sym (append_assoc w.more u.more log) }

  drop-front : (xs ys : List (Event X)) → drop (length xs) (xs ++ ys) ≡ ys
  drop-front [] ys = refl
  drop-front (x ∷ xs) ys = drop-front xs ys

  pub oldest-earlier : (log more : List (Event X)) → IsLater log more → (length log ≤ length more) × (oldest (length log) more ≡ log)
  oldest-earlier log more w =
      let size : length more ≡ length w.more + length log = ap length w.is ∙ length-append w.more log in
      let rest : length more - length log ≡ length w.more = omega (arith, size) in
      (omega (arith, size), ap (λ n. drop n more) rest ∙ ap (drop (length w.more)) w.is ∙ drop-front w.more log)

  pub oldest-twice : (a b : ℕ) (log : List (Event X)) → a ≤ b → b ≤ length log → (length (oldest b log) ≡ b) × (oldest a (oldest b log) ≡ oldest a log)
  oldest-twice a b log h k =
      let size : length (oldest b log) ≡ b = length-drop (length log - b) log ∙ (let z : length log - (length log - b) ≡ b = omega (arith, k) in z) in
      let sum : (length log - b) + (b - a) ≡ length log - a = omega (arith, h, k) in
      (size, ap (λ n. drop (n - a) (oldest b log)) size ∙ drop-drop (b - a) (length log - b) log ∙ ap (λ n. drop n log) sum)
