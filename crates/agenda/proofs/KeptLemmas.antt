-- How the changes of an agenda's log move the lowest rules of its constraints.
use Rattle.std.proofs.Common.{◌≡◌, ◌⊎◌, ℕ, ◌+◌, ◌*◌, ◌-◌, ◌<◌, ◌≤◌, ◌==◌, Bool, true, false, ◌||◌, ◌&&◌, List, [], ◌∷◌, ◌++◌, reverse, length, suc, zero, get_or, set, arith, sym, ◌∙◌, ap, subst, inl, inr, refl, eq-eqb, if◌then◌else◌, append_assoc, length-set, get_or-set_same, get_or-set_other}
use Rattle.std.specs.Prelude.{not, nat_le, Option, None, Some, is_some, IfSome}
use Rattle.std.proofs.lemmas.Bool.{cases_eq, cases_lt, cases_order, cases_Bool, cond-true, cond-false, or_cases, and_parts, or_left, or_right, lt-leb, leb-true, le-leb, ne_eqb, false_from_ne_true}
use Rattle.std.proofs.lemmas.List.{get_or_default, get_or_past, reverse-append}
use Rattle.agenda.specs.declared.ranks.Entry.{Entry}
use Rattle.agenda.specs.inside.Ranks.{IsFirst}
use Rattle.std.proofs.lemmas.Bool.Decides.{nat_tests}
use Rattle.agenda.specs.declared.Change.{Change}
use Rattle.agenda.specs.declared.Change.TheVariants.{Put, Taken}
use Rattle.agenda.specs.Pairs.{IsOrdered, same, has, put, without}
use Rattle.agenda.specs.Log.{pairs_after, touched, IsLater, AddsAll, cleared}
use Rattle.agenda.specs.inside.Kept.{rank_after, IsStepwise, IsKept, puts}
use Rattle.agenda.proofs.PairLemmas.{has-put, has-without, ordered-put, ordered-without, length-put, length-without, first-is, none-is, same-true, same-refl}

pub ordered_after : (log : List Change) → IsOrdered (pairs_after log)
ordered_after [] = tt
ordered_after (Put r n ∷ older) = ordered-put (r, n) (pairs_after older) (ordered_after older)
ordered_after (Taken r n ∷ older) = ordered-without (r, n) (pairs_after older) (ordered_after older)

-- the rank of the constraint that a change is about, and of the others
rank-here : (n c r k : ℕ) → n ≡ c → (if n == c then r else k) ≡ r
rank-here n c r k e = cond-true (n == c) r k (eq-eqb n c e)

rank-other : (n c r k : ℕ) → (n ≡ c → ⊥) → (if n == c then r else k) ≡ k
rank-other n c r k e = cond-false (n == c) r k (ne_eqb n c e)

pub rank-most : (rules places : ℕ) (log : List Change) → IsStepwise rules places log → (c : ℕ) → rank_after rules log c ≤ rules
rank-most rules places [] steps c = omega arith
rank-most rules places (Put r n ∷ older) steps c =
    elim (cases_eq n c) [
      | inl e ↦ omega (arith, rank-here n c r (rank_after rules older c) e, steps.1)
      | inr e ↦ omega (arith, rank-other n c r (rank_after rules older c) e, rank-most rules places older steps.3 c)
    ]
rank-most rules places (Taken r n ∷ older) steps c =
    elim (cases_eq n c) [
      | inl e ↦ omega (arith, rank-here n c (suc r) (rank_after rules older c) e, steps.1)
      | inr e ↦ omega (arith, rank-other n c (suc r) (rank_after rules older c) e, rank-most rules places older steps.3 c)
    ]

put_step : (r n a c k : ℕ) → (n ≡ c → k ≡ suc r) → (same (r, n) (a, c) || nat_le k a) ≡ nat_le (if n == c then r else k) a
unfolding same
put_step r n a c k h =
    elim (cases_eq n c) [
      | inl e ↦ let at : k ≡ suc r = h e in elim (cases_order r a) [ inl same ↦ grind (arith, nat_tests) | inr apart ↦ grind (arith, nat_tests) ]
      | inr e ↦ grind (arith, nat_tests)
    ]

taken_step : (r n a c k : ℕ) → (n ≡ c → k ≡ r) → (not (same (r, n) (a, c)) && nat_le k a) ≡ nat_le (if n == c then suc r else k) a
unfolding same
taken_step r n a c k h =
    elim (cases_eq n c) [
      | inl e ↦ let at : k ≡ r = h e in elim (cases_order r a) [ inl same ↦ grind (arith, nat_tests) | inr apart ↦ grind (arith, nat_tests) ]
      | inr e ↦ grind (arith, nat_tests)
    ]

-- a rule has a pair with a constraint exactly from the constraint's lowest rule on
pub has-after : (rules places : ℕ) (log : List Change) → IsStepwise rules places log → (a c : ℕ) → a < rules → has (pairs_after log) (a, c) ≡ nat_le (rank_after rules log c) a
has-after rules places [] steps a c within = sym (lt-leb rules a within)
has-after rules places (Put r n ∷ older) steps a c within =
    has-put (r, n) (a, c) (pairs_after older)
    ∙ (ap (λ (d : Bool). same (r, n) (a, c) || d) (has-after rules places older steps.3 a c within)
    ∙ put_step r n a c (rank_after rules older c) (λ e. let P : ℕ → Type 0 = λ m. rank_after rules older m ≡ suc r in subst P e steps.2))
has-after rules places (Taken r n ∷ older) steps a c within =
    has-without (r, n) (a, c) (pairs_after older) (ordered_after older)
    ∙ (ap (λ (d : Bool). not (same (r, n) (a, c)) && d) (has-after rules places older steps.3 a c within)
    ∙ taken_step r n a c (rank_after rules older c) (λ e. let P : ℕ → Type 0 = λ m. rank_after rules older m ≡ r in subst P e steps.2))

-- every pair is of one of the rules
pub rule-within : (rules places : ℕ) (log : List Change) → IsStepwise rules places log → (p : ℕ × ℕ) → has (pairs_after log) p ≡ true → p.0 < rules
rule-within rules places [] steps p h = cc
rule-within rules places (Put r n ∷ older) steps p h =
    elim (or_cases _ _ (sym (has-put (r, n) p (pairs_after older)) ∙ h)) [
      | inl here ↦ let at : r ≡ p.0 = ap (λ (q : ℕ × ℕ). q.0) (same-true (r, n) p here) in omega (arith, at, steps.1)
      | inr there ↦ rule-within rules places older steps.3 p there
    ]
rule-within rules places (Taken r n ∷ older) steps p h =
    rule-within rules places older steps.3 p (and_parts _ _ (sym (has-without (r, n) p (pairs_after older) (ordered_after older)) ∙ h)).1

-- a rule has no pair with a constraint before the constraint's lowest rule
absent-below : (rules places : ℕ) (log : List Change) → IsStepwise rules places log → (a c : ℕ) → a < rules → a < rank_after rules log c → has (pairs_after log) (a, c) ≡ false
absent-below rules places log steps a c within below = has-after rules places log steps a c within ∙ lt-leb (rank_after rules log c) a below

present-from : (rules places : ℕ) (log : List Change) → IsStepwise rules places log → (a c : ℕ) → a < rules → rank_after rules log c ≤ a → has (pairs_after log) (a, c) ≡ true
present-from rules places log steps a c within from = has-after rules places log steps a c within ∙ le-leb (rank_after rules log c) a from

-- more places change nothing
pub stepwise-more : (rules places wider : ℕ) (log : List Change) → places ≤ wider → IsStepwise rules places log → IsStepwise rules wider log
stepwise-more rules places wider [] more steps = tt
stepwise-more rules places wider (Put r n ∷ older) more steps = (omega (arith, steps.0), steps.1, steps.2, stepwise-more rules places wider older more steps.3)
stepwise-more rules places wider (Taken r n ∷ older) more steps = (omega (arith, steps.0), steps.1, steps.2, stepwise-more rules places wider older more steps.3)

-- what putting a constraint in for each rule below its lowest comes to
rank-puts_other : (rules k n c : ℕ) (log : List Change) → (n ≡ c → ⊥) → rank_after rules (puts k n log) c ≡ rank_after rules log c
rank-puts_other rules zero n c log apart = refl
rank-puts_other rules (suc r) n c log apart = rank-puts_other rules r n c (Put r n ∷ log) apart ∙ rank-other n c r (rank_after rules log c) apart

rank-puts_here : (rules k n : ℕ) (log : List Change) → rank_after rules log n ≡ k → rank_after rules (puts k n log) n ≡ 0
rank-puts_here rules zero n log is = is
rank-puts_here rules (suc r) n log is = rank-puts_here rules r n (Put r n ∷ log) (rank-here n n r (rank_after rules log n) refl)

stepwise-puts : (rules places k n : ℕ) (log : List Change) → n < places → k ≤ rules → rank_after rules log n ≡ k → IsStepwise rules places log → IsStepwise rules places (puts k n log)
stepwise-puts rules places zero n log within below is steps = steps
stepwise-puts rules places (suc r) n log within below is steps =
    stepwise-puts rules places r n (Put r n ∷ log) within (omega arith) (rank-here n n r (rank_after rules log n) refl) (within, omega arith, is, steps)

length-puts : (k n : ℕ) (log : List Change) → length (puts k n log) ≡ length log + k
length-puts zero n log = omega arith
length-puts (suc r) n log = omega (arith, length-puts r n (Put r n ∷ log))

count-puts : (rules places k n : ℕ) (log : List Change) → n < places → k ≤ rules → rank_after rules log n ≡ k → IsStepwise rules places log
    → length (pairs_after (puts k n log)) ≡ length (pairs_after log) + k
count-puts rules places zero n log within below is steps = omega arith
count-puts rules places (suc r) n log within below is steps =
    let one : length (put (r, n) (pairs_after log)) ≡ length (pairs_after log) + 1 =
    length-put (r, n) (pairs_after log) (absent-below rules places log steps r n (omega arith) (omega arith)) in
    let rest : length (pairs_after (puts r n (Put r n ∷ log))) ≡ length (put (r, n) (pairs_after log)) + r =
    count-puts rules places r n (Put r n ∷ log) within (omega arith) (rank-here n n r (rank_after rules log n) refl) (within, omega arith, is, steps) in
    omega (arith, one, rest)

touched-below : (rules places k n : ℕ) (log : List Change) → n < places → k ≤ rules → rank_after rules log n ≡ k → IsStepwise rules places log → touched k n log ≡ puts k n log
touched-below rules places zero n log within below is steps = refl
touched-below rules places (suc r) n log within below is steps =
    ap (λ (l : List Change). touched r n l) (cond-false (has (pairs_after log) (r, n)) log (Put r n ∷ log) (absent-below rules places log steps r n (omega arith) (omega arith)))
    ∙ touched-below rules places r n (Put r n ∷ log) within (omega arith) (rank-here n n r (rank_after rules log n) refl) (within, omega arith, is, steps)

touched-from : (rules places m k n : ℕ) (log : List Change) → k ≤ m → m ≤ rules → rank_after rules log n ≡ k → IsStepwise rules places log → touched m n log ≡ touched k n log
touched-from rules places zero k n log from within is steps = let e : k ≡ 0 = omega arith in ap (λ (j : ℕ). touched j n log) (sym e)
touched-from rules places (suc r) k n log from within is steps =
    elim (cases_eq k (suc r)) [
      | inl e ↦ ap (λ (j : ℕ). touched j n log) (sym e)
      | inr apart ↦
          ap (λ (l : List Change). touched r n l) (cond-true (has (pairs_after log) (r, n)) log (Put r n ∷ log) (present-from rules places log steps r n (omega arith) (omega arith)))
          ∙ touched-from rules places r k n log (omega arith) (omega arith) is steps
    ]

pub touched-puts : (rules places k n : ℕ) (log : List Change) → n < places → rank_after rules log n ≡ k → IsStepwise rules places log → puts k n log ≡ touched rules n log
touched-puts rules places k n log within is steps =
    let most : k ≤ rules = omega (arith, is, rank-most rules places log steps n) in
    sym (touched-from rules places rules k n log most (omega arith) is steps ∙ touched-below rules places k n log within most is steps)

-- a touch adds to the log
later-under : (c : Change) (log later : List Change) → IsLater (c ∷ log) later → IsLater log later
later-under c log later l = record { more = l.more ++ c ∷ []; is = l.is ∙ sym (append_assoc l.more (c ∷ []) log) }

pub later-touched : (m n : ℕ) (log : List Change) → IsLater log (touched m n log)
later-touched zero n log = record { more = []; is = refl }
later-touched (suc r) n log =
    elim (has (pairs_after log) (r, n)) as (λ b. IsLater log (touched r n (if b then log else Put r n ∷ log))) [
      | true ↦ later-touched r n log
      | false ↦ later-under (Put r n) log (touched r n (Put r n ∷ log)) (later-touched r n (Put r n ∷ log))
    ]

-- the pairs after a touch
has-touched_old : (m n : ℕ) (log : List Change) (p : ℕ × ℕ) → has (pairs_after log) p ≡ true → has (pairs_after (touched m n log)) p ≡ true
has-touched_old zero n log p h = h
has-touched_old (suc r) n log p h =
    elim (has (pairs_after log) (r, n)) as (λ b. has (pairs_after (touched r n (if b then log else Put r n ∷ log))) p ≡ true) [
      | true ↦ has-touched_old r n log p h
      | false ↦ has-touched_old r n (Put r n ∷ log) p (has-put (r, n) p (pairs_after log) ∙ or_right (same (r, n) p) (has (pairs_after log) p) h)
    ]

has-touched_from : (m n : ℕ) (log : List Change) (p : ℕ × ℕ) → has (pairs_after (touched m n log)) p ≡ true → (has (pairs_after log) p ≡ true) ⊎ ((p.0 < m) × (p.1 ≡ n))
has-touched_from zero n log p h = inl h
has-touched_from (suc r) n log p h =
    let Q : Bool → Type 0 = λ b. has (pairs_after (touched r n (if b then log else Put r n ∷ log))) p ≡ true → (has (pairs_after log) p ≡ true) ⊎ ((p.0 < suc r) × (p.1 ≡ n)) in
    let cases : Q (has (pairs_after log) (r, n)) =
    elim (has (pairs_after log) (r, n)) as (λ b. Q b) [
      | true ↦ λ k. elim (has-touched_from r n log p k) [ inl old ↦ inl old | inr new ↦ inr (omega (arith, new.0), new.1) ]
      | false ↦ λ k. elim (has-touched_from r n (Put r n ∷ log) p k) [
        | inl old ↦ elim (or_cases (same (r, n) p) (has (pairs_after log) p) (sym (has-put (r, n) p (pairs_after log)) ∙ old)) [
          | inl here ↦ let e : (r, n) ≡ p = same-true (r, n) p here in inr (omega (arith, ap (λ (q : ℕ × ℕ). q.0) e), sym (ap (λ (q : ℕ × ℕ). q.1) e))
          | inr there ↦ inl there
        ]
        | inr new ↦ inr (omega (arith, new.0), new.1)
      ]
    ] in
    cases h

has-touched_new : (m n a : ℕ) (log : List Change) → a < m → has (pairs_after (touched m n log)) (a, n) ≡ true
has-touched_new zero n a log h = absurd (omega arith)
has-touched_new (suc r) n a log h =
    elim (cases_eq a r) [
      | inl e ↦ elim (cases_Bool (has (pairs_after log) (r, n))) [
        | inl there ↦ let P : ℕ → Type 0 = λ x. has (pairs_after (touched (suc r) n log)) (x, n) ≡ true in
            subst P (sym e) (has-touched_old (suc r) n log (r, n) there)
        | inr gone ↦
            let P : ℕ → Type 0 = λ x. has (pairs_after (touched (suc r) n log)) (x, n) ≡ true in
            subst P (sym e)
            (ap (λ (l : List Change). has (pairs_after (touched r n l)) (r, n)) (cond-false (has (pairs_after log) (r, n)) log (Put r n ∷ log) gone)
            ∙ has-touched_old r n (Put r n ∷ log) (r, n) (has-put (r, n) (r, n) (pairs_after log) ∙ or_left (same (r, n) (r, n)) (has (pairs_after log) (r, n)) (same-refl (r, n))))
      ]
      | inr apart ↦ elim (has (pairs_after log) (r, n)) as (λ b. has (pairs_after (touched r n (if b then log else Put r n ∷ log))) (a, n) ≡ true) [
        | true ↦ has-touched_new r n a log (omega arith)
        | false ↦ has-touched_new r n a (Put r n ∷ log) (omega arith)
      ]
    ]

pub adds-touched : (m n : ℕ) (log : List Change) → AddsAll m n (pairs_after log) (pairs_after (touched m n log))
adds-touched m n log p = (
  has-touched_from m n log p,
  λ h. elim h [
    | inl old ↦ has-touched_old m n log p old
    | inr new ↦ let P : ℕ → Type 0 = λ c. has (pairs_after (touched m n log)) (p.0, c) ≡ true in subst P (sym new.1) (has-touched_new m n p.0 log new.0)
  ],
)

-- a changed rank is that of the changed log, where the other constraints keep theirs
ranks-set : (rules c v : ℕ) (ranks : List ℕ) (log changed : List Change) → c < length ranks → ((d : ℕ) → get_or ranks d rules ≡ rank_after rules log d)
    → rank_after rules changed c ≡ v → ((d : ℕ) → (c ≡ d → ⊥) → rank_after rules changed d ≡ rank_after rules log d)
    → (d : ℕ) → get_or (set ranks c v) d rules ≡ rank_after rules changed d
ranks-set rules c v ranks log changed within are here others d =
    elim (cases_eq c d) [
      | inl e ↦ let P : ℕ → Type 0 = λ x. get_or (set ranks c v) x rules ≡ rank_after rules changed x in
          subst P e (get_or-set_same ranks c v rules within ∙ sym here)
      | inr apart ↦ get_or-set_other ranks c d v rules (λ e. apart (sym e)) ∙ (are d ∙ sym (others d apart))
    ]

-- the rank of a place is that of the log
pub rank-is : (rules count capacity c : ℕ) (log : List Change) (ranks : List ℕ) → IsKept rules log ranks count capacity → c < length ranks → get_or ranks c 0 ≡ rank_after rules log c
rank-is rules count capacity c log ranks kept within = get_or_default ranks c 0 rules within ∙ kept.ranks_are c

-- an agenda stays kept: with nothing in it
pub kept-new : (rules capacity : ℕ) → IsKept rules [] [] 0 capacity
kept-new rules capacity = record { stepwise = tt; ranks_are = λ c. refl; count_is = refl; room = omega arith }

-- with more places and more room
pub kept-reach : (rules count capacity wider : ℕ) (log : List Change) (ranks more : List ℕ) → length ranks ≤ length more → ((c : ℕ) → get_or more c rules ≡ get_or ranks c rules)
    → capacity ≤ wider → IsKept rules log ranks count capacity → IsKept rules log more count wider
kept-reach rules count capacity wider log ranks more longer alike larger kept = record {
  stepwise = stepwise-more rules (length ranks) (length more) log longer kept.stepwise;
  ranks_are = λ c. alike c ∙ kept.ranks_are c;
  count_is = kept.count_is;
  room = omega (arith, kept.room);
}

-- with a constraint put in
pub kept-puts : (rules count capacity k n : ℕ) (log : List Change) (ranks : List ℕ) → n < length ranks → rank_after rules log n ≡ k → length log + (2 * k + count) ≤ capacity
    → IsKept rules log ranks count capacity → IsKept rules (puts k n log) (set ranks n 0) (count + k) capacity
kept-puts rules count capacity k n log ranks within is room kept =
    let most : k ≤ rules = omega (arith, is, rank-most rules (length ranks) log kept.stepwise n) in
    let same_length : length (set ranks n 0) ≡ length ranks = length-set ranks n 0 in
    record {
      stepwise = stepwise-more rules (length ranks) (length (set ranks n 0)) (puts k n log) (omega (arith, same_length))
          (stepwise-puts rules (length ranks) k n log within most is kept.stepwise);
      ranks_are = ranks-set rules n 0 ranks log (puts k n log) within kept.ranks_are (rank-puts_here rules k n log is) (λ d apart. rank-puts_other rules k n d log apart);
      count_is = omega (arith, kept.count_is, count-puts rules (length ranks) k n log within most is kept.stepwise);
      room = omega (arith, length-puts k n log, room);
    }

-- with a pair taken out
pub kept-taken : (rules count capacity r c : ℕ) (log : List Change) (ranks : List ℕ) → c < length ranks → r < rules → rank_after rules log c ≡ r
    → IsKept rules log ranks count capacity → (0 < count) × IsKept rules (Taken r c ∷ log) (set ranks c (r + 1)) (count - 1) capacity
kept-taken rules count capacity r c log ranks within below is kept =
    let same_length : length (set ranks c (r + 1)) ≡ length ranks = length-set ranks c (r + 1) in
    let one : length (without (r, c) (pairs_after log)) + 1 ≡ length (pairs_after log) =
    length-without (r, c) (pairs_after log) (present-from rules (length ranks) log kept.stepwise r c below (omega (arith, is))) in (
      omega (arith, one, kept.count_is),
      record {
        stepwise = stepwise-more rules (length ranks) (length (set ranks c (r + 1))) (Taken r c ∷ log) (omega (arith, same_length)) (within, below, is, kept.stepwise);
        ranks_are = ranks-set rules c (r + 1) ranks log (Taken r c ∷ log) within kept.ranks_are (rank-here c c (suc r) (rank_after rules log c) refl ∙ omega arith)
            (λ d apart. rank-other c d (suc r) (rank_after rules log d) apart);
        count_is = omega (arith, one, kept.count_is);
        room = omega (arith, one, kept.count_is, kept.room);
      },
    )

-- with the newest change taken back
pub kept-back_put : (rules count capacity r c : ℕ) (log : List Change) (ranks : List ℕ) → IsKept rules (Put r c ∷ log) ranks count capacity
    → (c < length ranks) × (r < rules) × (0 < count) × IsKept rules log (set ranks c (r + 1)) (count - 1) capacity
kept-back_put rules count capacity r c log ranks kept =
    let within : c < length ranks = kept.stepwise.0 in
    let below : r < rules = kept.stepwise.1 in
    let is : rank_after rules log c ≡ suc r = kept.stepwise.2 in
    let same_length : length (set ranks c (r + 1)) ≡ length ranks = length-set ranks c (r + 1) in
    let one : length (put (r, c) (pairs_after log)) ≡ length (pairs_after log) + 1 =
    length-put (r, c) (pairs_after log) (absent-below rules (length ranks) log kept.stepwise.3 r c below (omega (arith, is))) in (
      within,
      below,
      omega (arith, one, kept.count_is),
      record {
        stepwise = stepwise-more rules (length ranks) (length (set ranks c (r + 1))) log (omega (arith, same_length)) kept.stepwise.3;
        ranks_are = ranks-set rules c (r + 1) ranks (Put r c ∷ log) log within kept.ranks_are (is ∙ omega arith)
            (λ d apart. sym (rank-other c d r (rank_after rules log d) apart));
        count_is = omega (arith, one, kept.count_is);
        room = omega (arith, one, kept.count_is, kept.room);
      },
    )

pub kept-back_taken : (rules count capacity r c : ℕ) (log : List Change) (ranks : List ℕ) → IsKept rules (Taken r c ∷ log) ranks count capacity
    → (c < length ranks) × IsKept rules log (set ranks c r) (count + 1) capacity
kept-back_taken rules count capacity r c log ranks kept =
    let within : c < length ranks = kept.stepwise.0 in
    let below : r < rules = kept.stepwise.1 in
    let is : rank_after rules log c ≡ r = kept.stepwise.2 in
    let same_length : length (set ranks c r) ≡ length ranks = length-set ranks c r in
    let one : length (without (r, c) (pairs_after log)) + 1 ≡ length (pairs_after log) =
    length-without (r, c) (pairs_after log) (present-from rules (length ranks) log kept.stepwise.3 r c below (omega (arith, is))) in (
      within,
      record {
        stepwise = stepwise-more rules (length ranks) (length (set ranks c r)) log (omega (arith, same_length)) kept.stepwise.3;
        ranks_are = ranks-set rules c r ranks (Taken r c ∷ log) log within kept.ranks_are is
            (λ d apart. sym (rank-other c d (suc r) (rank_after rules log d) apart));
        count_is = omega (arith, one, kept.count_is);
        room = omega (arith, one, kept.count_is, kept.room);
      },
    )

-- every pair has a place whose rank is no higher than its rule
pair-place : (rules count capacity : ℕ) (log : List Change) (ranks : List ℕ) → IsKept rules log ranks count capacity → (q : ℕ × ℕ) → has (pairs_after log) q ≡ true
    → (q.1 < length ranks) × (get_or ranks q.1 0 ≤ q.0) × (q.0 < rules)
pair-place rules count capacity log ranks kept q h =
    let below : q.0 < rules = rule-within rules (length ranks) log kept.stepwise q h in
    let low : rank_after rules log q.1 ≤ q.0 = leb-true (rank_after rules log q.1) q.0 (sym (has-after rules (length ranks) log kept.stepwise q.0 q.1 below) ∙ h) in
    elim (cases_lt q.1 (length ranks)) [
      | inl within ↦ (within, omega (arith, low, rank-is rules count capacity q.1 log ranks kept within), below)
      | inr past ↦ absurd (omega (arith, low, below, kept.ranks_are q.1, get_or_past ranks q.1 rules past))
    ]

-- where the first least rank is a rule, the first pair is of that rule and place
pub first-pair : (rules count capacity : ℕ) (log : List Change) (ranks : List ℕ) (e : Entry) → IsKept rules log ranks count capacity → IsFirst ranks e → e.rank < rules
    → pairs_after log ≡ (e.rank, e.place) ∷ pairs_after (Taken e.rank e.place ∷ log)
first-pair rules count capacity log ranks e kept first below =
    let is : rank_after rules log e.place ≡ e.rank = sym (rank-is rules count capacity e.place log ranks kept first.within) ∙ first.rank in
    first-is (e.rank, e.place) (pairs_after log) (ordered_after log)
    (present-from rules (length ranks) log kept.stepwise e.rank e.place below (omega (arith, is)))
    (λ q h earlier.
    let at = pair-place rules count capacity log ranks kept q h in
    elim (first.least q.1 at.0) [
      | inl less ↦ elim earlier [ inl lower ↦ omega (arith, at.1, less, lower) | inr tie ↦ omega (arith, at.1, less, tie.0) ]
      | inr alike ↦ elim earlier [ inl lower ↦ omega (arith, at.1, alike.0, lower) | inr tie ↦ omega (arith, alike.1, tie.1) ]
    ])

-- where there is none, there is no pair
pub no-pair : (rules count capacity : ℕ) (log : List Change) (ranks : List ℕ) → IsKept rules log ranks count capacity → ((place : ℕ) → place < length ranks → rules ≤ get_or ranks place 0) → pairs_after log ≡ []
no-pair rules count capacity log ranks kept high =
    none-is (pairs_after log) (λ q. false_from_ne_true (has (pairs_after log) q) (λ h.
    let at = pair-place rules count capacity log ranks kept q h in
    omega (arith, at.1, at.2, high q.1 at.0)))

-- a change that is pushed to the log's end is the newest
pub reversed-push : (items pushed : List Change) (c : Change) → pushed ≡ items ++ c ∷ [] → reverse pushed ≡ c ∷ reverse items
reversed-push items pushed c is = ap reverse is ∙ reverse-append items (c ∷ [])

-- an agenda that is kept, under other names
pub kept-along : (rules count capacity wider : ℕ) (log alike : List Change) (ranks others : List ℕ) → alike ≡ log → others ≡ ranks → wider ≡ capacity
    → IsKept rules log ranks count capacity → IsKept rules alike others count wider
kept-along rules count capacity wider log alike ranks others e f g kept = rw (e, f, g) kept

-- after a touch the pairs are there, and the log has only grown
pub adds-by_log : (rules n : ℕ) (log later : List Change) → later ≡ touched rules n log → AddsAll rules n (pairs_after log) (pairs_after later)
adds-by_log rules n log later is = let P : List Change → Type 0 = λ l. AddsAll rules n (pairs_after log) (pairs_after l) in subst P (sym is) (adds-touched rules n log)

pub later-by_log : (rules n : ℕ) (log later : List Change) → later ≡ touched rules n log → IsLater log later
later-by_log rules n log later is = let P : List Change → Type 0 = λ l. IsLater log l in subst P (sym is) (later-touched rules n log)

IsLater-trans : (a b c : List Change) → IsLater a b → IsLater b c → IsLater a c
IsLater-trans a b c p q = record { more = q.more ++ p.more; is = q.is ∙ (ap (λ (l : List Change). q.more ++ l) p.is ∙ sym (append_assoc q.more p.more a)) }

-- taking the first pair out is the first step of clearing
pub cleared-step : (pair : Option (ℕ × ℕ)) (old new : List (ℕ × ℕ)) (start earlier later : List Change) → is_some pair ≡ true → IfSome pair (λ p. old ≡ p ∷ new)
    → IfSome pair (λ p. later ≡ Taken p.0 p.1 ∷ earlier) → IsLater start earlier → (cleared new later ≡ cleared old earlier) × IsLater start later
cleared-step None old new start earlier later there first log from = cc
cleared-step (Some p) old new start earlier later there first log from = (
  ap (λ (l : List Change). cleared new l) log ∙ sym (ap (λ (ps : List (ℕ × ℕ)). cleared ps earlier) first),
  IsLater-trans start earlier later from (record { more = Taken p.0 p.1 ∷ []; is = log }),
)
