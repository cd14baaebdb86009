-- What the status of a search comes of.
use Rattle.std.proofs.Common.{◌≡◌, ℕ, zero, suc, ◌+◌, ◌<◌, Bool, true, false, cond, nat_eq, codes, List, [], ◌∷◌, ◌++◌, ◌⊎◌, inl, inr, refl, ap, sym, subst, ◌∙◌, arith, append_assoc, append-nil, add-zero, zero-add, ne_eqb, eq-eqb, eqb-true}
use Rattle.std.proofs.lemmas.Bool.{eqb-false}
use Rattle.std.specs.Bool.{⊤}
use Rattle.ref_terms.specs.search.Program.{QueryVar}
use Rattle.ref_terms.specs.search.Fault.{fault_name}
use Rattle.ref_terms.specs.search.Branch.{Branch}
use Rattle.ref_terms.specs.search.State.{Event, Moved, Printed, Answered, Failure, Faulted}
use Rattle.ref_terms.specs.texts.Answer.{answer_block}
use Rattle.elpi_cli.specs.declared.status.Status.{Status}
use Rattle.elpi_cli.specs.declared.status.Status.TheVariants.{Done, NoAnswer, Fault, Budget}
use Rattle.elpi_cli.specs.Output.{Output, line, line_only, preceded, after_failure, written}
use Rattle.elpi_cli.specs.Causes.{EndsWith, AreOnTheWay, answers_in, IsWanted, ComesTo, HasFaulted, HasRunOut, HasFailed, HasNoMore, HasStopped}

-- the cause of a search's status
abbrev pub SearchCause : Status → (limit : ℕ) → List Event → (last : List ℕ) → Type 0
SearchCause Done limit shown last = HasNoMore limit shown last ⊎ HasStopped limit shown last
SearchCause NoAnswer limit shown last = HasFailed limit shown last
SearchCause Fault limit shown last = HasFaulted limit shown last
SearchCause Budget limit shown last = HasRunOut limit shown last
SearchCause status limit shown last = ⊥

-- one of the causes is there, and its line is the output's last
abbrev pub IsCaused : (limit : ℕ) → List Event → Output → Type 0
IsCaused limit shown out = (last : List ℕ) × SearchCause out.status limit shown last × EndsWith out last

-- the limit isn't reached by this answer
goes-on : (limit count : ℕ) (block : List ℕ) (stopped later : Output) → nat_eq (suc count) limit ≡ false → preceded (block ∷ []) (cond (nat_eq (suc count) limit) stopped later) ≡ preceded (block ∷ []) later
goes-on limit count block stopped later more = ap (λ (test : Bool). preceded (block ∷ []) (cond test stopped later)) more

-- it is
stops-there : (limit count : ℕ) (block : List ℕ) (stopped later : Output) → suc count ≡ limit → preceded (block ∷ []) (cond (nat_eq (suc count) limit) stopped later) ≡ preceded (block ∷ []) stopped
stops-there limit count block stopped later reached = ap (λ (test : Bool). preceded (block ∷ []) (cond test stopped later)) (eq-eqb (suc count) limit reached)

-- one answer more before the others
add-answer : (count more : ℕ) → suc count + more ≡ count + suc more
add-answer count more = omega arith

-- another is wanted, so this answer doesn't reach the limit
not-reached : (limit count more : ℕ) → IsWanted limit (count + suc more) → nat_eq (suc count) limit ≡ false
not-reached limit count more wanted = ne_eqb (suc count) limit (λ e. absurd (let some : 0 < limit = omega (arith, e) in omega (arith, e, wanted some)))

-- what is written of the events behind those on the way stands behind pieces
on-the-way : (table : List (List ℕ)) (variables : List QueryVar) (limit count : ℕ) (before rest : List Event) → AreOnTheWay before → IsWanted limit (count + answers_in before)
    → (pieces : List (List ℕ)) × (written table variables limit count (before ++ rest) ≡ preceded pieces (written table variables limit (count + answers_in before) rest))
on-the-way table variables limit count [] rest way wanted = ([], ap (λ (n : ℕ). written table variables limit n rest) (sym (add-zero count)))
on-the-way table variables limit count (Moved ∷ before) rest way wanted = on-the-way table variables limit count before rest way wanted
on-the-way table variables limit count (Printed text ∷ before) rest way wanted =
    let later = on-the-way table variables limit count before rest way wanted in
    (text ∷ later.0, ap (preceded (text ∷ [])) later.1)
on-the-way table variables limit count (Answered branch ∷ before) rest way wanted =
    let later = on-the-way table variables limit (suc count) before rest way (subst (IsWanted limit) (sym (add-answer count (answers_in before))) wanted) in
    let block = answer_block table variables (suc count) branch in (
      block ∷ later.0,
      goes-on limit count block (line_only (line (codes "stopped")) Done) (written table variables limit (suc count) (before ++ rest)) (not-reached limit count (answers_in before) wanted)
          ∙ ap (preceded (block ∷ [])) (later.1 ∙ ap (λ (n : ℕ). preceded later.0 (written table variables limit n rest)) (add-answer count (answers_in before))),
    )
on-the-way table variables limit count (Failure ∷ before) rest way wanted = absurd way
on-the-way table variables limit count (Faulted fault ∷ before) rest way wanted = absurd way

-- the same from the first event on
from-first : (table : List (List ℕ)) (variables : List QueryVar) (limit : ℕ) (before rest : List Event) → AreOnTheWay before → IsWanted limit (answers_in before)
    → (pieces : List (List ℕ)) × (written table variables limit 0 (before ++ rest) ≡ preceded pieces (written table variables limit (answers_in before) rest))
from-first table variables limit before rest way wanted =
    let found = on-the-way table variables limit 0 before rest way (subst (IsWanted limit) (sym (zero-add (answers_in before))) wanted) in
    (found.0, found.1 ∙ ap (λ (n : ℕ). preceded found.0 (written table variables limit n rest)) (zero-add (answers_in before)))

-- after so many answers the search ends with the first of these events
abbrev EndsHere : (limit count : ℕ) → List Event → Type 0
EndsHere limit count [] = ⊤
EndsHere limit count (Moved ∷ later) = ⊥
EndsHere limit count (Printed text ∷ later) = ⊥
EndsHere limit count (Answered branch ∷ later) = suc count ≡ limit
EndsHere limit count (Failure ∷ later) = ⊤
EndsHere limit count (Faulted fault ∷ later) = ⊤

-- the events on the way, and those from the end of the search on
record Parts (limit count : ℕ) (shown : List Event) : Type 0 where
  before : List Event
  rest : List Event
  whole : shown ≡ before ++ rest
  way : AreOnTheWay before
  wanted : IsWanted limit (count + answers_in before)
  ends : EndsHere limit (count + answers_in before) rest

-- the search ends at once
at-once : (limit count : ℕ) (shown : List Event) → IsWanted limit count → EndsHere limit count shown → Parts limit count shown
at-once limit count shown wanted ends = record {
  before = [];
  rest = shown;
  whole = refl;
  way = tt;
  wanted = subst (IsWanted limit) (sym (add-zero count)) wanted;
  ends = subst (λ (n : ℕ). EndsHere limit n shown) (sym (add-zero count)) ends;
}

-- an answer reaches the limit, or is on the way
at-answer : (limit count : ℕ) (branch : Branch) (later : List Event) (test : Bool) → nat_eq (suc count) limit ≡ test → IsWanted limit count → (IsWanted limit (suc count) → Parts limit (suc count) later)
    → Parts limit count (Answered branch ∷ later)
at-answer limit count branch later true is wanted go = at-once limit count (Answered branch ∷ later) wanted (eqb-true (suc count) limit is)
at-answer limit count branch later false is wanted go =
    let other : suc count ≡ limit → ⊥ = eqb-false (suc count) limit is in
    let p = go (λ some. omega (arith, wanted some, other)) in
    record {
      before = Answered branch ∷ p.before;
      rest = p.rest;
      whole = ap (λ (es : List Event). Answered branch ∷ es) p.whole;
      way = p.way;
      wanted = subst (IsWanted limit) (add-answer count (answers_in p.before)) p.wanted;
      ends = subst (λ (n : ℕ). EndsHere limit n p.rest) (add-answer count (answers_in p.before)) p.ends;
    }

-- events, split where the search ends
parts : (limit count : ℕ) (shown : List Event) → IsWanted limit count → Parts limit count shown
parts limit count [] wanted = at-once limit count [] wanted tt
parts limit count (Moved ∷ later) wanted =
    let p = parts limit count later wanted in
    record { before = Moved ∷ p.before; rest = p.rest; whole = ap (λ (es : List Event). Moved ∷ es) p.whole; way = p.way; wanted = p.wanted; ends = p.ends }
parts limit count (Printed text ∷ later) wanted =
    let p = parts limit count later wanted in
    record { before = Printed text ∷ p.before; rest = p.rest; whole = ap (λ (es : List Event). Printed text ∷ es) p.whole; way = p.way; wanted = p.wanted; ends = p.ends }
parts limit count (Answered branch ∷ later) wanted = at-answer limit count branch later (nat_eq (suc count) limit) refl wanted (parts limit (suc count) later)
parts limit count (Failure ∷ later) wanted = at-once limit count (Failure ∷ later) wanted tt
parts limit count (Faulted fault ∷ later) wanted = at-once limit count (Faulted fault ∷ later) wanted tt

-- a failure, by how many answers came before
at-failure : (limit : ℕ) (shown before after : List Event) (pieces : List (List ℕ)) (count : ℕ) → answers_in before ≡ count → ComesTo limit shown before Failure
    → IsCaused limit shown (preceded pieces (after_failure count))
at-failure limit shown before after pieces zero is comes = (line (codes "failure"), (before, comes, is, refl), (pieces, refl))
at-failure limit shown before after pieces (suc count) is comes = (line (codes "no more"), inl (before, comes, omega (arith, is), refl), (pieces, refl))

-- the cause, by the event at which the search ends
by-end : (table : List (List ℕ)) (variables : List QueryVar) (limit : ℕ) (shown before rest : List Event) (pieces : List (List ℕ)) → shown ≡ before ++ rest → AreOnTheWay before → IsWanted limit (answers_in before) → EndsHere limit (answers_in before) rest
    → IsCaused limit shown (preceded pieces (written table variables limit (answers_in before) rest))
by-end table variables limit shown before [] pieces whole way wanted ends =
    let all : shown ≡ before = whole ∙ append-nil before in
    (line (codes "out of steps"), (subst AreOnTheWay (sym all) way, subst (λ (es : List Event). IsWanted limit (answers_in es)) (sym all) wanted, refl), (pieces, refl))
by-end table variables limit shown before (Moved ∷ after) pieces whole way wanted ends = absurd ends
by-end table variables limit shown before (Printed text ∷ after) pieces whole way wanted ends = absurd ends
by-end table variables limit shown before (Answered branch ∷ after) pieces whole way wanted ends =
    let block = answer_block table variables (suc (answers_in before)) branch in
    let stopped = line (codes "stopped") in
    let there = stops-there limit (answers_in before) block (line_only stopped Done) (written table variables limit (suc (answers_in before)) after) ends in
    subst (λ (o : Output). IsCaused limit shown (preceded pieces o)) (sym there)
    (stopped, inr (before, branch, (after, whole, way, wanted), omega (arith, ends), refl), (pieces ++ block ∷ [], sym (append_assoc pieces (block ∷ []) (stopped ∷ []))))
by-end table variables limit shown before (Failure ∷ after) pieces whole way wanted ends = at-failure limit shown before after pieces (answers_in before) refl (after, whole, way, wanted)
by-end table variables limit shown before (Faulted fault ∷ after) pieces whole way wanted ends =
    (codes "fault: " ++ line (fault_name fault), (before, fault, (after, whole, way, wanted), refl), (pieces, refl))

-- a search has the cause of its status
pub search-cause : (table : List (List ℕ)) (variables : List QueryVar) (limit : ℕ) (shown : List Event) → IsCaused limit shown (written table variables limit 0 shown)
search-cause table variables limit shown =
    let p = parts limit 0 shown (λ some. some) in
    let wanted = subst (IsWanted limit) (zero-add (answers_in p.before)) p.wanted in
    let ends = subst (λ (n : ℕ). EndsHere limit n p.rest) (zero-add (answers_in p.before)) p.ends in
    let found = from-first table variables limit p.before p.rest p.way wanted in
    subst (IsCaused limit shown) (sym (ap (written table variables limit 0) p.whole ∙ found.1)) (by-end table variables limit shown p.before p.rest found.0 p.whole p.way wanted ends)

-- after at least one answer a failure is the end of all answers
no-more : (count : ℕ) → 0 < count → (after_failure count).status ≡ Done
no-more zero some = absurd (omega arith)
no-more (suc count) some = refl

-- the status at the event that the search comes to
status-there : (table : List (List ℕ)) (variables : List QueryVar) (limit : ℕ) (shown before : List Event) (event : Event) (comes : ComesTo limit shown before event)
    → (written table variables limit 0 shown).status ≡ (written table variables limit (answers_in before) (event ∷ comes.0)).status
status-there table variables limit shown before event comes =
    ap (λ (o : Output). o.status) (ap (written table variables limit 0) comes.1 ∙ (from-first table variables limit before (event ∷ comes.0) comes.2 comes.3).1)

-- a search with this cause has its status
pub search-status : (table : List (List ℕ)) (variables : List QueryVar) (limit : ℕ) (shown : List Event) (last : List ℕ) (status : Status) → SearchCause status limit shown last → (written table variables limit 0 shown).status ≡ status
search-status table variables limit shown last Done (inl h) = status-there table variables limit shown h.0 Failure h.1 ∙ no-more (answers_in h.0) h.2
search-status table variables limit shown last Done (inr h) =
    let reached : suc (answers_in h.0) ≡ limit = omega (arith, h.3) in
    status-there table variables limit shown h.0 (Answered h.1) h.2
    ∙ ap (λ (o : Output). o.status) (stops-there limit (answers_in h.0) (answer_block table variables (suc (answers_in h.0)) h.1) (line_only (line (codes "stopped")) Done) (written table variables limit (suc (answers_in h.0)) h.2.0) reached)
search-status table variables limit shown last NoAnswer h = status-there table variables limit shown h.0 Failure h.1 ∙ ap (λ (n : ℕ). (after_failure n).status) h.2
search-status table variables limit shown last Fault h = status-there table variables limit shown h.0 (Faulted h.1) h.2
search-status table variables limit shown last Budget h =
    ap (λ (o : Output). o.status) (ap (written table variables limit 0) (sym (append-nil shown)) ∙ (from-first table variables limit shown [] h.0 h.1).1)
search-status table variables limit shown last status h = absurd h
