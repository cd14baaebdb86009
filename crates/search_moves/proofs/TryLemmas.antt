-- The loop over the clauses of a call.
use Rattle.std.proofs.Common.{◌≡◌, ℕ, zero, suc, ◌+◌, ◌<◌, ◌≤◌, ◌-◌, length, drop, Bool, true, false, cond, not, ◌||◌, nat_eq, List, [], ◌∷◌, Option, Some, None, unwrap_or, replicate, refl, sym, ap, ◌∙◌, subst, arith, eqb-true}
use Rattle.std.specs.Prelude.{slice_get}
use Rattle.std.proofs.lemmas.List.{length-map}
use Rattle.std.proofs.lemmas.Option.{slice_get_within}
use Rattle.level_terms.specs.Reading.{read}
use Rattle.beta_fragment.specs.Names.{names}
use Rattle.beta_fragment.specs.HeadForm.{all_read}
use Rattle.beta_fragment.specs.declared.answer.UnifyStop.{UnifyStop}
use Rattle.beta_fragment.specs.declared.answer.UnifyStop.TheVariants.{Fault, Memory}
use Rattle.clause_key.specs.declared.key.Key.{Key}
use Rattle.clause_key.specs.declared.key.Key.TheVariants.{Any}
use Rattle.clause_key.specs.Keys.{agree, atom_key, key_among}
use Rattle.clause_key.specs.Passing.{NoneAgrees, IsNextFor}
use Rattle.clause_key.specs.Laws.{DisagreeingClauseClashes}
use Rattle.ref_terms.specs.terms.Term.{Term, Con}
use Rattle.ref_terms.specs.unification.Spine.{args_of, head_of}
use Rattle.ref_terms.specs.search.Program.{Program, Pred, Clause, modes_of, declared, from_clauses, headed_by, constant_of}
use Rattle.ref_terms.specs.search.Next.{constant_modes}
use Rattle.ref_terms.specs.search.Candidates.{program_candidates}
use Rattle.ref_terms.specs.search.Fault.{Judged}
use Rattle.ref_terms.specs.search.State.{Candidate, of_program}
use Rattle.ref_terms.specs.search.Strip.{clashes_at, is_clash, is_open}
use Rattle.ref_terms.specs.search.Resolve.{Clashes, Resolved, resolve, decided, try}
use Rattle.ref_terms.specs.search.Branch.{Goal}
use Rattle.std.specs.List.{list_any}
use Rattle.ref_terms.specs.unification.Unification.{unify}
use Rattle.search_moves.specs.declared.call.Call.{Call}
use Rattle.search_moves.specs.Reading.{goal_in}
use Rattle.search_moves.specs.declared.frame.Frame.{Frame}
use Rattle.search_moves.specs.Machine.{Machine, branch_of, rest_of, IsFirst}
use Rattle.search_moves.specs.Calling.{IsCall, HasInputs, tried_here, HasEntered, BreaksSo, resolved_from, HasResolved, ResolvedStops, key_of_call, ClashesHere, IsLeftAfter, clauses_from, left_from, IsTrying, IsTryingNext}
use Rattle.search_moves.proofs.CallLemmas.{candidates-at, drop-at}
use Rattle.search_moves.proofs.EnterLemmas.{goals-are, get-some}

-- the constant of a clause has modes
stated-by-clause : (c : ℕ) (ks : List Clause) (j : ℕ) (k : Clause) → slice_get ks j ≡ Some k → headed_by c k.head ≡ true → from_clauses c ks ≡ None → ⊥
stated-by-clause c [] j k here headed none = let z : ◌≡◌ {A = Option Clause} None (Some k) = here in cc
stated-by-clause c (x ∷ ks) zero k here headed none =
    let same : x ≡ k = let z : Some x ≡ Some k = here in cc in
    first (headed_by c x.head) (ap (λ (y : Clause). headed_by c y.head) same ∙ headed) none
  where
    first : (b : Bool) → b ≡ true → cond b (Some (replicate (length (args_of x.head)) false)) (from_clauses c ks) ≡ None → ⊥
    first true e n = let z : Some (replicate (length (args_of x.head)) false) ≡ None = n in cc
    first false e n = let z : false ≡ true = e in cc
stated-by-clause c (x ∷ ks) (suc j) k here headed none = later (headed_by c x.head) (λ n. stated-by-clause c ks j k here headed n) none
  where
    later : (b : Bool) → (from_clauses c ks ≡ None → ⊥) → cond b (Some (replicate (length (args_of x.head)) false)) (from_clauses c ks) ≡ None → ⊥
    later true f n = let z : Some (replicate (length (args_of x.head)) false) ≡ None = n in cc
    later false f n = f n

undeclared : (c : ℕ) (ps : List Pred) (other : Option (List Bool)) → declared c ps other ≡ None → other ≡ None
undeclared c [] other e = e
undeclared c (p ∷ ps) other e = go (nat_eq c p.name) (λ d. undeclared c ps other d) e
  where
    go : (b : Bool) → (declared c ps other ≡ None → other ≡ None) → cond b (Some p.inputs) (declared c ps other) ≡ None → other ≡ None
    go true f d = absurd (let z : Some p.inputs ≡ None = d in cc)
    go false f d = f d

-- a clause that clashes isn't open at a retry
pub closed-here : (p : Program) (m : Machine) (f : Frame) (c : ℕ) (candidate : Candidate) → IsFirst m f → head_of (goal_in m.world.heap f).term ≡ Some (Con c)
    → try unify (modes_of p c) (branch_of m) (goal_in m.world.heap f) (rest_of m f) 0 candidate ≡ Clashes → is_open unify p (branch_of m) candidate ≡ false
closed-here p m f c candidate first head clash =
    ap (λ gs. not (clashes_at unify p (branch_of m) gs candidate)) (goals-are m f first)
    ∙ ap (λ o. not (is_clash (try unify (constant_modes p (constant_of o)) (branch_of m) (goal_in m.world.heap f) (rest_of m f) 0 candidate))) head
    ∙ ap (λ t. not (is_clash t)) clash

-- an item of a list from a place on
get-dropped : (ks : List Clause) (i j : ℕ) → slice_get (drop i ks) j ≡ slice_get ks (i + j)
get-dropped [] zero j = refl
get-dropped [] (suc i) j = refl
get-dropped (k ∷ ks) zero j = ap (slice_get (k ∷ ks)) (let e : j ≡ 0 + j = omega arith in e)
get-dropped (k ∷ ks) (suc i) j = get-dropped ks i j ∙ ap (slice_get (k ∷ ks)) (let e : suc (i + j) ≡ suc i + j = omega arith in e)

-- candidates of which none passes a test
closed-candidates : (test : Candidate → Bool) (c i : ℕ) (ks : List Clause) → ((j : ℕ) (k : Clause) → slice_get ks j ≡ Some k → headed_by c k.head ≡ true → test (of_program (i + j) k) ≡ false) → list_any test (program_candidates c i ks) ≡ false
closed-candidates test c i [] f = refl
closed-candidates test c i (k ∷ ks) f =
    by (headed_by c k.head) (λ h. ap (λ n. test (of_program n k)) (let e : i ≡ i + 0 = omega arith in e) ∙ f 0 k refl h)
    (closed-candidates test c (suc i) ks (λ j l here h. ap (λ n. test (of_program n l)) (let e : suc i + j ≡ i + suc j = omega arith in e) ∙ f (suc j) l here h))
  where
    later : List Candidate
    later = program_candidates c (suc i) ks

    by : (b : Bool) → (b ≡ true → test (of_program i k) ≡ false) → list_any test later ≡ false → list_any test (cond b (of_program i k ∷ later) later) ≡ false
    by true g rest = ap (λ b. b || list_any test later) (g refl) ∙ rest
    by false g rest = rest

-- where a clause is the constant's, there is a candidate
pub some-candidate : (c i : ℕ) (ks : List Clause) (j : ℕ) (k : Clause) → slice_get ks j ≡ Some k → headed_by c k.head ≡ true → (x : Candidate) × (xs : List Candidate) × (program_candidates c i ks ≡ x ∷ xs)
some-candidate c i [] j k here headed = absurd (let z : ◌≡◌ {A = Option Clause} None (Some k) = here in cc)
some-candidate c i (y ∷ ks) zero k here headed =
    let same : y ≡ k = let z : Some y ≡ Some k = here in cc in
    (of_program i y, program_candidates c (suc i) ks, ap (λ b. cond b (of_program i y ∷ program_candidates c (suc i) ks) (program_candidates c (suc i) ks)) (ap (λ (z : Clause). headed_by c z.head) same ∙ headed))
some-candidate c i (y ∷ ks) (suc j) k here headed = by (headed_by c y.head) (some-candidate c (suc i) ks j k here headed)
  where
    later : List Candidate
    later = program_candidates c (suc i) ks

    by : (b : Bool) → (x : Candidate) × (xs : List Candidate) × (later ≡ x ∷ xs) → (x : Candidate) × (xs : List Candidate) × (cond b (of_program i y ∷ later) later ≡ x ∷ xs)
    by true r = (of_program i y, later, refl)
    by false r = r

-- a clause whose key doesn't agree with that of the call clashes
module _ (law : DisagreeingClauseClashes) (p : Program) (m : Machine) (call : Call) (is : IsCall m call) (inputs : HasInputs call (modes_of p call.pred.0)) (j : ℕ) (k : Clause) (here : slice_get p.clauses j ≡ Some k) (headed : headed_by call.pred.0 k.head ≡ true) where
  stated : (o : Option (List Bool)) → modes_of p call.pred.0 ≡ o → (ms : List Bool) × (o ≡ Some ms)
  stated None e = absurd (stated-by-clause call.pred.0 p.clauses j k here headed (undeclared call.pred.0 p.preds (from_clauses call.pred.0 p.clauses) e))
  stated (Some ms) e = (ms, refl)

  pub passed-clashes : agree (key_of_call m.world.heap call) (atom_key p k.head) ≡ false → ClashesHere m call.goal.now (modes_of p call.pred.0) (of_program j k)
  passed-clashes differs barrier =
      let s = stated (modes_of p call.pred.0) refl in
      by s.0 s.1 (nat_eq (length call.args.now) (length call.inputs.now)) refl differs
    where
      goal_here : Goal
      goal_here = goal_in m.world.heap call.goal.now

      goal : Term
      goal = goal_here.term

      by : (ms : List Bool) → modes_of p call.pred.0 ≡ Some ms → (b : Bool) → nat_eq (length call.args.now) (length call.inputs.now) ≡ b
          → agree (cond b (key_among call.inputs.now (all_read m.world.heap call.args.now)) Any) (atom_key p k.head) ≡ false → try unify (modes_of p call.pred.0) (branch_of m) goal_here (rest_of m call.goal.now) barrier (of_program j k) ≡ Clashes
      by ms known false e d = absurd (let z : true ≡ false = d in cc)
      by ms known true e d =
          let same : call.inputs.now ≡ ms = inputs ∙ ap (λ o. unwrap_or o (replicate (length call.args.now) false)) known in
          let key : atom_key p goal ≡ key_among call.inputs.now (all_read m.world.heap call.args.now) =
          ap (λ o. key_among (unwrap_or (constant_modes p (constant_of o)) []) (args_of goal)) is.head
          ∙ ap (λ o. key_among (unwrap_or o []) (args_of goal)) known ∙ ap (λ xs. key_among xs (args_of goal)) (sym same) ∙ ap (key_among call.inputs.now) is.arguments in
          let count : length (args_of goal) ≡ length ms = ap length is.arguments ∙ length-map call.args.now (λ t. read m.world.heap t.index names) ∙ eqb-true _ _ e ∙ ap length same in
          law p call.pred.0 j barrier k (branch_of m) (goal_in m.world.heap call.goal.now) (rest_of m call.goal.now)
          (record { constant = is.head; inputs = ms; stated = known; count = count }) headed (ap (λ x. agree x (atom_key p k.head)) key ∙ d)

-- how many clauses are left to try at most
abbrev pub left_to_try : ℕ → Option ℕ → ℕ
left_to_try count None = 0
left_to_try count (Some i) = count - i

-- clauses that clash are passed over
module _ (p : Program) (m : Machine) (call : Call) where
  -- what the reference makes of the clauses from a number on
  abbrev resolved_at : ℕ → Option (Judged Resolved)
  resolved_at from = resolved_from m call.goal.now p.clauses call.pred.0 from (modes_of p call.pred.0)

  abbrev tries : List Candidate → Option (Judged Resolved)
  tries = resolve unify (modes_of p call.pred.0) (branch_of m) (goal_in m.world.heap call.goal.now) (rest_of m call.goal.now) (length m.saved)

  -- the clause with this number clashes, if it is one of the constant
  abbrev ClashesAt : ℕ → Type 0
  ClashesAt j = (k : Clause) → slice_get p.clauses j ≡ Some k → headed_by call.pred.0 k.head ≡ true → tried_here m call.goal.now (modes_of p call.pred.0) (of_program j k) ≡ Clashes

  one-passed : (j : ℕ) (k : Clause) → slice_get p.clauses j ≡ Some k → ClashesAt j → resolved_at j ≡ resolved_at (suc j)
  one-passed j k here clash = ap (λ ks. tries (program_candidates call.pred.0 j ks)) (drop-at p.clauses j k here) ∙ by (headed_by call.pred.0 k.head) (clash k here)
    where
      later : List Candidate
      later = program_candidates call.pred.0 (suc j) (drop (suc j) p.clauses)

      by : (b : Bool) → (b ≡ true → tried_here m call.goal.now (modes_of p call.pred.0) (of_program j k) ≡ Clashes) → tries (cond b (of_program j k ∷ later) later) ≡ resolved_at (suc j)
      by true f = ap (decided later (resolved_at (suc j))) (f refl)
      by false f = refl

  all-passed : (n from : ℕ) → from + n ≤ length p.clauses → ((j : ℕ) → from ≤ j → j < from + n → ClashesAt j) → resolved_at from ≡ resolved_at (from + n)
  all-passed zero from l clash = ap resolved_at (let e : from ≡ from + 0 = omega arith in e)
  all-passed (suc n) from l clash =
      let k = get-some p.clauses from (omega (arith, l)) in
      one-passed from k.0 k.1 (clash from (omega arith) (omega arith))
      ∙ all-passed n (suc from) (omega (arith, l)) (λ j low high. clash j (omega (arith, low)) (omega (arith, high)))
      ∙ ap resolved_at (let e : suc from + n ≡ from + suc n = omega arith in e)

  none-left : (from : ℕ) → slice_get p.clauses from ≡ None → resolved_at from ≡ None
  none-left from e = ap (λ ks. tries (program_candidates call.pred.0 from ks)) (drop-none p.clauses from e)
    where
      drop-none : (ks : List Clause) (i : ℕ) → slice_get ks i ≡ None → drop i ks ≡ []
      drop-none [] zero e = refl
      drop-none [] (suc i) e = refl
      drop-none (k ∷ ks) zero e = absurd (let z : ◌≡◌ {A = Option Clause} (Some k) None = e in cc)
      drop-none (k ∷ ks) (suc i) e = drop-none ks i e

  all-clash : (n from : ℕ) → length p.clauses ≤ from + n → ((j : ℕ) → from ≤ j → j < length p.clauses → ClashesAt j) → resolved_at from ≡ None
  all-clash zero from l clash = by (slice_get p.clauses from) refl
    where
      by : (o : Option Clause) → slice_get p.clauses from ≡ o → resolved_at from ≡ None
      by None e = none-left from e
      by (Some k) e = absurd (let high = slice_get_within p.clauses from k e in omega (arith, l, high))
  all-clash (suc n) from l clash = by (slice_get p.clauses from) refl (all-clash n (suc from) (omega (arith, l)) (λ j low high. clash j (omega (arith, low)) high))
    where
      by : (o : Option Clause) → slice_get p.clauses from ≡ o → resolved_at (suc from) ≡ None → resolved_at from ≡ None
      by None e next = none-left from e
      by (Some k) e next = one-passed from k e (clash from (omega arith) (slice_get_within p.clauses from k e)) ∙ next

  -- the clauses of the constant that don't agree with its key are passed over
  module _ (law : DisagreeingClauseClashes) (is : IsCall m call) (key : Key) (known : key ≡ key_of_call m.world.heap call) where
    passed : HasInputs call (modes_of p call.pred.0) → (from to : ℕ) → NoneAgrees p call.pred.0 key from to → (j : ℕ) → from ≤ j → j < to → ClashesAt j
    passed inputs from to none j low high k here headed =
        passed-clashes law p m call is inputs j k here headed (ap (λ x. agree x (atom_key p k.head)) (sym known) ∙ none j k low high here headed) (length m.saved)

    -- they are bound to clash at a retry as well
    closed-clause : HasInputs call (modes_of p call.pred.0) → (from : ℕ) → NoneAgrees p call.pred.0 key from (length p.clauses) → (j : ℕ) (k : Clause) → slice_get p.clauses (from + j) ≡ Some k → headed_by call.pred.0 k.head ≡ true
        → is_open unify p (branch_of m) (of_program (from + j) k) ≡ false
    closed-clause inputs from none j k here headed =
        closed-here p m call.goal.now call.pred.0 (of_program (from + j) k) is.first is.head
        (passed-clashes law p m call is inputs (from + j) k here headed (ap (λ x. agree x (atom_key p k.head)) (sym known) ∙ none (from + j) k (omega arith) (slice_get_within p.clauses (from + j) k here) here headed) 0)

    pub none-open : HasInputs call (modes_of p call.pred.0) → (from : ℕ) → NoneAgrees p call.pred.0 key from (length p.clauses) → list_any (is_open unify p (branch_of m)) (program_candidates call.pred.0 from (drop from p.clauses)) ≡ false
    none-open inputs from none =
        closed-candidates (is_open unify p (branch_of m)) call.pred.0 from (drop from p.clauses)
        (λ j k here headed. closed-clause inputs from none j k (sym (get-dropped p.clauses from j) ∙ here) headed)

    -- what is left of the clauses from a number on
    pub clauses-left : HasInputs call (modes_of p call.pred.0) → (from : ℕ) (next : Option ℕ) → IsNextFor p call.pred.0 key from next
        → IsLeftAfter p (branch_of m) call.pred (program_candidates call.pred.0 from (drop from p.clauses)) (clauses_from (left_from next from))
    clauses-left inputs from None none = none-open inputs from none
    clauses-left inputs from (Some i) at =
        let low = at.low in
        let e : from + (i - from) ≡ i = omega (arith, low) in
        let some = some-candidate call.pred.0 from (drop from p.clauses) (i - from) at.clause (get-dropped p.clauses from (i - from) ∙ ap (slice_get p.clauses) e ∙ at.here) at.headed in
        (some.0, some.1, some.2, refl)

    pub left-at : (m' : Machine) (i place : ℕ) (following later : Option ℕ) → m' ≡ m → place ≡ suc i → later ≡ left_from following place → IsNextFor p call.pred.0 key place following → HasInputs call (modes_of p call.pred.0)
        → IsLeftAfter p (branch_of m') call.pred (program_candidates call.pred.0 (suc i) (drop (suc i) p.clauses)) (clauses_from later)
    left-at m' i place following later same at is next inputs =
        let cs = program_candidates call.pred.0 (suc i) (drop (suc i) p.clauses) in
        subst (λ z. IsLeftAfter p (branch_of z) call.pred cs (clauses_from later)) (sym same)
        (subst (λ o. IsLeftAfter p (branch_of m) call.pred cs (clauses_from o)) (sym (is ∙ ap (left_from following) at))
        (clauses-left inputs (suc i) following (subst (λ n. IsNextFor p call.pred.0 key n following) at next)))

    pub trying-starts : (from : ℕ) (next : Option ℕ) → IsNextFor p call.pred.0 key from next → IsTryingNext p m call from next
    trying-starts from None none = λ inputs. all-clash (length p.clauses) from (omega arith) (passed inputs from (length p.clauses) none)
    trying-starts from (Some i) is = record {
      clause = is.clause;
      here = is.here;
      headed = is.headed;
      same = λ inputs.
          let low = is.low in
          let high = slice_get_within p.clauses i is.clause is.here in
          let e : from + (i - from) ≡ i = omega (arith, low) in
          all-passed (i - from) from (omega (arith, low, high)) (λ j l h. passed inputs from i is.passed j l (omega (arith, h, e))) ∙ ap resolved_at e;
    }

    -- it goes on after a clash
    pub trying-goes : (from i : ℕ) (next : Option ℕ) (trying : IsTrying p m call from i) → IsNextFor p call.pred.0 key (suc i) next
        → (HasInputs call (modes_of p call.pred.0) → tried_here m call.goal.now (modes_of p call.pred.0) (of_program i trying.clause) ≡ Clashes) → IsTryingNext p m call from next
    trying-goes from i next trying is clash = by next (trying-starts (suc i) next is)
      where
        at : HasInputs call (modes_of p call.pred.0) → ClashesAt i
        at inputs k there headed =
            let same : trying.clause ≡ k = let z : Some trying.clause ≡ Some k = sym trying.here ∙ there in cc in
            subst (λ (x : Clause). tried_here m call.goal.now (modes_of p call.pred.0) (of_program i x) ≡ Clashes) same (clash inputs)

        so_far : HasInputs call (modes_of p call.pred.0) → resolved_at from ≡ resolved_at (suc i)
        so_far inputs = trying.same inputs ∙ one-passed i trying.clause trying.here (at inputs)

        by : (o : Option ℕ) → IsTryingNext p m call (suc i) o → IsTryingNext p m call from o
        by None none = λ inputs. so_far inputs ∙ none inputs
        by (Some j) t = record { clause = t.clause; here = t.here; headed = t.headed; same = λ inputs. so_far inputs ∙ t.same inputs }

  module _ (from i : ℕ) (trying : IsTrying p m call from i) (inputs : HasInputs call (modes_of p call.pred.0)) where
    -- the clause is tried next
    tried-next : resolved_at from ≡ decided (program_candidates call.pred.0 (suc i) (drop (suc i) p.clauses)) (resolved_at (suc i)) (tried_here m call.goal.now (modes_of p call.pred.0) (of_program i trying.clause))
    tried-next = trying.same inputs ∙ ap tries (candidates-at p.clauses call.pred.0 i trying.clause trying.here trying.headed)

    pub trying-fits : (new : Machine) → HasEntered p m new call.goal.now (modes_of p call.pred.0) (of_program i trying.clause) (program_candidates call.pred.0 (suc i) (drop (suc i) p.clauses))
        → HasResolved p m new call.goal.now call.pred.0 from (modes_of p call.pred.0)
    trying-fits new entered = record {
      resolved = record { branch = branch_of new; later = program_candidates call.pred.0 (suc i) (drop (suc i) p.clauses) };
      found = tried-next ∙ ap (decided (program_candidates call.pred.0 (suc i) (drop (suc i) p.clauses)) (resolved_at (suc i))) entered.fits;
      branch = refl;
      alternatives = entered.alternatives;
    }

    pub trying-breaks : (stop : UnifyStop) → BreaksSo (tried_here m call.goal.now (modes_of p call.pred.0) (of_program i trying.clause)) stop → ResolvedStops (resolved_at from) stop
    trying-breaks (Fault e) broken = tried-next ∙ ap (decided (program_candidates call.pred.0 (suc i) (drop (suc i) p.clauses)) (resolved_at (suc i))) broken
    trying-breaks Memory broken = tt

  -- fewer clauses are left to try
  pub trying-falls : (from i count : ℕ) (key : Key) (next : Option ℕ) → count ≡ length p.clauses → IsTrying p m call from i → IsNextFor p call.pred.0 key (suc i) next → left_to_try count next < left_to_try count (Some i)
  trying-falls from i count key None e trying is = let high = slice_get_within p.clauses i trying.clause trying.here in omega (arith, e, high)
  trying-falls from i count key (Some j) e trying is =
      let high = slice_get_within p.clauses i trying.clause trying.here in
      let low = is.low in
      let top = slice_get_within p.clauses j is.clause is.here in
      omega (arith, e, high, low, top)
