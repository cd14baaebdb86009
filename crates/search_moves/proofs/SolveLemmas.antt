-- The equations of arguments, solved from left to right.
use Rattle.std.proofs.Common.{◌≡◌, ℕ, zero, suc, ◌<◌, ◌≤◌, min, nat_lt, ◌⊎◌, inl, inr, Bool, true, false, MatchBool, List, [], ◌∷◌, ◌++◌, length, map, drop, refl, sym, ap, ap₂, ◌∙◌, arith, length-append, slice_index_or}
use Rattle.level_terms.specs.declared.node.TermId.{TermId}
use Rattle.level_terms.specs.Graph.{Graph}
use Rattle.level_terms.specs.declared.node.Change.{Change}
use Rattle.level_terms.specs.Growth.{Grows, changes_of}
use Rattle.level_terms.proofs.GrowthLemmas.{grows-refl, grows-trans}
use Rattle.level_terms.specs.Reading.{read}
use Rattle.level_terms.specs.Sound.{IsSound}
use Rattle.level_terms.specs.Valid.{IsValid}
use Rattle.beta_fragment.specs.Names.{names}
use Rattle.beta_fragment.specs.HeadForm.{all_read, AllValidAt}
use Rattle.level_terms.proofs.ReadLemmas.{valid-below}
use Rattle.pattern_unify.specs.Answers.{problem_of, AnswersTrue, AnswersFalse, StopsSo}
use Rattle.beta_fragment.specs.declared.answer.UnifyStop.{UnifyStop}
use Rattle.beta_fragment.specs.declared.answer.UnifyStop.TheVariants.{Fault, Memory}
use Rattle.pattern_unify.proofs.KeptLemmas.{grown-nodes}
use Rattle.ref_terms.specs.terms.Term.{Term}
use Rattle.ref_terms.specs.terms.Instance.{inst}
use Rattle.ref_terms.specs.unification.Problem.{Problem, Equation, Binding, Solved, Faulted, UnifyFault}
use Rattle.ref_terms.specs.unification.Rules.{step}
use Rattle.ref_terms.specs.unification.Unification.{unify}
use Rattle.ref_terms.proofs.unification.Steps.{unify-ends}
use Rattle.ref_terms.specs.search.Branch.{bound, bound_equation}
use Rattle.ref_terms.specs.search.Resolve.{equations_at}
use Rattle.search_moves.specs.World.{World}
use Rattle.search_moves.specs.Moves.{Growing, LeavesRest}
use Rattle.search_moves.specs.Solving.{problem_of_all, IsSolving, IsUnderway}
use Rattle.search_moves.proofs.FrameLemmas.{all-valid-grown}
use Rattle.search_moves.proofs.RestLemmas.{leaves-refl, leaves-trans}
use Rattle.ref_terms.specs.search.Sequence.{continued}
use Rattle.ref_terms.proofs.unification.Sequence.{one-by-one}

pub bound-append : (xs ys : List Binding) (t : Term) → bound (xs ++ ys) t ≡ bound xs (bound ys t)
bound-append [] ys t = refl
bound-append (x ∷ xs) ys t = ap (inst x.variable x.value) (bound-append xs ys t)

pub bound-equations : (xs ys : List Binding) (es : List Equation) → map (bound_equation xs) (map (bound_equation ys) es) ≡ map (bound_equation (xs ++ ys)) es
bound-equations xs ys [] = refl
bound-equations xs ys (e ∷ es) =
    let left = sym (bound-append xs ys e.left) in
    let right = sym (bound-append xs ys e.right) in
    let one : bound_equation xs (bound_equation ys e) ≡ bound_equation (xs ++ ys) e = λ i. record { names = e.names; left = left i; right = right i } in
    ap₂ (λ (x : Equation) (rest : List Equation). x ∷ rest) one (bound-equations xs ys es)

bound-none : (es : List Equation) → map (bound_equation []) es ≡ es
bound-none [] = refl
bound-none (e ∷ es) = ap (λ (xs : List Equation). e ∷ xs) (bound-none es)

-- the argument at the front is of the mode, or isn't
taken : (mode : Bool) (depth : ℕ) (ms : List Bool) (s t : Term) (ss ts : List Term) → equations_at mode depth (mode ∷ ms) (s ∷ ss) (t ∷ ts) ≡ record { names = depth; left = s; right = t } ∷ equations_at mode depth ms ss ts
taken true depth ms s t ss ts = refl
taken false depth ms s t ss ts = refl

skipped : (mode b : Bool) (depth : ℕ) (ms : List Bool) (s t : Term) (ss ts : List Term) → (b ≡ mode → ⊥) → equations_at mode depth (b ∷ ms) (s ∷ ss) (t ∷ ts) ≡ equations_at mode depth ms ss ts
skipped true true depth ms s t ss ts ne = absurd (ne refl)
skipped true false depth ms s t ss ts ne = refl
skipped false true depth ms s t ss ts ne = refl
skipped false false depth ms s t ss ts ne = absurd (ne refl)

-- a growth has the notes that it makes, whatever the trail had
renoted : (g h : Graph) (s t r : List Change) (w : Grows g h s t) → Grows g h r (r ++ changes_of w.new_assigned)
renoted g h s t r w = record { new_nodes = w.new_nodes; new_depths = w.new_depths; new_assigned = w.new_assigned; nodes = w.nodes; depths = w.depths; assigned = w.assigned; trail = refl }

pub growing-refl : (g : Graph) → Growing g g
growing-refl g = record { before = []; after = []; grows = grows-refl g [] }

pub growing-trans : (f g h : Graph) → Growing f g → Growing g h → Growing f h
growing-trans f g h v w =
    let first = renoted f g v.before v.after [] v.grows in
    let a : List Change = [] ++ changes_of v.grows.new_assigned in
    record { before = []; after = a ++ changes_of w.grows.new_assigned; grows = grows-trans f g h [] a (a ++ changes_of w.grows.new_assigned) first (renoted g h w.before w.after a w.grows) }

module _ (mark : ℕ) (mode : Bool) (depth : ℕ) (ms : List Bool) (hs ts : List TermId) (old : Graph) where
  -- what is left, from a place on
  abbrev pub left_from : ℕ → List Equation
  left_from i = equations_at mode depth (drop i ms) (all_read old (drop i hs)) (all_read old (drop i ts))

  pub solving-starts : IsSolving mark mode depth ms hs ts old old 0
  solving-starts = record {
    made = [];
    readings = λ t env h. refl;
    answer = ap (λ es. unify mark (record { next_var = length old.depths; equations = es; bindings = [] })) (sym (bound-none (equations_at mode depth ms (all_read old hs) (all_read old ts))));
    grows = growing-refl old;
  }

  module _ (new : Graph) (i : ℕ) (b : Bool) (s t : TermId) (so : IsSolving mark mode depth ms hs ts old new i)
      (m-is : drop i ms ≡ b ∷ drop (suc i) ms) (s-is : drop i hs ≡ s ∷ drop (suc i) hs) (t-is : drop i ts ≡ t ∷ drop (suc i) ts) where
    parts : left_from i ≡ equations_at mode depth (b ∷ drop (suc i) ms) (read old s.index names ∷ all_read old (drop (suc i) hs)) (read old t.index names ∷ all_read old (drop (suc i) ts))
    parts =
        ap (λ xs. equations_at mode depth xs (all_read old (drop i hs)) (all_read old (drop i ts))) m-is
        ∙ ap₂ (λ xs ys. equations_at mode depth (b ∷ drop (suc i) ms) (all_read old xs) (all_read old ys)) s-is t-is

    pub solving-skips : (b ≡ mode → ⊥) → IsSolving mark mode depth ms hs ts old new (suc i)
    solving-skips ne = record {
      made = so.made;
      readings = so.readings;
      answer = so.answer ∙ ap (λ es. unify mark (record { next_var = length new.depths; equations = map (bound_equation so.made) es; bindings = so.made }))
          (parts ∙ skipped mode b depth (drop (suc i) ms) (read old s.index names) (read old t.index names) (all_read old (drop (suc i) hs)) (all_read old (drop (suc i) ts)) ne);
      grows = so.grows;
    }

    -- the equation at the front, as the heap has it
    here : b ≡ mode → s.index < length old.nodes → t.index < length old.nodes
        → unify mark (problem_of_all old mode depth ms hs ts) ≡ continued (map (bound_equation so.made) (left_from (suc i))) so.made mark (unify mark (problem_of new s.index t.index depth))
    here e sh th =
        let first : List Equation → List Equation = λ es. record { names = depth; left = bound so.made (read old s.index names); right = bound so.made (read old t.index names) } ∷ map (bound_equation so.made) es in
        let split = parts ∙ ap (λ z. equations_at mode depth (z ∷ drop (suc i) ms) (read old s.index names ∷ all_read old (drop (suc i) hs)) (read old t.index names ∷ all_read old (drop (suc i) ts))) e
        ∙ taken mode depth (drop (suc i) ms) (read old s.index names) (read old t.index names) (all_read old (drop (suc i) hs)) (all_read old (drop (suc i) ts)) in
        so.answer
        ∙ ap (λ es. unify mark (record { next_var = length new.depths; equations = map (bound_equation so.made) es; bindings = so.made })) split
        ∙ one-by-one mark (length new.depths) (record { names = depth; left = bound so.made (read old s.index names); right = bound so.made (read old t.index names) }) (map (bound_equation so.made) (left_from (suc i))) so.made
        ∙ ap₂ (λ x y. continued (map (bound_equation so.made) (left_from (suc i))) so.made mark (unify mark (record { next_var = length new.depths; equations = record { names = depth; left = x; right = y } ∷ []; bindings = [] })))
        (sym (so.readings s.index names sh)) (sym (so.readings t.index names th))

    pub solving-goes : (newer : Graph) → b ≡ mode → s.index < length old.nodes → t.index < length old.nodes → Growing new newer → AnswersTrue mark new newer (problem_of new s.index t.index depth) → IsSolving mark mode depth ms hs ts old newer (suc i)
    solving-goes newer e sh th g (q, solved, under) =
        let more = grown-nodes old new so.grows.before so.grows.after so.grows.grows in
        record {
          made = q.bindings ++ so.made;
          readings = λ x env h.
              under.readings x env (omega (arith, h, more)) ∙ ap (bound q.bindings) (so.readings x env h) ∙ sym (bound-append q.bindings so.made (read old x env));
          answer = here e sh th
              ∙ ap (continued (map (bound_equation so.made) (left_from (suc i))) so.made mark) solved
              ∙ ap₂ (λ n es. unify mark (record { next_var = n; equations = es; bindings = q.bindings ++ so.made })) (sym under.variables) (bound-equations q.bindings so.made (left_from (suc i)));
          grows = growing-trans old new newer so.grows g;
        }

    pub solving-clashes : b ≡ mode → s.index < length old.nodes → t.index < length old.nodes → AnswersFalse mark (problem_of new s.index t.index depth) → AnswersFalse mark (problem_of_all old mode depth ms hs ts)
    solving-clashes e sh th (knot, clash) = (knot, here e sh th ∙ ap (continued (map (bound_equation so.made) (left_from (suc i))) so.made mark) clash)

    pub solving-faults : (f : UnifyFault) → b ≡ mode → s.index < length old.nodes → t.index < length old.nodes → unify mark (problem_of new s.index t.index depth) ≡ Faulted f → unify mark (problem_of_all old mode depth ms hs ts) ≡ Faulted f
    solving-faults f e sh th fault = here e sh th ∙ ap (continued (map (bound_equation so.made) (left_from (suc i))) so.made mark) fault

    pub solving-stops : (stop : UnifyStop) → b ≡ mode → s.index < length old.nodes → t.index < length old.nodes → StopsSo mark (problem_of new s.index t.index depth) stop → StopsSo mark (problem_of_all old mode depth ms hs ts) stop
    solving-stops (Fault f) e sh th (u, is, faulted) = (u, is, solving-faults u e sh th faulted)
    solving-stops Memory e sh th h = tt

  -- nothing is left
  pub solving-ends : (new : Graph) (i : ℕ) → IsSolving mark mode depth ms hs ts old new i → left_from i ≡ [] → AnswersTrue mark old new (problem_of_all old mode depth ms hs ts)
  unfolding step
  solving-ends new i so none =
      let q : Problem = record { next_var = length new.depths; equations = []; bindings = so.made } in (
        q,
        so.answer ∙ ap (λ es. unify mark (record { next_var = length new.depths; equations = map (bound_equation so.made) es; bindings = so.made })) none ∙ unify-ends mark q (Solved q) refl,
        record { readings = so.readings; variables = refl },
      )

pub valid-get : (g : Graph) (depth : ℕ) (xs : List TermId) (i : ℕ) (d : TermId) → i < length xs → AllValidAt g xs depth → IsValid g (slice_index_or xs i d).index depth
valid-get g depth [] i d h v = absurd (omega (arith, h))
valid-get g depth (x ∷ xs) zero d h v = v.0
valid-get g depth (x ∷ xs) (suc i) d h v = valid-get g depth xs i d (omega (arith, h)) v.1

pub drop-get : {A : Type 0} (xs : List A) (i : ℕ) (d : A) → i < length xs → drop i xs ≡ slice_index_or xs i d ∷ drop (suc i) xs
drop-get [] i d h = absurd (omega (arith, h))
drop-get (x ∷ xs) zero d h = refl
drop-get (x ∷ xs) (suc i) d h = drop-get xs i d (omega (arith, h))

pub drop-whole : {A : Type 0} (xs : List A) (i : ℕ) → length xs ≤ i → drop i xs ≡ []
drop-whole [] zero h = refl
drop-whole [] (suc i) h = refl
drop-whole (x ∷ xs) zero h = absurd (omega (arith, h))
drop-whole (x ∷ xs) (suc i) h = drop-whole xs i (omega (arith, h))

-- without arguments there are no equations
none-left : (mode : Bool) (depth : ℕ) (ms : List Bool) (ts : List Term) → equations_at mode depth ms [] ts ≡ []
none-left mode depth [] ts = refl
none-left mode depth (true ∷ ms) ts = refl
none-left mode depth (false ∷ ms) ts = refl

module _ (mark : ℕ) (mode : Bool) (depth : ℕ) (ms : List Bool) (hs ts : List TermId) (w : World)
    (hs-valid : AllValidAt w.heap hs depth) (ts-valid : AllValidAt w.heap ts depth) (as-many : length hs ≡ length ts) where
  pub underway-starts : mark ≤ length w.heap.depths → IsUnderway mark mode depth ms hs ts w w 0
  underway-starts first = record {
    heads = hs-valid;
    args = ts-valid;
    first = first;
    solving = solving-starts mark mode depth ms hs ts w.heap;
    rest = leaves-refl w;
  }

  module _ (w1 : World) (i : ℕ) (u : IsUnderway mark mode depth ms hs ts w w1 i) (in-range : i < length ms) (there : i < length hs) where
    abbrev pub head-at : TermId
    head-at = slice_index_or hs i (record { index = 0 })

    abbrev pub arg-at : TermId
    arg-at = slice_index_or ts i (record { index = 0 })

    head-there : head-at.index < length w.heap.nodes
    head-there = valid-below w.heap head-at.index depth (valid-get w.heap depth hs i (record { index = 0 }) there hs-valid)

    arg-there : arg-at.index < length w.heap.nodes
    arg-there = valid-below w.heap arg-at.index depth (valid-get w.heap depth ts i (record { index = 0 }) (omega (arith, there, as-many)) ts-valid)

    m-drop : drop i ms ≡ slice_index_or ms i false ∷ drop (suc i) ms
    m-drop = drop-get ms i false in-range

    h-drop : drop i hs ≡ head-at ∷ drop (suc i) hs
    h-drop = drop-get hs i (record { index = 0 }) there

    t-drop : drop i ts ≡ arg-at ∷ drop (suc i) ts
    t-drop = drop-get ts i (record { index = 0 }) (omega (arith, there, as-many))

    pub head-valid : IsValid w1.heap head-at.index depth
    head-valid = valid-get w1.heap depth hs i (record { index = 0 }) there u.heads

    pub arg-valid : IsValid w1.heap arg-at.index depth
    arg-valid = valid-get w1.heap depth ts i (record { index = 0 }) (omega (arith, there, as-many)) u.args

    pub underway-skips : (slice_index_or ms i false ≡ mode → ⊥) → IsUnderway mark mode depth ms hs ts w w1 (suc i)
    underway-skips ne = record {
      heads = u.heads;
      args = u.args;
      first = u.first;
      solving = solving-skips mark mode depth ms hs ts w.heap w1.heap i (slice_index_or ms i false) head-at arg-at u.solving m-drop h-drop t-drop ne;
      rest = u.rest;
    }

    pub underway-goes : (w2 : World) → slice_index_or ms i false ≡ mode → IsSound w1.heap → Growing w1.heap w2.heap → LeavesRest w1 w2 → AnswersTrue mark w1.heap w2.heap (problem_of w1.heap head-at.index arg-at.index depth)
        → IsUnderway mark mode depth ms hs ts w w2 (suc i)
    underway-goes w2 e sound g r h = record {
      heads = all-valid-grown w1.heap w2.heap g.before g.after depth sound g.grows hs u.heads;
      args = all-valid-grown w1.heap w2.heap g.before g.after depth sound g.grows ts u.args;
      first = omega (arith, u.first, ap length g.grows.depths, length-append w1.heap.depths g.grows.new_depths);
      solving = solving-goes mark mode depth ms hs ts w.heap w1.heap i (slice_index_or ms i false) head-at arg-at u.solving m-drop h-drop t-drop w2.heap e head-there arg-there g h;
      rest = leaves-trans w w1 w2 u.rest r;
    }

    pub underway-clashes : slice_index_or ms i false ≡ mode → AnswersFalse mark (problem_of w1.heap head-at.index arg-at.index depth) → AnswersFalse mark (problem_of_all w.heap mode depth ms hs ts)
    underway-clashes e h = solving-clashes mark mode depth ms hs ts w.heap w1.heap i (slice_index_or ms i false) head-at arg-at u.solving m-drop h-drop t-drop e head-there arg-there h

    pub underway-stops : (stop : UnifyStop) → slice_index_or ms i false ≡ mode → StopsSo mark (problem_of w1.heap head-at.index arg-at.index depth) stop → StopsSo mark (problem_of_all w.heap mode depth ms hs ts) stop
    underway-stops stop e h = solving-stops mark mode depth ms hs ts w.heap w1.heap i (slice_index_or ms i false) head-at arg-at u.solving m-drop h-drop t-drop stop e head-there arg-there h

  pub underway-ends : (w1 : World) (i : ℕ) → IsUnderway mark mode depth ms hs ts w w1 i → (length ms ≤ i) ⊎ (length hs ≤ i) → AnswersTrue mark w.heap w1.heap (problem_of_all w.heap mode depth ms hs ts)
  underway-ends w1 i u (inl past) = solving-ends mark mode depth ms hs ts w.heap w1.heap i u.solving
      (ap (λ xs. equations_at mode depth xs (all_read w.heap (drop i hs)) (all_read w.heap (drop i ts))) (drop-whole ms i past))
  underway-ends w1 i u (inr past) = solving-ends mark mode depth ms hs ts w.heap w1.heap i u.solving
      (ap (λ xs. equations_at mode depth (drop i ms) (all_read w.heap xs) (all_read w.heap (drop i ts))) (drop-whole hs i past)
      ∙ none-left mode depth (drop i ms) (all_read w.heap (drop i ts)))

-- a place below the smaller length
pub in_modes : (ms : List Bool) (hs : List TermId) (count i : ℕ) → count ≡ min (length ms) (length hs) → i < count → i < length ms
in_modes ms hs count i e h = omega (arith, e, h)

pub in_heads : (ms : List Bool) (hs : List TermId) (count i : ℕ) → count ≡ min (length ms) (length hs) → i < count → i < length hs
in_heads ms hs count i e h = omega (arith, e, h)

pub past : (ms : List Bool) (hs : List TermId) (count i : ℕ) → count ≡ min (length ms) (length hs) → count ≤ i → (length ms ≤ i) ⊎ (length hs ≤ i)
past ms hs count i e h = go (nat_lt i (length ms)) refl
  where
    go : (b : Bool) → nat_lt i (length ms) ≡ b → (length ms ≤ i) ⊎ (length hs ≤ i)
    go true q = let k : i < length ms = grind (arith, q) in inr (omega (arith, e, h, k))
    go false q = let k : length ms ≤ i = grind (arith, q) in inl k

pub picked-true : (A B : Type 0) (b : Bool) → b ≡ true → MatchBool b A B → A
picked-true A B true e h = h
picked-true A B false e h = absurd (let z : false ≡ true = e in cc)

pub picked-false : (A B : Type 0) (b : Bool) → b ≡ false → MatchBool b A B → B
picked-false A B true e h = absurd (let z : true ≡ false = e in cc)
picked-false A B false e h = h
