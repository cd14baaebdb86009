-- The reference's moves of built-ins, by what the calls answer.
use Rattle.std.proofs.Common.{◌≡◌, ℕ, ◌<◌, Bool, true, false, MatchBool, List, [], ◌∷◌, length, map, Option, None, refl, sym, ap, ap₂, ◌∙◌}
use Rattle.level_terms.specs.Graph.{Graph}
use Rattle.level_terms.specs.Reading.{read}
use Rattle.ref_terms.specs.terms.Term.{Term}
use Rattle.ref_terms.specs.unification.Problem.{Problem, Answer, Binding, Solved, Clashed, Faulted}
use Rattle.ref_terms.specs.unification.Unification.{unify}
use Rattle.ref_terms.specs.search.Assumption.{Assumption}
use Rattle.ref_terms.specs.search.Formula.{reserved_goal}
use Rattle.ref_terms.specs.search.Program.{Program}
use Rattle.ref_terms.specs.search.Branch.{Goal, Constraint, Branch, bound, bound_assumption, bound_goal, bound_constraint, bound_branch, with_goals}
use Rattle.ref_terms.specs.search.State.{Alternative, Printed, Running, Move, faults}
use Rattle.ref_terms.specs.search.BranchMove.{after_unifying, goes_or_fails, fails}
use Rattle.ref_terms.specs.declared.fault.Fault.{Fault as FaultOf}
use Rattle.beta_fragment.specs.declared.answer.UnifyStop.{UnifyStop}
use Rattle.beta_fragment.specs.declared.answer.UnifyStop.TheVariants.{Fault, Memory}
use Rattle.goal_form.specs.Builtins.{builtin_word}
use Rattle.goal_form.specs.declared.builtin.Builtin.{Builtin}
use Rattle.builtins.specs.Laws.{outcome_move}
use Rattle.builtins.specs.Moves.{event_shown, GoesOn, FailsSo, BreaksOff}
use Rattle.builtins.specs.Outcome.{Outcome, Equates, Tells, Prints, Breaks, outcome, line_of, printed_after, equation_in, Succeeds, Fails, Stops}
use Rattle.builtins.proofs.CallLemmas.{outcomes-move}

-- nothing changes where nothing is bound
unbound : {A : Type 0} (f : A → A) → ((x : A) → f x ≡ x) → (xs : List A) → map f xs ≡ xs
unbound f e [] = refl
unbound f e (x ∷ xs) = ap₂ (λ (y : _) (ys : List _). y ∷ ys) (e x) (unbound f e xs)

assumption-unbound : (h : Assumption) → bound_assumption [] h ≡ h
assumption-unbound h = λ i. record h { conditions = unbound (bound []) (λ t. refl) h.conditions i }

goal-unbound : (g : Goal) → bound_goal [] g ≡ g
goal-unbound g = λ i. record g { assumptions = unbound (bound_assumption []) assumption-unbound g.assumptions i }

constraint-unbound : (c : Constraint) → bound_constraint [] c ≡ c
constraint-unbound c = λ i. record c { assumptions = unbound (bound_assumption []) assumption-unbound c.assumptions i; keys = unbound (bound []) (λ t. refl) c.keys i }

branch-unbound : (b : Branch) (n : ℕ) → b.next_var ≡ n → bound_branch [] n b ≡ b
branch-unbound b n e = λ i. record b {
  goals = unbound (bound_goal []) goal-unbound b.goals i;
  store = unbound (bound_constraint []) constraint-unbound b.store i;
  query = unbound (bound []) (λ t. refl) b.query i;
  next_var = sym e i;
}

-- one equation at a depth
abbrev equation_at : (next depth : ℕ) (s t : Term) → Problem
equation_at next depth s t = record { next_var = next; equations = record { names = depth; left = s; right = t } ∷ []; bindings = [] }

-- the move of an outcome, on any branch whose next variable is the heap's
abbrev OutcomeMoves : (table : List (List ℕ)) → Graph → (depth : ℕ) → Outcome → (Branch → List Alternative → Move) → Type 0
OutcomeMoves table g depth o move = (program : Program) (branch : Branch) (goal : Goal) (rest : List Goal) (alternatives : List Alternative)
    → program.symbols ≡ table → branch.next_var ≡ length g.depths → goal.names ≡ depth
    → outcome_move unify program branch goal rest alternatives o ≡ move (with_goals rest branch) alternatives

record OutcomeGoesOn (table : List (List ℕ)) (old new : Graph) (depth : ℕ) (o : Outcome) (shown : Option (List ℕ)) : Type 0 where
  made : List Binding
  readings : (t : ℕ) (env : ℕ → Term) → t < length old.nodes → read new t env ≡ bound made (read old t env)
  moves : OutcomeMoves table old depth o (λ branch alternatives. record { event = event_shown shown; state = Running (bound_branch made (length new.depths) branch) alternatives })

module _ (table : List (List ℕ)) (g h : Graph) (depth : ℕ) where
  unified : (s t : Term) (a : Answer) → unify 0 (equation_in g depth s t) ≡ a → OutcomeMoves table g depth (Equates s t) (λ branch alternatives. after_unifying branch alternatives a)
  unified s t a e program branch goal rest alternatives symbols next at =
      ap (after_unifying (with_goals rest branch) alternatives) (ap₂ (λ (n d : ℕ). unify 0 (equation_at n d s t)) next at ∙ e)

  outcome-goes_on : (o : Outcome) (shown : Option (List ℕ)) → shown ≡ printed_after table o None → Succeeds g h depth o → OutcomeGoesOn table g h depth o shown
  outcome-goes_on (Equates s t) shown e w = record {
    made = (w.0).bindings;
    readings = w.2.readings;
    moves = λ program branch goal rest alternatives symbols next at. unified s t (Solved w.0) w.1 program branch goal rest alternatives symbols next at
        ∙ (λ i. record { event = event_shown (sym e i); state = Running (bound_branch (w.0).bindings (sym w.2.variables i) (with_goals rest branch)) alternatives });
  }
  outcome-goes_on (Tells c) shown e w = record {
    made = [];
    readings = w.1.readings;
    moves = λ program branch goal rest alternatives symbols next at. ap (λ (d : Bool). goes_or_fails d (with_goals rest branch) alternatives) w.0
        ∙ (λ i. record { event = event_shown (sym e i); state = Running (sym (branch-unbound (with_goals rest branch) (length h.depths) (next ∙ sym (ap length w.1.variables))) i) alternatives });
  }
  outcome-goes_on (Prints t) shown e w = record {
    made = [];
    readings = w.readings;
    moves = λ program branch goal rest alternatives symbols next at.
        let event : Printed (line_of program.symbols t) ≡ event_shown shown = ap (λ (table : List (List ℕ)). Printed (line_of table t)) symbols ∙ ap event_shown (sym e) in
        λ i. record { event = event i; state = Running (sym (branch-unbound (with_goals rest branch) (length h.depths) (next ∙ sym (ap length w.variables))) i) alternatives };
  }
  outcome-goes_on (Breaks f) shown e w = absurd w

  outcome-fails : (o : Outcome) → Fails g depth o → OutcomeMoves table g depth o (λ branch alternatives. fails alternatives)
  outcome-fails (Equates s t) w = unified s t (Clashed w.0) w.1
  outcome-fails (Tells c) w = λ program branch goal rest alternatives symbols next at. ap (λ (d : Bool). goes_or_fails d (with_goals rest branch) alternatives) w
  outcome-fails (Prints t) w = absurd w
  outcome-fails (Breaks f) w = absurd w

  outcome-breaks : (o : Outcome) (f : FaultOf) → Stops g depth o (Fault f) → OutcomeMoves table g depth o (λ branch alternatives. faults f)
  outcome-breaks (Equates s t) f w = λ program branch goal rest alternatives symbols next at. unified s t (Faulted w.0) w.2 program branch goal rest alternatives symbols next at ∙ ap faults (sym w.1)
  outcome-breaks (Tells c) f w = absurd (let k : Fault f ≡ Memory = w in cc)
  outcome-breaks (Prints t) f w = absurd (let k : Fault f ≡ Memory = w in cc)
  outcome-breaks (Breaks e) f w = λ program branch goal rest alternatives symbols next at. ap faults (sym w)

  -- the moves of a built-in
  module _ (b : Builtin) (ts : List Term) where
    pub goes-on : (shown : Option (List ℕ)) → shown ≡ printed_after table (outcome b ts) None → Succeeds g h depth (outcome b ts) → GoesOn table g h depth (reserved_goal (builtin_word b) ts) shown
    goes-on shown e w =
        let m = outcome-goes_on (outcome b ts) shown e w in
        record {
          made = m.made;
          readings = m.readings;
          moves = λ program branch goal rest alternatives symbols next at. outcomes-move unify program branch goal rest alternatives b ts ∙ m.moves program branch goal rest alternatives symbols next at;
        }

    pub fails-so : Fails g depth (outcome b ts) → FailsSo table g depth (reserved_goal (builtin_word b) ts)
    fails-so w program branch goal rest alternatives symbols next at = outcomes-move unify program branch goal rest alternatives b ts ∙ outcome-fails (outcome b ts) w program branch goal rest alternatives symbols next at

    pub breaks-off : (stop : UnifyStop) → Stops g depth (outcome b ts) stop → BreaksOff table g depth (reserved_goal (builtin_word b) ts) stop
    breaks-off (Fault f) w = λ program branch goal rest alternatives symbols next at. outcomes-move unify program branch goal rest alternatives b ts ∙ outcome-breaks (outcome b ts) f w program branch goal rest alternatives symbols next at
    breaks-off Memory w = tt

    pub moves-on : (shown : Option (List ℕ)) → shown ≡ printed_after table (outcome b ts) None → (c : Bool) → MatchBool c (Succeeds g h depth (outcome b ts)) (Fails g depth (outcome b ts))
        → MatchBool c (GoesOn table g h depth (reserved_goal (builtin_word b) ts) shown) (FailsSo table g depth (reserved_goal (builtin_word b) ts))
    moves-on shown e true w = goes-on shown e w
    moves-on shown e false w = fails-so w
