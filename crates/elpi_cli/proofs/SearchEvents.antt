-- The events of a search, move by move.
use Rattle.std.proofs.Common.{◌≡◌, ℕ, zero, suc, ◌-◌, ◌<◌, List, map, refl, ap, ap₂, sym, subst, ◌∙◌, arith}
use Rattle.std.specs.declared.option.Option.{Option}
use Rattle.ref_terms.specs.unification.Unification.{unify}
use Rattle.ref_terms.specs.search.Program.{Program}
use Rattle.ref_terms.specs.search.State.{Event, Moved, Printed, Answered, Failure, Faulted, State}
use Rattle.ref_terms.specs.search.Events.{events, following}
use Rattle.ref_terms.specs.search.Next.{next}
use Rattle.lp_resolve.specs.declared.query.QueryVar.{QueryVar}
use Rattle.lp_resolve.specs.Plain.{plain_variable}
use Rattle.elpi_cli.specs.Output.{Output, written}
use Rattle.elpi_cli.specs.Written.{Progress}
use Rattle.elpi_cli.specs.inside.Searching.{followed}

-- an event and those after it
followed-is : (later : State → List Event) (e : Event) (s : State) → following later e s ≡ followed e (later s)
followed-is later Moved s = refl
followed-is later (Printed text) s = refl
followed-is later (Answered b) s = refl
followed-is later Failure s = refl
followed-is later (Faulted f) s = refl

-- the events of a state begin with that of its move
pub events-move : (p : Program) (count : ℕ) (old new : State) (e : Event) → 0 < count → (next unify p old).event ≡ e → ((n : ℕ) → events unify p n new ≡ events unify p n (next unify p old).state)
    → events unify p count old ≡ followed e (events unify p (count - 1) new)
events-move p zero old new e some shown moved = absurd (omega arith)
events-move p (suc count) old new e some shown moved =
    let fewer : count ≡ suc count - 1 = omega arith in
    followed-is (events unify p count) (next unify p old).event (next unify p old).state
    ∙ ap₂ followed shown (sym (moved count) ∙ ap (λ n. events unify p n new) fewer)

-- what is still to be written before a move begins with what the move shows
pub before-move : {S : Type 0} (told : S → Option (List ℕ)) (faults : S → ℕ) (stopped : S → Option (List ℕ)) (a b : S) (table : List (List ℕ)) (p : Program) (vs ws : List QueryVar) (limit count n : ℕ) (old new : State) (e : Event) (whole : Output)
    → 0 < n → ws ≡ vs → e ≡ (next unify p old).event → ((n : ℕ) → events unify p n new ≡ events unify p n (next unify p old).state)
    → Progress told faults stopped a b (written table (map plain_variable vs) limit count (events unify p n old)) whole
    → Progress told faults stopped a b (written table (map plain_variable ws) limit count (followed e (events unify p (n - 1) new))) whole
before-move told faults stopped a b table p vs ws limit count n old new e whole some same shown moved done =
    subst (λ (o : Output). Progress told faults stopped a b o whole)
    (ap (λ (xs : List QueryVar). written table (map plain_variable xs) limit count (events unify p n old)) (sym same)
    ∙ ap (written table (map plain_variable ws) limit count) (events-move p n old new e some (sym shown) moved)) done
