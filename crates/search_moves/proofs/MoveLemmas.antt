-- What moves come to.
use Rattle.std.proofs.Common.{◌≡◌, false, List, [], ◌∷◌, length, map, Some, None, Result, Ok, Err, IfOk, refl, sym, ap, ap₂, ◌∙◌, subst}
use Rattle.std.proofs.lemmas.List.{length-map}
use Rattle.level_terms.specs.Reading.{read}
use Rattle.beta_fragment.specs.Names.{names}
use Rattle.ref_terms.specs.search.Formula.{GoalKind, goal_kind}
use Rattle.ref_terms.specs.search.GoalMove.{kind_move}
use Rattle.ref_terms.specs.unification.Unification.{unify}
use Rattle.ref_terms.specs.declared.fault.Fault.{Fault}
use Rattle.ref_terms.specs.search.Program.{Program}
use Rattle.ref_terms.specs.search.Branch.{Goal, Constraint, Branch}
use Rattle.ref_terms.specs.search.BranchMove.{fails, with_later}
use Rattle.ref_terms.specs.search.Resolve.{Resolved}
use Rattle.ref_terms.specs.search.Strip.{is_open, BarriersFall}
use Rattle.std.specs.List.{list_any}
use Rattle.ref_terms.specs.search.State.{Candidate, Alternative, later_clauses, Move, Running, Ended, Failure, Answered, goes_on, stops, faults}
use Rattle.ref_terms.specs.search.Next.{next, retry, by_goal, by_rule, by_waking, woken}
use Rattle.ref_terms.specs.search.Fault.{Good, Bad}
use Rattle.ref_terms.specs.search.RuleInstance.{Firing, after_firing}
use Rattle.ref_terms.specs.search.FirstRule.{first_firing}
use Rattle.search_moves.specs.declared.frame.Frame.{Frame}
use Rattle.search_moves.specs.declared.machine.Phase.{Phase}
use Rattle.search_moves.specs.declared.machine.Phase.TheVariants as phase
use Rattle.search_moves.specs.declared.machine.Event.{Event}
use Rattle.search_moves.specs.declared.machine.Event.TheVariants as event
use Rattle.search_moves.specs.World.{chain}
use Rattle.search_moves.specs.Reading.{goal_in, saved_in}
use Rattle.search_moves.specs.Waking.{up_in, HasWoken}
use Rattle.search_moves.specs.Calling.{Leaves, left_over, left_out}
use Rattle.search_moves.specs.Machine.{Machine, branch_of, alternatives_of, state_at, state_of, rest_of, move_of, IsFirst, whole, leaner, HasMoved}

pub if-ok : {T E : Type 0} (r : Result T E) (A B : T → Type 0) → ((t : T) → A t → B t) → IfOk r A → IfOk r B
if-ok (Ok t) A B f h = f t h
if-ok (Err e) A B f h = tt

pub moved : (p : Program) (m : Machine) (b : Branch) (alts : List Alternative) → m.phase ≡ phase.Running → branch_of m ≡ b → alternatives_of p m ≡ alts → HasMoved p (goes_on b alts) event.Moved m
moved p m b alts e branch others = record {
  event = refl;
  state = whole (ap (state_at p m) e ∙ ap₂ (λ (x : Branch) (xs : List Alternative). Running x xs) branch others);
}

-- a clause fits: what is left of the call is an alternative, or all of it clashes
pub entered : (p : Program) (m : Machine) (b : Branch) (r : Resolved) (alts : List Alternative) → (BarriersFall (length alts) b.goals → BarriersFall (length alts) r.branch.goals)
    → m.phase ≡ phase.Running → branch_of m ≡ r.branch → Leaves p b r.later alts (alternatives_of p m) → HasMoved p (goes_on r.branch (with_later b r.later alts)) event.Moved m
entered p m b r alts falls e branch (left_over others) = moved p m r.branch (with_later b r.later alts) e branch others
entered p m b r alts falls e branch (left_out others clash) = by r.later clash
  where
    by : (cs : List Candidate) → list_any (is_open unify p b) cs ≡ false → HasMoved p (goes_on r.branch (with_later b cs alts)) event.Moved m
    by [] clash = moved p m r.branch alts e branch others
    by (x ∷ xs) clash = record {
      event = refl;
      state = leaner (record {
        branch = r.branch;
        alternative = later_clauses b (x ∷ xs);
        older = alts;
        before = refl;
        after = ap (state_at p m) e ∙ ap₂ (λ (x : Branch) (xs : List Alternative). Running x xs) branch others;
        clashes = clash;
        uncounted = falls;
      });
    }

pub failed : (p : Program) (m : Machine) (alts : List Alternative) → m.phase ≡ phase.Failed → alternatives_of p m ≡ alts → HasMoved p (fails alts) event.Moved m
failed p m alts e others = record { event = refl; state = whole (ap (state_at p m) e ∙ ap (λ (xs : List Alternative). Ended None xs) others) }

pub exhausted : (p : Program) (m : Machine) → m.phase ≡ phase.Exhausted → HasMoved p (stops Failure) event.Failure m
exhausted p m e = record { event = refl; state = whole (ap (state_at p m) e) }

pub broken : (p : Program) (m : Machine) (f : Fault) → m.phase ≡ phase.Broken f → HasMoved p (faults f) (event.Fault f) m
broken p m f e = record { event = refl; state = whole (ap (state_at p m) e) }

-- the same move, said otherwise
pub moved-as : (p : Program) (x y : Move) (e : Event) (m : Machine) → x ≡ y → HasMoved p y e m → HasMoved p x e m
moved-as p x y e m same h = subst (λ z. HasMoved p z e m) (sym same) h

-- the move of a machine that runs, where no constraint is awake
next-by_rule : (p : Program) (m : Machine) → up_in (branch_of m) ≡ [] → m.phase ≡ phase.Running
    → next unify p (state_of p m) ≡ by_rule unify p (branch_of m) (alternatives_of p m) (first_firing unify (branch_of m) 0 p.rules)
unfolding next
next-by_rule p m asleep e =
    ap (λ (k : Phase). next unify p (state_at p m k)) e ∙ ap (by_waking unify p (branch_of m) (alternatives_of p m)) asleep

-- and no rule has an instance
pub next-is : (p : Program) (m : Machine) → first_firing unify (branch_of m) 0 p.rules ≡ None → up_in (branch_of m) ≡ [] → m.phase ≡ phase.Running
    → next unify p (state_of p m) ≡ by_goal unify p (branch_of m) (alternatives_of p m) (map (goal_in m.world.heap) (chain m.world.frames m.first))
next-is p m none asleep e = next-by_rule p m asleep e ∙ ap (by_rule unify p (branch_of m) (alternatives_of p m)) none

-- where constraints are awake
next-wakes : (p : Program) (m : Machine) (c : Constraint) (cs : List Constraint) → up_in (branch_of m) ≡ c ∷ cs → m.phase ≡ phase.Running
    → next unify p (state_of p m) ≡ goes_on (woken (branch_of m) (length (alternatives_of p m)) (c ∷ cs)) (alternatives_of p m)
unfolding next
next-wakes p m c cs up e =
    ap (λ (k : Phase). next unify p (state_at p m k)) e ∙ ap (by_waking unify p (branch_of m) (alternatives_of p m)) up

pub woken-moved : (p : Program) (old new : Machine) → old.phase ≡ phase.Running → new.phase ≡ phase.Running → HasWoken old new → alternatives_of p new ≡ alternatives_of p old → HasMoved p (next unify p (state_of p old)) event.Moved new
woken-moved p old new running runs h others =
    moved-as p (next unify p (state_of p old)) (goes_on (woken (branch_of old) (length (alternatives_of p old)) (h.first ∷ h.others)) (alternatives_of p old)) event.Moved new
    (next-wakes p old h.first h.others h.up running)
    (moved p new (woken (branch_of old) (length (alternatives_of p old)) (h.first ∷ h.others)) (alternatives_of p old) runs
    (h.branch ∙ ap (λ n. woken (branch_of old) n (h.first ∷ h.others)) (sym (length-map old.saved (saved_in p old.world)))) others)

-- a machine that runs stands for the same state where its branch and its alternatives are the same
pub same-state : (p : Program) (m m' : Machine) → m.phase ≡ phase.Running → m'.phase ≡ phase.Running → branch_of m' ≡ branch_of m → alternatives_of p m' ≡ alternatives_of p m → state_of p m' ≡ state_of p m
same-state p m m' e e' branch others =
    ap (state_at p m') e' ∙ ap₂ (λ (b : Branch) (xs : List Alternative). Running b xs) branch others ∙ sym (ap (state_at p m) e)

pub next-answered : (p : Program) (m : Machine) → m.phase ≡ phase.Answered → next unify p (state_of p m) ≡ retry unify p (alternatives_of p m)
unfolding next
next-answered p m e = ap (λ (k : Phase). next unify p (state_at p m k)) e

pub next-failed : (p : Program) (m : Machine) → m.phase ≡ phase.Failed → next unify p (state_of p m) ≡ retry unify p (alternatives_of p m)
unfolding next
next-failed p m e = ap (λ (k : Phase). next unify p (state_at p m k)) e

pub next-exhausted : (p : Program) (m : Machine) → m.phase ≡ phase.Exhausted → next unify p (state_of p m) ≡ stops Failure
unfolding next
next-exhausted p m e = ap (λ (k : Phase). next unify p (state_at p m k)) e

pub next-broken : (p : Program) (m : Machine) (f : Fault) → m.phase ≡ phase.Broken f → next unify p (state_of p m) ≡ faults f
unfolding next
next-broken p m f e = ap (λ (k : Phase). next unify p (state_at p m k)) e

pub answered : (p : Program) (old new : Machine) → first_firing unify (branch_of old) 0 p.rules ≡ None → up_in (branch_of old) ≡ [] → old.phase ≡ phase.Running → chain old.world.frames old.first ≡ [] → new ≡ record old { phase = phase.Answered }
    → HasMoved p (next unify p (state_of p old)) event.Answer new
answered p old new none asleep e empty same =
    let last : Move = record { event = Answered (branch_of old); state = Ended (Some (branch_of old)) (alternatives_of p old) } in
    moved-as p (next unify p (state_of p old)) last event.Answer new
    (next-is p old none asleep e ∙ ap (λ fs. by_goal unify p (branch_of old) (alternatives_of p old) (map (goal_in old.world.heap) fs)) empty)
    (record { event = ap (λ m. Answered (branch_of m)) same; state = whole (ap (state_of p) same) })

-- a fault
pub broken-off : (p : Program) (move : Move) (old new : Machine) (f : Fault) (e : Event) → move ≡ faults f → e ≡ event.Fault f → new ≡ record old { phase = phase.Broken f } → HasMoved p move e new
broken-off p move old new f e is shown same =
    moved-as p move (faults f) e new is (subst (λ z. HasMoved p (faults f) z new) (sym shown) (broken p new f (ap (λ m. m.phase) same)))

-- a rule fires
pub fired-moved : (p : Program) (old new : Machine) (f : Firing) → up_in (branch_of old) ≡ [] → old.phase ≡ phase.Running → new.phase ≡ phase.Running → first_firing unify (branch_of old) 0 p.rules ≡ Some (Good f)
    → branch_of new ≡ after_firing (branch_of old) (length old.saved) f → alternatives_of p new ≡ alternatives_of p old → HasMoved p (next unify p (state_of p old)) event.Moved new
fired-moved p old new f asleep running runs is branch others =
    moved-as p (next unify p (state_of p old)) (goes_on (after_firing (branch_of old) (length (alternatives_of p old)) f) (alternatives_of p old)) event.Moved new
    (next-by_rule p old asleep running ∙ ap (by_rule unify p (branch_of old) (alternatives_of p old)) is)
    (moved p new (after_firing (branch_of old) (length (alternatives_of p old)) f) (alternatives_of p old) runs
    (branch ∙ ap (λ n. after_firing (branch_of old) n f) (sym (length-map old.saved (saved_in p old.world)))) others)

-- reading a rule's body, or matching, comes to a fault
pub rule-broken : (p : Program) (old m new : Machine) (f : Fault) (e : Event) → up_in (branch_of old) ≡ [] → old.phase ≡ phase.Running → first_firing unify (branch_of old) 0 p.rules ≡ Some (Bad f)
    → e ≡ event.Fault f → new ≡ record m { phase = phase.Broken f } → HasMoved p (next unify p (state_of p old)) e new
rule-broken p old m new f e asleep running is shown same =
    broken-off p (next unify p (state_of p old)) m new f e (next-by_rule p old asleep running ∙ ap (by_rule unify p (branch_of old) (alternatives_of p old)) is) shown same

-- the first goal's move

abbrev tail : List Goal → List Goal
tail [] = []
tail (x ∷ xs) = xs

pub goal-moved : (p : Program) (m0 m1 new : Machine) (f : Frame) (kind : GoalKind) (e : Event) → first_firing unify (branch_of m0) 0 p.rules ≡ None → up_in (branch_of m0) ≡ [] → m0.phase ≡ phase.Running → IsFirst m0 f → IsFirst m1 f
    → goal_in m1.world.heap f ≡ goal_in m0.world.heap f → branch_of m1 ≡ branch_of m0 → alternatives_of p m1 ≡ alternatives_of p m0
    → goal_kind (read m1.world.heap f.term.index names) ≡ kind → HasMoved p (move_of p m1 f kind) e new → HasMoved p (next unify p (state_of p m0)) e new
goal-moved p m0 m1 new f kind e none asleep running first first' goal branch others is h =
    let rest : rest_of m1 f ≡ rest_of m0 f =
    ap tail (sym (ap (map (goal_in m1.world.heap)) first'.goals)) ∙ ap (λ b. tail b.goals) branch ∙ ap tail (ap (map (goal_in m0.world.heap)) first.goals) in
    let here : goal_kind (read m0.world.heap f.term.index names) ≡ kind = ap (λ g. goal_kind g.term) (sym goal) ∙ is in
    let start = next-is p m0 none asleep running ∙ ap (λ fs. by_goal unify p (branch_of m0) (alternatives_of p m0) (map (goal_in m0.world.heap) fs)) first.goals in
    let same : kind_move unify p (branch_of m0) (goal_in m0.world.heap f) (rest_of m0 f) (alternatives_of p m0) (goal_kind (read m0.world.heap f.term.index names)) ≡ move_of p m1 f kind =
    ap (kind_move unify p (branch_of m0) (goal_in m0.world.heap f) (rest_of m0 f) (alternatives_of p m0)) here
    ∙ sym (ap (λ b. kind_move unify p b (goal_in m1.world.heap f) (rest_of m1 f) (alternatives_of p m1) kind) branch
    ∙ ap (λ g. kind_move unify p (branch_of m0) g (rest_of m1 f) (alternatives_of p m1) kind) goal
    ∙ ap (λ gs. kind_move unify p (branch_of m0) (goal_in m0.world.heap f) gs (alternatives_of p m1) kind) rest
    ∙ ap (λ ys. kind_move unify p (branch_of m0) (goal_in m0.world.heap f) (rest_of m0 f) ys kind) others) in
    moved-as p (next unify p (state_of p m0)) (move_of p m1 f kind) e new (start ∙ same) h
