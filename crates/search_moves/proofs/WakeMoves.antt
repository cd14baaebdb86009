-- Waking, constraint by constraint.
use Rattle.std.proofs.Common.{◌≡◌, ℕ, suc, List, [], ◌∷◌, ◌++◌, length, map, refl, sym, ap, ap₂, ◌∙◌, subst, append_assoc, append-nil, arith}
use Rattle.std.proofs.lemmas.List.{map-append}
use Rattle.level_terms.specs.Graph.{Graph}
use Rattle.ref_terms.specs.search.Branch.{Goal, Constraint, Branch, with_goals}
use Rattle.ref_terms.specs.search.Next.{woken_goal, woken}
use Rattle.search_moves.specs.declared.frame.Frame.{Frame}
use Rattle.search_moves.specs.World.{code_nodes}
use Rattle.search_moves.specs.Reading.{goal_in}
use Rattle.search_moves.specs.Machine.{Machine, branch_of, LeavesAlternatives}
use Rattle.search_moves.specs.Waking.{up_in, asleep_in, AllGoalsAt, WakesOne, SleepsOn, IsWaking, HasWoken}
use Rattle.search_moves.proofs.WakingLemmas.{all-asleep}

pub no-goals : (fs : List Frame) → length fs ≡ 0 → fs ≡ []
no-goals [] e = refl
no-goals (f ∷ fs) e = absurd (omega (arith, e))

-- some have left the store
pub record IsCollecting (barrier : ℕ) (old new : Machine) (fs : List Frame) : Type 0 where
  pub waking : IsWaking barrier old new fs
  pub saved : new.saved ≡ old.saved
  pub phase : new.phase ≡ old.phase
  pub code : code_nodes new.world ≡ code_nodes old.world
  pub alternatives : LeavesAlternatives old new

pub waking-starts : (barrier : ℕ) (m : Machine) (fs : List Frame) → fs ≡ [] → IsCollecting barrier m m fs
waking-starts barrier m [] e = record { waking = record { goals = refl; asleep = refl; rest = refl; valid = tt }; saved = refl; phase = refl; code = refl; alternatives = λ p. refl }
waking-starts barrier m (f ∷ fs) e = absurd (let z : ◌≡◌ {A = List Frame} (f ∷ fs) [] = e in cc)

goals-last : (g : Graph) (fs : List Frame) (f : Frame) → AllGoalsAt g fs → AllGoalsAt g (f ∷ []) → AllGoalsAt g (fs ++ f ∷ [])
goals-last g [] f v w = w
goals-last g (x ∷ fs) f v w = (v.0, v.1, goals-last g fs f v.2 w)

-- one more leaves it
pub waking-goes : (barrier : ℕ) (old m new : Machine) (fs : List Frame) (f : Frame) → IsCollecting barrier old m fs → WakesOne barrier m new f
    → (map (goal_in new.world.heap) fs ≡ map (goal_in m.world.heap) fs) × AllGoalsAt new.world.heap fs
    → new.saved ≡ m.saved → new.phase ≡ m.phase → code_nodes new.world ≡ code_nodes m.world → LeavesAlternatives m new → IsCollecting barrier old new (fs ++ f ∷ [])
waking-goes barrier old m new fs f h one kept saved phase code alternatives = record {
  waking = record {
    goals =
        let w : Constraint → Goal = woken_goal barrier in
        let up = map w (up_in (branch_of new)) in
        ap (λ xs. xs ++ up) (map-append (goal_in new.world.heap) fs (f ∷ []))
        ∙ ap₂ (λ (xs : List Goal) (x : Goal). (xs ++ x ∷ []) ++ up) kept.0 one.goal
        ∙ append_assoc (map (goal_in m.world.heap) fs) (w one.constraint ∷ []) up
        ∙ ap (λ cs. map (goal_in m.world.heap) fs ++ map w cs) (sym one.first)
        ∙ h.waking.goals;
    asleep = one.asleep ∙ h.waking.asleep;
    rest = one.rest ∙ ap (λ (b : Branch). record b { store = (branch_of new).store }) h.waking.rest;
    valid = goals-last new.world.heap fs f kept.1 one.valid;
  };
  saved = saved ∙ h.saved;
  phase = phase ∙ h.phase;
  code = code ∙ h.code;
  alternatives = λ p. alternatives p ∙ h.alternatives p;
}

-- fewer are awake
pub waking-smaller : (barrier : ℕ) (m new : Machine) (f : Frame) → WakesOne barrier m new f → length (up_in (branch_of m)) ≡ suc (length (up_in (branch_of new)))
waking-smaller barrier m new f h = ap length h.first

-- none is left
module _ (barrier : ℕ) (old m m' : Machine) (fs : List Frame) (h : IsCollecting barrier old m fs) (none : SleepsOn m m')
    (kept : (map (goal_in m'.world.heap) fs ≡ map (goal_in m.world.heap) fs) × AllGoalsAt m'.world.heap fs) where
  goals-are : map (goal_in m'.world.heap) fs ≡ map (woken_goal barrier) (up_in (branch_of old))
  goals-are =
      kept.0 ∙ sym (append-nil (map (goal_in m.world.heap) fs))
      ∙ ap (λ cs. map (goal_in m.world.heap) fs ++ map (woken_goal barrier) cs) (sym none.none)
      ∙ h.waking.goals

  store-is : (branch_of m').store ≡ asleep_in (branch_of old)
  store-is = ap (λ (b : Branch). b.store) none.branch ∙ sym (all-asleep (branch_of m).store none.none) ∙ h.waking.asleep

  branch-is : branch_of m' ≡ record (branch_of old) { store = asleep_in (branch_of old) }
  branch-is = none.branch ∙ h.waking.rest ∙ ap (λ (cs : List Constraint). record (branch_of old) { store = cs }) (ap (λ (b : Branch). b.store) (sym none.branch) ∙ store-is)

  no-more : (cs : List Constraint) → [] ≡ map (woken_goal barrier) cs → cs ≡ []
  no-more [] e = refl
  no-more (c ∷ cs) e = absurd (let z : ◌≡◌ {A = List Goal} [] (woken_goal barrier c ∷ map (woken_goal barrier) cs) = e in cc)

  -- no goal was woken
  pub woke-none : fs ≡ [] → SleepsOn old m'
  woke-none e =
      let up : up_in (branch_of old) ≡ [] = no-more (up_in (branch_of old)) (ap (map (goal_in m'.world.heap)) (sym e) ∙ goals-are) in
      record { none = up; branch = branch-is ∙ ap (λ (cs : List Constraint). record (branch_of old) { store = cs }) (all-asleep (branch_of old).store up) }

  -- some were
  pub woke-some : (new : Machine) → (fs ≡ [] → ⊥) → barrier ≡ length old.saved → branch_of new ≡ with_goals (map (goal_in m'.world.heap) fs ++ (branch_of m').goals) (branch_of m') → HasWoken old new
  woke-some new some number put = go (up_in (branch_of old)) refl
    where
      is : branch_of new ≡ woken (branch_of old) (length old.saved) (up_in (branch_of old))
      is =
          put ∙ ap₂ (λ (gs : List Goal) (b : Branch). with_goals (gs ++ b.goals) b) goals-are branch-is
          ∙ ap (λ n. woken (branch_of old) n (up_in (branch_of old))) number

      none-there : map (goal_in m'.world.heap) fs ≡ [] → fs ≡ []
      none-there e = empty fs e
        where
          empty : (xs : List Frame) → map (goal_in m'.world.heap) xs ≡ [] → xs ≡ []
          empty [] q = refl
          empty (x ∷ xs) q = absurd (let z : ◌≡◌ {A = List Goal} (goal_in m'.world.heap x ∷ map (goal_in m'.world.heap) xs) [] = q in cc)

      go : (cs : List Constraint) → up_in (branch_of old) ≡ cs → HasWoken old new
      go [] e = absurd (some (none-there (goals-are ∙ ap (map (woken_goal barrier)) e)))
      go (c ∷ cs) e = record { first = c; others = cs; up = e; branch = is ∙ ap (woken (branch_of old) (length old.saved)) e }

-- goals are put before the others, the last one first
pub record IsPuttingBack (old : Machine) (goals : List Frame) (new : Machine) (left : List Frame) : Type 0 where
  pub heap : new.world.heap ≡ old.world.heap
  pub valid : AllGoalsAt old.world.heap left
  pub branch : with_goals (map (goal_in old.world.heap) left ++ (branch_of new).goals) (branch_of new) ≡ with_goals (map (goal_in old.world.heap) goals ++ (branch_of old).goals) (branch_of old)
  pub saved : new.saved ≡ old.saved
  pub phase : new.phase ≡ old.phase
  pub code : code_nodes new.world ≡ code_nodes old.world
  pub alternatives : LeavesAlternatives old new

goals-front : (g : Graph) (fs : List Frame) (f : Frame) → AllGoalsAt g (fs ++ f ∷ []) → AllGoalsAt g fs × AllGoalsAt g (f ∷ [])
goals-front g [] f v = (tt, v)
goals-front g (x ∷ fs) f v = let more = goals-front g fs f v.2 in ((v.0, v.1, more.0), more.1)

pub last-goal : (old m : Machine) (goals left fewer : List Frame) (f : Frame) → IsPuttingBack old goals m left → left ≡ fewer ++ f ∷ [] → AllGoalsAt m.world.heap (f ∷ [])
last-goal old m goals left fewer f h e = subst (λ g. AllGoalsAt g (f ∷ [])) (sym h.heap) (goals-front old.world.heap fewer f (subst (AllGoalsAt old.world.heap) e h.valid)).1

pub putting-ends : (old m : Machine) (goals left : List Frame) → IsPuttingBack old goals m left → left ≡ [] → branch_of m ≡ with_goals (map (goal_in old.world.heap) goals ++ (branch_of old).goals) (branch_of old)
putting-ends old m goals left h e = sym (ap (λ (fs : List Frame). with_goals (map (goal_in old.world.heap) fs ++ (branch_of m).goals) (branch_of m)) e) ∙ h.branch

pub putting-goes : (old m new : Machine) (goals left fewer : List Frame) (f : Frame) → IsPuttingBack old goals m left → left ≡ fewer ++ f ∷ []
    → branch_of new ≡ with_goals (goal_in m.world.heap f ∷ (branch_of m).goals) (branch_of m) → new.world.heap ≡ m.world.heap → new.saved ≡ m.saved → new.phase ≡ m.phase → code_nodes new.world ≡ code_nodes m.world → LeavesAlternatives m new
    → IsPuttingBack old goals new fewer
putting-goes old m new goals left fewer f h e put heap saved phase code alternatives =
    let g = old.world.heap in
    let put_here : branch_of new ≡ with_goals (goal_in g f ∷ (branch_of m).goals) (branch_of m) = put ∙ ap (λ x. with_goals (goal_in x f ∷ (branch_of m).goals) (branch_of m)) h.heap in
    record {
      heap = heap ∙ h.heap;
      valid = (goals-front g fewer f (subst (AllGoalsAt g) e h.valid)).0;
      branch = ap (λ (b : Branch). with_goals (map (goal_in g) fewer ++ b.goals) b) put_here
          ∙ ap (λ (gs : List Goal). with_goals gs (branch_of m)) (sym (append_assoc (map (goal_in g) fewer) (goal_in g f ∷ []) (branch_of m).goals)
          ∙ ap (λ (xs : List Goal). xs ++ (branch_of m).goals) (sym (map-append (goal_in g) fewer (f ∷ []))))
          ∙ ap (λ xs. with_goals (map (goal_in g) xs ++ (branch_of m).goals) (branch_of m)) (sym e)
          ∙ h.branch;
      saved = saved ∙ h.saved;
      phase = phase ∙ h.phase;
      code = code ∙ h.code;
      alternatives = λ p. alternatives p ∙ h.alternatives p;
    }
