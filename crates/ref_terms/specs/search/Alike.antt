-- States that differ in the numbers of their variables alone.
--
-- The present branch and each alternative have a renaming of their own. No other number is renamed:
-- a name is the count of the names in scope where it was made, in its own goal, constraint or clause, and
-- a constraint's number is the count of the declarations of its own branch, so that both are the same in alike states.
use Rattle.std.specs.Prelude.{◌≡◌, ℕ, suc, ◌≤◌, List, [], ◌∷◌, Option, Some, None}
use Rattle.ref_terms.specs.unification.Renamed.{IsRenaming}
use Rattle.ref_terms.specs.search.Program.{QueryVar}
use Rattle.ref_terms.specs.search.Branch.{Branch}
use Rattle.ref_terms.specs.search.State.{Alternative, Event, Answered, State, Running, Ended, Over, Move}
use Rattle.ref_terms.specs.search.Renamed.{branch_vars, alternative_vars, branch_of}
use Rattle.ref_terms.specs.texts.Answer.{answer_block, path_line}

-- a renaming of all variables, where the next one is this: different variables stay different, variables below
-- the next one stay below it, as matching asks which variables are the older ones, and those to come stay in order
pub record IsRenamingAt (next_var : ℕ) (p : ℕ → ℕ) : Type 0 where
  pub good : IsRenaming p next_var (p next_var)
  pub in_order : (k : ℕ) → next_var ≤ k → p (suc k) ≡ suc (p k)

-- the second branch is the first one renamed
pub record RenamedBranch (b c : Branch) : Type 0 where
  pub renaming : ℕ → ℕ
  pub good : IsRenamingAt b.next_var renaming
  pub same : c ≡ branch_vars renaming b

-- the same of alternatives; the clauses that are left are renamed with their branch
pub record RenamedAlternative (a c : Alternative) : Type 0 where
  pub renaming : ℕ → ℕ
  pub good : IsRenamingAt (branch_of a).next_var renaming
  pub same : c ≡ alternative_vars renaming a

-- the lists are equally long, and what stands at equal places is so related
abbrev pub Each : {A : Type 0} → (A → A → Type 0) → List A → List A → Type 0
Each R [] [] = Unit {0}
Each R (a ∷ xs) (b ∷ ys) = R a b × Each R xs ys
Each R _ _ = ⊥

-- the same where there may be one
abbrev pub Both : {A : Type 0} → (A → A → Type 0) → Option A → Option A → Type 0
Both R None None = Unit {0}
Both R (Some a) (Some b) = R a b
Both R _ _ = ⊥

-- events are equal, but for an answer's branch, which is renamed
abbrev pub RenamedEvent : Event → Event → Type 0
RenamedEvent (Answered b) (Answered c) = RenamedBranch b c
RenamedEvent (Answered b) f = ⊥
RenamedEvent e (Answered c) = ⊥
RenamedEvent e f = e ≡ f

-- the second state is the first one renamed, each branch of it by itself
abbrev pub RenamedState : State → State → Type 0
RenamedState (Running b xs) (Running c ys) = RenamedBranch b c × Each RenamedAlternative xs ys
RenamedState (Ended b xs) (Ended c ys) = Both RenamedBranch b c × Each RenamedAlternative xs ys
RenamedState (Over e) (Over f) = RenamedEvent e f
RenamedState _ _ = ⊥

-- the event and the state after a move are renamed
abbrev pub RenamedMove : Move → Move → Type 0
RenamedMove m n = RenamedEvent m.event n.event × RenamedState m.state n.state

-- both are related by any number of such steps, in either direction: the least equivalence with this relation
pub data Joined {A : Type 0} (R : A → A → Type 0) : A → A → Type 0 where
  unchanged : {a : A} → Joined R a a
  step : {a b : A} → R a b → Joined R a b
  back : {a b : A} → Joined R a b → Joined R b a
  through : {a b c : A} → Joined R a b → Joined R b c → Joined R a c

-- states that are equal up to renamings; one that has made fewer variables has room in its renaming for the others
abbrev pub AlikeState : State → State → Type 0
AlikeState s t = Joined RenamedState s t

-- events that are equal up to renamings
abbrev pub AlikeEvent : Event → Event → Type 0
AlikeEvent e f = Joined RenamedEvent e f

-- moves with alike events to alike states
abbrev pub AlikeMove : Move → Move → Type 0
AlikeMove m n = AlikeEvent m.event n.event × AlikeState m.state n.state

-- what is written for an event: an answer's block, whatever its number, and its path; every other event is written as it is
pub data Shown : Type 0 where
  answer : (block : ℕ → List ℕ) → (path : List ℕ) → Shown
  as_it_is : Event → Shown

-- so much of an event can be seen
abbrev pub shown : List (List ℕ) → List QueryVar → Event → Shown
shown table variables (Answered b) = answer (λ number. answer_block table variables number b) (path_line b.path)
shown table variables e = as_it_is e
