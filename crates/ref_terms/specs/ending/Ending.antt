-- Unification ends.
use Rattle.std.proofs.Common.{◌≡◌, ℕ, suc, refl, ap, ◌∙◌, List, [], ◌∷◌, ◌++◌, length, arith, inl, inr}
use Rattle.ref_terms.specs.unification.Shape.{shape}
use Rattle.ref_terms.specs.unification.Problem.{Equation, Problem, Answer, Step, Goes, Ends}
use Rattle.ref_terms.specs.unification.Rules.{step_at, step}
use Rattle.ref_terms.specs.unification.Run.{after, run, Unifies}
use Rattle.ref_terms.specs.ending.Measure.{fits-map}
use Rattle.ref_terms.specs.ending.Bounds.{Among, bounded-downward, variables_of, fits-listed, mem-append-left, mem-append-right}
use Rattle.ref_terms.specs.ending.Progress.{AllFit, Good, sizes, all-good, all-some-bound, AreBuilt, room_of, one_isnt, Moves, Here}
use Rattle.ref_terms.specs.ending.Rules.{shape-is, rule-moves}
use Rattle.ref_terms.specs.ending.Descent.{Round, ends}

-- one step
pub step-moves : (m : ℕ) (vs : List ℕ) (b : ℕ → ℕ) (u : ℕ) (p : Problem) → Good (Here vs b) p.equations → (u ≡ 0 → AreBuilt p.equations) → Moves (length vs) (room_of b vs u) (sizes p.equations) (step m p)
unfolding step
step-moves m vs b u p g w = go p.equations g w
  where
    go : (es : List Equation) → Good (Here vs b) es → (u ≡ 0 → AreBuilt es) → Moves (length vs) (room_of b vs u) (sizes es) (step_at m es p)
    go [] g w = tt
    go (e ∷ es) g w = rule-moves vs b m e es p g.0 g.1 u w (shape m e.left) (shape m e.right) (shape-is m e.left) (shape-is m e.right)

-- a problem with its variables and their bounds
pub record State : Type 0 where
  pub problem : Problem
  pub listed : List ℕ
  pub bound : ℕ → ℕ
  pub unbuilt : ℕ
  pub good : Good (Here listed bound) problem.equations
  pub built : unbuilt ≡ 0 → AreBuilt problem.equations

-- the run from a state comes to an answer
abbrev pub Finishes : ℕ → State → Type 0
Finishes m s = (a : Answer) × Unifies m s.problem a

-- how many variables may occur
abbrev pub count : State → ℕ
count s = length s.listed

-- how many arguments they may have
abbrev pub room : State → ℕ
room s = room_of s.bound s.listed s.unbuilt

-- how large the equations are
abbrev pub mass : State → ℕ
mass s = sizes s.problem.equations

round : (m : ℕ) (s : State) → Round (Finishes m) count room mass s
round m s = go (step m s.problem) refl (step-moves m s.listed s.bound s.unbuilt s.problem s.good s.built)
  where
    go : (x : Step) → step m s.problem ≡ x → Moves (count s) (room s) (mass s) x → Round (Finishes m) count room mass s
    go (Ends a) e w = inl (a, record { steps = 1; ends = ap (after (run m 0)) e })
    go (Goes q) e w = inr (record { problem = q; listed = w.listed; bound = w.bound; unbuilt = w.unbuilt; good = w.good; built = w.built }, w.falls, λ r. (r.0, record { steps = suc r.1.steps; ends = ap (after (run m r.1.steps)) e ∙ r.1.ends }))

-- where a run begins
abbrev pub variables_in : List Equation → List ℕ
variables_in [] = []
variables_in (e ∷ es) = (variables_of e.left ++ variables_of e.right) ++ variables_in es

pub all-among : (vs ws : List ℕ) → ((v : ℕ) → Among vs v 0 → Among ws v 0) → (es : List Equation) → AllFit (Among vs) es → AllFit (Among ws) es
all-among vs ws k [] w = tt
all-among vs ws k (e ∷ es) w = ((fits-map (Among vs) (Among ws) (λ v j h. k v h) e.left 0 w.0.0, fits-map (Among vs) (Among ws) (λ v j h. k v h) e.right 0 w.0.1), all-among vs ws k es w.1)

pub all-listed : (es : List Equation) → AllFit (Among (variables_in es)) es
all-listed [] = tt
all-listed (e ∷ es) = (
  (
    fits-map (Among (variables_of e.left)) (Among (variables_in (e ∷ es))) (λ v j h. mem-append-left v (variables_of e.left ++ variables_of e.right) (variables_in es) (mem-append-left v (variables_of e.left) (variables_of e.right) h)) e.left 0 (fits-listed e.left 0),
    fits-map (Among (variables_of e.right)) (Among (variables_in (e ∷ es))) (λ v j h. mem-append-left v (variables_of e.left ++ variables_of e.right) (variables_in es) (mem-append-right v (variables_of e.left) (variables_of e.right) h)) e.right 0 (fits-listed e.right 0),
  ),
  all-among (variables_in es) (variables_in (e ∷ es)) (λ v h. mem-append-right v (variables_of e.left ++ variables_of e.right) (variables_in es) h) es (all-listed es),
)

-- where a run begins: all variables are listed, with the size of the equations as their bound
abbrev pub begun : Problem → State
begun p = record {
  problem = p;
  listed = variables_in p.equations;
  bound = λ v. sizes p.equations;
  unbuilt = 1;
  built = one_isnt p.equations;
  good = all-good (Here (variables_in p.equations) (λ v. sizes p.equations)) (bounded-downward (variables_in p.equations) (λ v. sizes p.equations)) p.equations (all-some-bound (variables_in p.equations) (sizes p.equations) p.equations (omega arith) (all-listed p.equations));
}

pub unification-ends : (m : ℕ) (p : Problem) → (a : Answer) × Unifies m p a
unification-ends m p = ends (Finishes m) count room mass (round m) (begun p)
