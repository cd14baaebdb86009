-- Nodes that are made at a depth, over variables.
use Rattle.std.specs.Prelude.{◌≡◌, ℕ, ◌+◌, ◌<◌, ◌≤◌, true, List, [], map, length, get_or, reverse}
use Rattle.ref_terms.specs.terms.Term.{Term, Head, Var}
use Rattle.ref_terms.specs.terms.Index.{shift}
use Rattle.ref_terms.specs.terms.Apply.{fill}
use Rattle.ref_terms.specs.laws.TermLaws.{AllBuilt, KeepsReady}
use Rattle.level_terms.specs.declared.node.Node.{Node}
use Rattle.level_terms.specs.declared.node.TermId.{TermId}
use Rattle.level_terms.specs.Graph.{Graph}
use Rattle.level_terms.specs.Laws.{ArePlaces}
use Rattle.level_terms.specs.Reading.{read, enter}
use Rattle.level_terms.specs.Valid.{valid, IsValid}
use Rattle.level_terms.specs.Values.{Value, value_of, IsLevelOf, IsLamOf, IsAppOf}
use Rattle.clause_compile.specs.inside.Skeleton.{made_value, AllSteps}
use Rattle.clause_compile.specs.Instances.{FixesAtoms}
use Rattle.clause_compile.specs.declared.skeleton.Part.{Part}
use Rattle.clause_compile.specs.declared.skeleton.Step.{Step}
use Rattle.clause_compile.specs.declared.skeleton.Step.TheVariants.{Level, Lam, App}

-- what a step makes at a depth, where each part stands for something
abbrev pub IsStepMade : (depth : ℕ) → (Part → Value) → Step → Value → Type 0
IsStepMade depth f (Level l) x = IsLevelOf (depth + l) x
IsStepMade depth f (Lam l b) x = IsLamOf (depth + l) (f b) x
IsStepMade depth f (App h ts) x = IsAppOf (f h) (map f ts) x

-- what the variables read as
abbrev pub variables_read : Graph → List TermId → ℕ → (ℕ → Term) → Term
variables_read g variables v env = read g (get_or variables v (record { index = 0 })).index env

-- The levels from the depth on stand for what the skeleton's own levels stand for, once heads are replaced; a variable
-- is replaced by what it reads as.
pub record Fits (depth count : ℕ) (u : ℕ → (ℕ → Term) → Term) (env inner : ℕ → Term) (r : Head → Term) : Type 0 where
  pub places : ArePlaces env
  pub levels : (l : ℕ) → env (depth + l) ≡ fill r (inner l)
  pub variables : (v : ℕ) → v < count → r (Var v) ≡ u v env
  pub built : AllBuilt r
  pub keeps : KeepsReady r
  pub fixes : FixesAtoms r

-- a node that was made at a depth means what its part of the skeleton means, once heads are replaced, and is as deep
pub record Stands (depth count : ℕ) (u : ℕ → (ℕ → Term) → Term) (x m : Value) : Type 0 where
  pub term : (env inner : ℕ → Term) (r : Head → Term) → Fits depth count u env inner r → x.term env ≡ fill r (m.term inner)
  pub holds : (e : ℕ) → m.holds e ≡ true → x.holds (depth + e) ≡ true

-- variables that are made at a depth know no deeper level
abbrev pub Shifts : (depth count : ℕ) → (ℕ → (ℕ → Term) → Term) → Type 0
Shifts depth count u = (v : ℕ) → v < count → (env : ℕ → Term) (d : ℕ) → ArePlaces env → depth ≤ d → u v (enter d env) ≡ shift (u v env)

-- a heap in which a skeleton can be made at a depth: the variables' nodes are valid there, and what is shared is there
pub record IsSetting (g : Graph) (depth : ℕ) (variables : List TermId) (nodes : List Node) (meaning : ℕ → Value) : Type 0 where
  pub shared : (t : TermId) → valid nodes [] t.index 0 ≡ true → Stands depth (length variables) (variables_read g variables) (value_of g t) (meaning t.index)
  pub there : length nodes ≤ length g.nodes
  pub shifts : Shifts depth (length variables) (variables_read g variables)
  pub deep : (v : ℕ) → v < length variables → IsValid g (get_or variables v (record { index = 0 })).index depth

-- so many steps have been made
abbrev pub AreMade : (before now : Graph) → (depth : ℕ) → (variables : List TermId) → List Step → (count : ℕ) → (made : List TermId) → Type 0
AreMade g h depth variables steps count made = (nodes : List Node) (meaning : ℕ → Value) → IsSetting g depth variables nodes meaning → AllSteps (length variables) nodes (reverse steps) →
    (i : ℕ) → i < count → Stands depth (length variables) (variables_read g variables) (value_of h (get_or made i (record { index = 0 }))) (made_value meaning (reverse steps) i)
