-- What skeletons mean as terms.
use Rattle.std.specs.Prelude.{◌≡◌, ℕ, ◌++◌, true, List, [], ◌∷◌, map, length, reverse}
use Rattle.ref_terms.specs.terms.Term.{Term, Head}
use Rattle.ref_terms.specs.terms.Apply.{fill}
use Rattle.level_terms.specs.declared.node.Node.{Node}
use Rattle.level_terms.specs.declared.node.TermId.{TermId}
use Rattle.level_terms.specs.Graph.{Graph}
use Rattle.level_terms.specs.Laws.{ArePlaces}
use Rattle.level_terms.specs.Sound.{AllMade}
use Rattle.level_terms.specs.Values.{Value}
use Rattle.clause_compile.specs.inside.Skeleton.{part_value, made_value, shared_value, AllParts, AllSteps}
use Rattle.clause_compile.specs.Instances.{all_read, AllValidAt, Replaces}
use Rattle.clause_compile.specs.declared.skeleton.Part.{Part}
use Rattle.clause_compile.specs.declared.skeleton.Step.{Step}
use Rattle.clause_compile.specs.declared.skeleton.Skeleton.{Skeleton}

-- a skeleton names so many variables, nodes that are there, and its own steps
pub record IsSkeleton (variables : ℕ) (nodes : List Node) (k : Skeleton) : Type 0 where
  pub steps : AllSteps variables nodes (reverse k.steps)
  pub roots : AllParts variables nodes (length k.steps) k.roots

-- what a part means, over nodes that are shared
abbrev pub root_value : List Node → List Step → Part → Value
root_value nodes steps p = part_value (shared_value nodes) (made_value (shared_value nodes) (reverse steps)) p

-- the part is this term, in which clause variables stand for themselves
pub record Means (nodes : List Node) (steps : List Step) (p : Part) (t : Term) : Type 0 where
  pub term : (env : ℕ → Term) → ArePlaces env → (root_value nodes steps p).term env ≡ t
  pub holds : (root_value nodes steps p).holds 0 ≡ true

-- so of each part
abbrev pub AllMean : List Node → List Step → List Part → List Term → Type 0
AllMean nodes steps [] [] = Unit {0}
AllMean nodes steps (p ∷ ps) (t ∷ ts) = Means nodes steps p t × AllMean nodes steps ps ts
AllMean nodes steps _ _ = ⊥

-- the terms of a skeleton
abbrev pub IsSkeletonOf : List Node → Skeleton → List Term → Type 0
IsSkeletonOf nodes k ts = AllMean nodes k.steps k.roots ts

-- a skeleton of terms over so many variables
pub record IsCompiled (variables : ℕ) (nodes : List Node) (k : Skeleton) (ts : List Term) : Type 0 where
  pub made : IsSkeleton variables nodes k
  pub terms : IsSkeletonOf nodes k ts

-- the oldest nodes of a heap, so many, have no variables
pub record AreShared (n : ℕ) (g : Graph) (nodes : List Node) : Type 0 where
  pub new : List Node
  pub is : g.nodes ≡ new ++ nodes
  pub count : length nodes ≡ n
  pub closed : AllMade 0 nodes

-- The nodes are those of the skeleton's terms at a depth, over these nodes of variables: each of them reads as its term over what the variables read as.
pub record AreTermsOf (g h : Graph) (depth : ℕ) (variables : List TermId) (k : Skeleton) (ts : List TermId) : Type 0 where
  pub count : length ts ≡ length k.roots
  pub read : (n : ℕ) (nodes : List Node) → AreShared n g nodes → (terms : List Term) → IsCompiled (length variables) nodes k terms →
      (r : Head → Term) → Replaces g variables r → all_read h ts ≡ map (fill r) terms
  pub valid : (n : ℕ) (nodes : List Node) → AreShared n g nodes → (terms : List Term) → IsCompiled (length variables) nodes k terms → AllValidAt h ts depth
