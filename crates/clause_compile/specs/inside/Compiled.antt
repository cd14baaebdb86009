-- What a tree is compiled to.
use Rattle.std.specs.Prelude.{◌≡◌, ℕ, ◌-◌, true, cond, nat_lt, List, [], ◌∷◌, ◌++◌, length, reverse, All}
use Rattle.ref_terms.specs.terms.Term.{Term, At, Name}
use Rattle.ref_terms.specs.terms.Index.{sub}
use Rattle.ref_terms.specs.declared.tree.Tree.{Tree}
use Rattle.level_terms.specs.declared.node.Node.{Node}
use Rattle.level_terms.specs.Graph.{Graph}
use Rattle.level_terms.specs.Laws.{ArePlaces}
use Rattle.clause_compile.specs.inside.Skeleton.{IsPart, AllSteps}
use Rattle.clause_compile.specs.inside.Meaning.{root_value}
use Rattle.lp_resolve.specs.Trees.{IsWithin, as_term}
use Rattle.clause_compile.specs.declared.skeleton.Part.{Part}
use Rattle.clause_compile.specs.declared.skeleton.Step.{Step}

-- what the indices stand for under so many abstractions: the names that these bind; there are no others
abbrev pub bound_at : ℕ → (ℕ → Term) → ℕ → Term
bound_at depth env i = cond (nat_lt i depth) (env (depth - 1 - i)) (At (Name 0))

-- the part is this term, under so many abstractions
pub record IsPartOf (variables : ℕ) (nodes : List Node) (steps : List Step) (depth : ℕ) (p : Part) (t : Term) : Type 0 where
  pub there : IsPart variables nodes (length steps) p
  pub term : (env : ℕ → Term) → ArePlaces env → (root_value nodes steps p).term env ≡ sub (bound_at depth env) t
  pub holds : (root_value nodes steps p).holds depth ≡ true

-- so of each part
abbrev pub ArePartsOf : (variables : ℕ) → List Node → List Step → ℕ → List Part → List Term → Type 0
ArePartsOf variables nodes steps depth [] [] = Unit {0}
ArePartsOf variables nodes steps depth (p ∷ ps) (t ∷ ts) = IsPartOf variables nodes steps depth p t × ArePartsOf variables nodes steps depth ps ts
ArePartsOf variables nodes steps depth _ _ = ⊥

-- steps were put last
pub record Extends (old new : List Step) : Type 0 where
  pub more : List Step
  pub is : new ≡ old ++ more

-- a heap without variables, and steps over its nodes
pub record IsDraft (variables : ℕ) (g : Graph) (steps : List Step) : Type 0 where
  pub closed : g.depths ≡ []
  pub made : AllSteps variables g.nodes (reverse steps)

-- each tree is over so many variables, under so many abstractions
abbrev pub AllWithin : (variables depth : ℕ) → List Tree → Type 0
AllWithin variables depth trees = All (λ t. IsWithin variables depth (as_term t)) trees
