-- Which types terms have, where the types of constants, variables and binders are those at nodes.
use Rattle.std.specs.Prelude.{◌≡◌, ℕ, ◌<◌, List, [], ◌∷◌, length, map, reverse, All, Option, None, slice_index_or}
use Rattle.ref_terms.specs.terms.Term as term
use Rattle.ref_terms.specs.terms.Term.{Term}
use Rattle.ref_terms.specs.declared.tree.Tree.{Tree}
use Rattle.ref_terms.specs.declared.tree.Head.{Head}
use Rattle.type_graph.specs.declared.node.Node.{Node}
use Rattle.type_graph.specs.Types.{Ty}
use Rattle.type_terms.specs.declared.scheme.Polytype.{Polytype}
use Rattle.type_terms.specs.declared.scope.Scope as code
use Rattle.lp_resolve.specs.Trees.{as_term, head_term, with_arguments}
use Rattle.type_terms.specs.Typing.{arrow, Types, HasConstant, HasType}

-- these are nodes of the graph
abbrev pub AreNodes : List Node → List ℕ → Type 0
AreNodes ns ks = All (λ k. k < length ns) ks

-- the declared types of the constants, by their numbers; past the last one none is declared
abbrev pub declared_of : List (Option Polytype) → ℕ → Option Polytype
declared_of types c = slice_index_or types c None

-- the nodes of what a term's type depends on
pub record Scope : Type 0 where
  pub declared : ℕ → Option Polytype
  pub constants : List ℕ
  pub variables : List ℕ
  pub binders : List ℕ

-- the types that they have
abbrev pub types_of : Scope → (ℕ → Ty) → Types
types_of s v = record { constants = map v s.constants; variables = map v s.variables }

-- a term has a type where v gives the nodes their types
abbrev pub Has : Scope → Term → (ℕ → Ty) → Ty → Type 0
Has s u v t = HasType s.declared (types_of s v) (map v (reverse s.binders)) u t

-- a function of this type, applied to these trees, gives a type
abbrev pub Gives : Scope → (ℕ → Ty) → Ty → List Tree → Ty → Type 0
Gives s v f [] t = t ≡ f
Gives s v f (a ∷ rest) t = (b : Ty) × (c : Ty) × (f ≡ arrow b c) × Has s (as_term a) v b × Gives s v c rest t

-- a tree, a head
abbrev pub HasTree : Scope → Tree → (ℕ → Ty) → Ty → Type 0
HasTree s u = Has s (as_term u)

abbrev pub HasFront : Scope → Head → (ℕ → Ty) → Ty → Type 0
HasFront s h = Has s (head_term h)

-- the node's function, applied to these trees, gives a type
abbrev pub HasSpine : Scope → (function : ℕ) → List Tree → (ℕ → Ty) → Ty → Type 0
HasSpine s function args v t = Gives s v (v function) args t

-- what is known of the names of a term, under binders with these nodes, the innermost last
abbrev pub scope : (declared : ℕ → Option Polytype) (constants variables binders : List ℕ) → Scope
scope declared constants variables binders = record { declared = declared; constants = constants; variables = variables; binders = binders }

abbrev pub with_binders : code.Scope → (binders : List ℕ) → Scope
with_binders s binders = scope (declared_of s.declared.now) s.constants.now s.variables.now binders

-- the nodes of constants and variables are nodes of the graph
pub record AreKnown (ns : List Node) (s : code.Scope) : Type 0 where
  pub constants : AreNodes ns s.constants.now
  pub variables : AreNodes ns s.variables.now

-- an occurrence of a constant has a type
abbrev pub HasConstantAt : (declared : ℕ → Option Polytype) (constants : List ℕ) (constant : ℕ) → (ℕ → Ty) → Ty → Type 0
HasConstantAt declared constants c v t = HasConstant declared (declared c) (map v constants) c t

-- the constant, applied to these trees, has a type
abbrev pub HasApplied : Scope → (constant : ℕ) → List Tree → (ℕ → Ty) → Ty → Type 0
HasApplied s c args = Has s (with_arguments (term.At (term.Con c)) (map as_term args))
