-- What is certain of a term at a glance.
use Rattle.std.specs.Prelude.{◌≡◌, ℕ, ◌<◌, ◌⊎◌, true, false, List, [], ◌∷◌, length, map, Option, Some, None, reverse}
use Rattle.level_terms.specs.declared.node.TermId.{TermId}
use Rattle.level_terms.specs.Graph.{Graph}
use Rattle.level_terms.specs.Laws.{ArePlaces}
use Rattle.level_terms.specs.Sound.{AllOlder}
use Rattle.level_terms.specs.Reading.{read, enter}
use Rattle.level_terms.specs.Valid.{IsValid}
use Rattle.ref_terms.specs.terms.Term as term
use Rattle.ref_terms.specs.terms.Term.{Term, Head}
use Rattle.ref_terms.specs.terms.Eta.{eta, partial}
use Rattle.ref_terms.specs.terms.Ready.{ready}
use Rattle.ref_terms.specs.unification.Spine.{apply_all, head_of}
use Rattle.beta_fragment.specs.Names.{names, renamed}
use Rattle.beta_fragment.specs.HeadForm.{all_read, AllValidAt, IsAbstraction}
use Rattle.beta_fragment.specs.declared.glance.Readiness.{Readiness}
use Rattle.beta_fragment.specs.declared.glance.Readiness.TheVariants.{Level, Ready, Unready, Unknown}

-- no abstraction
abbrev pub IsPlain : Term → Type 0
IsPlain (term.Lam b) = ⊥
IsPlain _ = Unit {0}

-- a head that neither reduction nor contraction takes away
abbrev pub IsFirmHead : Option Head → Type 0
IsFirmHead (Some (term.Con c)) = Unit {0}
IsFirmHead (Some (term.Int n)) = Unit {0}
IsFirmHead (Some (term.Str s)) = Unit {0}
IsFirmHead (Some (term.Var v)) = Unit {0}
IsFirmHead _ = ⊥

-- such a head stands below the abstractions at the front
abbrev pub IsFirm : Term → Type 0
IsFirm (term.Lam b) = IsFirm b
IsFirm (term.At h) = IsFirmHead (Some h)
IsFirm (term.App f a) = IsFirmHead (head_of f)

-- wherever the levels stand for places
abbrev pub IsFirmNode : Graph → ℕ → Type 0
IsFirmNode g t = (env : ℕ → Term) → ArePlaces env → IsFirm (read g t env)

abbrev pub IsPlainNode : Graph → ℕ → Type 0
IsPlainNode g t = (env : ℕ → Term) → ArePlaces env → IsPlain (read g t env)

abbrev pub IsReadyNode : Graph → ℕ → Type 0
IsReadyNode g t = (env : ℕ → Term) → ArePlaces env → ready (read g t env) ≡ true

-- no abstraction, and not ready
abbrev pub IsOpenNode : Graph → ℕ → Type 0
IsOpenNode g t = (env : ℕ → Term) → ArePlaces env → IsPlain (read g t env) × (ready (read g t env) ≡ false)

abbrev pub IsAbstractionNode : Graph → ℕ → Type 0
IsAbstractionNode g t = (env : ℕ → Term) → ArePlaces env → IsAbstraction (read g t env)

-- the body of an abstraction doesn't end in the abstracted name, so that the abstraction isn't contracted
abbrev pub EndsOtherwise : Graph → (depth t : ℕ) → Type 0
EndsOtherwise g depth t = (env : ℕ → Term) → ArePlaces env → eta (read g t (enter depth env)) ≡ None

-- a node isn't the abstracted name
abbrev pub IsOther : Graph → (depth t : ℕ) → Type 0
IsOther g depth t = (env : ℕ → Term) → ArePlaces env → read g t (enter depth env) ≡ term.At (term.Bound 0) → ⊥

-- what a look at an argument that is valid at a depth says
abbrev pub IsReadiness : Graph → (depth : ℕ) → Term → Readiness → Type 0
IsReadiness g depth u (Level k) = (u ≡ names k) × (k < depth)
IsReadiness g depth u (Ready r) = (u ≡ read g r.index names) × IsValid g r.index depth × (ready u ≡ true)
IsReadiness g depth u Unready = ready u ≡ false
IsReadiness g depth u Unknown = Unit {0}

-- the term is the node at the head, with its levels renamed, applied to the arguments, of which the first is the last in the list
pub record IsSpine (g : Graph) (depth : ℕ) (u : Term) (head : ℕ) (levels : List ℕ) (args : List TermId) : Type 0 where
  pub reads : u ≡ apply_all (read g head (renamed levels)) (all_read g (reverse args))
  pub valid : AllValidAt g (reverse args) depth

-- one of the terms has no image
abbrev pub NoneAmong : (ℕ → Option ℕ) → List Term → Type 0
NoneAmong p [] = ⊥
NoneAmong p (x ∷ xs) = (partial p x ≡ None) ⊎ NoneAmong p xs

-- the level stands in the node: whatever has no image of its term has none of the node's
abbrev pub HasLevel : Graph → (level t : ℕ) → Type 0
HasLevel g level t = (env : ℕ → Term) (p : ℕ → Option ℕ) → ArePlaces env → partial p (env level) ≡ None → partial p (read g t env) ≡ None

-- so in one of some nodes
abbrev pub SomeHas : Graph → (level : ℕ) → List TermId → Type 0
SomeHas g level ts = (env : ℕ → Term) (p : ℕ → Option ℕ) → ArePlaces env → partial p (env level) ≡ None → NoneAmong p (map (λ t. read g t.index env) ts)

-- each term is there
abbrev pub AllThere : Graph → List TermId → Type 0
AllThere g ts = AllOlder (length g.nodes) ts
