-- A turn of the search for a term's head.
use Rattle.std.specs.Prelude.{◌≡◌, ℕ, suc, ◌<◌, ◌≤◌, true, false, List, [], ◌∷◌, length, min}
use Rattle.level_terms.specs.declared.node.TermId.{TermId}
use Rattle.level_terms.specs.Graph.{Graph}
use Rattle.level_terms.specs.Growth.{Grows}
use Rattle.level_terms.specs.Reached.{tree, tree_size}
use Rattle.level_terms.specs.Reading.{read}
use Rattle.level_terms.specs.Sound.{IsSound}
use Rattle.level_terms.specs.Valid.{IsValid}
use Rattle.ref_terms.specs.terms.Term.{Term}
use Rattle.ref_terms.specs.terms.Apply.{fill}
use Rattle.ref_terms.specs.terms.Ready.{ready}
use Rattle.beta_fragment.specs.Names.{names}
use Rattle.beta_fragment.specs.Moves.{IsMove, put_name}
use Rattle.beta_fragment.specs.HeadForm.{IsHeadForm}
use Rattle.beta_fragment.specs.Firm.{IsSpine}
use Rattle.beta_fragment.specs.declared.glance.Readiness.{Readiness}
use Rattle.beta_fragment.specs.declared.glance.Readiness.TheVariants.{Level, Ready, Unready, Unknown}
use Rattle.beta_fragment.specs.declared.head.Turn.{Turn}
use Rattle.beta_fragment.specs.declared.head.Turn.TheVariants.{Goes, Takes, Ends}

-- the term has another node at its head, with less below it
pub record GoesOn (depth : ℕ) (old new : Graph) (head next : ℕ) (levels levels' : List ℕ) (fixed : ℕ) (args args' : List TermId) : Type 0 where
  pub spine : (u : Term) → IsSpine old depth u head levels args → IsSpine new depth u next levels' args'
  pub moves : IsMove levels' fixed depth
  pub valid : IsValid new next (length levels')
  pub less : (g : Graph) → IsSound g → Grows g old [] [] → head < length g.nodes → (next < length g.nodes) × (tree_size (tree g next) < tree_size (tree g head))

-- an abstraction takes a ready argument, for which the name of the depth stands from now on
pub record TakesOn (depth : ℕ) (old new : Graph) (head next arg : ℕ) (levels levels' : List ℕ) (fixed : ℕ) (args args' : List TermId) : Type 0 where
  pub spine : (u : Term) → IsSpine old depth u head levels args → (x : Term) × IsSpine new (suc depth) x next levels' args' × (u ≡ fill (put_name depth (read new arg names)) x)
  pub moves : IsMove levels' fixed (suc depth)
  pub valid : IsValid new next (length levels')
  pub argument : IsValid new arg depth
  pub is_ready : ready (read new arg names) ≡ true
  pub less : (g : Graph) → IsSound g → Grows g old [] [] → head < length g.nodes → (next < length g.nodes) × (tree_size (tree g next) < tree_size (tree g head))

-- so, or the form is found
abbrev pub IsTurn : (depth : ℕ) (old new : Graph) (head : ℕ) (levels levels' : List ℕ) (fixed : ℕ) (args args' : List TermId) → Turn → Type 0
IsTurn depth old new head levels levels' fixed args args' (Goes next) = GoesOn depth old new head next.index levels levels' fixed args args'
IsTurn depth old new head levels levels' fixed args args' (Takes next arg) = TakesOn depth old new head next.index arg.index levels levels' fixed args args'
IsTurn depth old new head levels levels' fixed args args' (Ends w) = (u : Term) → IsSpine old depth u head levels args → IsHeadForm new depth u w

-- how many of so many levels stay, where an abstraction that was made at a depth takes a name: those below its own level
-- that stayed, and where the name is its own level's and all those stayed, this one too
pub data StaysAfter (fixed made name count result : ℕ) : Type 0 where
  lower : result ≡ min fixed made → StaysAfter fixed made name count result
  own_too : name ≡ made → made ≤ fixed → result ≡ count → StaysAfter fixed made name count result

-- the first argument, if there is one, doesn't become ready
abbrev pub NoneReady : Graph → List TermId → Type 0
NoneReady g [] = Unit {0}
NoneReady g (a ∷ more) = ready (read g a.index names) ≡ false

-- the first argument is ready
abbrev pub FirstReady : Graph → List TermId → Type 0
FirstReady g [] = ⊥
FirstReady g (a ∷ more) = ready (read g a.index names) ≡ true

-- the node is the first argument
abbrev pub IsFirstArg : TermId → List TermId → Type 0
IsFirstArg a [] = ⊥
IsFirstArg a (b ∷ more) = a ≡ b

-- what is known of the first argument
abbrev pub IsFirst : Graph → (depth : ℕ) → List TermId → Readiness → Type 0
IsFirst g depth args Unready = NoneReady g args
IsFirst g depth args Unknown = Unit {0}
IsFirst g depth [] (Ready r) = ⊥
IsFirst g depth (a ∷ more) (Ready r) = (read g a.index names ≡ read g r.index names) × IsValid g r.index depth × (ready (read g a.index names) ≡ true)
IsFirst g depth [] (Level k) = ⊥
IsFirst g depth (a ∷ more) (Level k) = (read g a.index names ≡ names k) × (k < depth)
