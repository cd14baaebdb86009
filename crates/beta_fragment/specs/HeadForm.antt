-- What is seen of a term: an abstraction, or what stands at its head.
use Rattle.std.specs.Prelude.{◌≡◌, ℕ, ◌<◌, false, List, [], ◌∷◌, map, length, None}
use Rattle.level_terms.specs.declared.node.TermId.{TermId}
use Rattle.level_terms.specs.Graph.{Graph, node_at, value_in}
use Rattle.level_terms.specs.Reading.{read}
use Rattle.level_terms.specs.Valid.{IsValid}
use Rattle.ref_terms.specs.terms.Term as term
use Rattle.ref_terms.specs.terms.Term.{Term}
use Rattle.ref_terms.specs.terms.Ready.{ready}
use Rattle.ref_terms.specs.unification.Spine.{apply_all}
use Rattle.beta_fragment.specs.declared.answer.RigidHead.{RigidHead}
use Rattle.beta_fragment.specs.declared.answer.RigidHead.TheVariants.{Con, Int, Str, Level}
use Rattle.beta_fragment.specs.declared.answer.Whnf.{Whnf}
use Rattle.beta_fragment.specs.declared.answer.Whnf.TheVariants.{Lam, Rigid, Flex, Redex}
use Rattle.beta_fragment.specs.Names.{names}
use Rattle.beta_fragment.specs.Body.{IsLam}

-- the head that a rigid head is
abbrev pub rigid_head : RigidHead → term.Head
rigid_head (Con c) = term.Con c.0
rigid_head (Int n) = term.Int n
rigid_head (Str s) = term.Str s.0
rigid_head (Level l) = term.Name l

-- what nodes read as
abbrev pub all_read : Graph → List TermId → List Term
all_read g ts = map (λ t. read g t.index names) ts

-- nodes are valid at a depth
abbrev pub AllValidAt : Graph → List TermId → ℕ → Type 0
AllValidAt g [] depth = Unit {0}
AllValidAt g (t ∷ ts) depth = IsValid g t.index depth × AllValidAt g ts depth

-- an abstraction
abbrev pub IsAbstraction : Term → Type 0
IsAbstraction (term.Lam b) = Unit {0}
IsAbstraction _ = ⊥

-- the node of an abstraction, which reads as one
pub record ReadsAsLam (g : Graph) (t depth : ℕ) : Type 0 where
  pub node : IsLam (node_at g.nodes t)
  pub valid : IsValid g t depth
  pub reads : IsAbstraction (read g t names)

-- the first argument doesn't become ready
abbrev pub FirstUnready : Graph → List TermId → Type 0
FirstUnready g [] = ⊥
FirstUnready g (a ∷ more) = ready (read g a.index names) ≡ false

-- the form shows what a term is: its parts read as the term, and its head is the term's
abbrev pub IsHeadForm : Graph → (depth : ℕ) → Term → Whnf → Type 0
IsHeadForm g depth u (Lam t) = ReadsAsLam g t.index depth × (u ≡ read g t.index names)
IsHeadForm g depth u (Rigid h args) = AllValidAt g args depth × (u ≡ apply_all (term.At (rigid_head h)) (all_read g args))
IsHeadForm g depth u (Flex v args) = (v.index < length g.depths) × (value_in g.assigned v.index ≡ None) × AllValidAt g args depth × (u ≡ apply_all (term.At (term.Var v.index)) (all_read g args))
IsHeadForm g depth u (Redex t args) = ReadsAsLam g t.index depth × FirstUnready g args × AllValidAt g args depth × (u ≡ apply_all (read g t.index names) (all_read g args))

-- where a form's head is the name of a level, the level lies below the depth
abbrev pub HasLowHead : (depth : ℕ) → Whnf → Type 0
HasLowHead depth (Rigid (Level l) args) = l < depth
HasLowHead depth w = Unit {0}
