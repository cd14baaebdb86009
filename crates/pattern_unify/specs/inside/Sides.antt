-- What the rules look at in a side.
use Rattle.std.specs.Prelude.{ℕ, ◌≤◌, List, cond, nat_lt}
use Rattle.level_terms.specs.Graph.{Graph}
use Rattle.ref_terms.specs.terms.Term as term
use Rattle.ref_terms.specs.unification.Shape as shape
use Rattle.ref_terms.specs.unification.Shape.{Shape}
use Rattle.level_terms.specs.declared.node.TermId.{TermId}
use Rattle.level_terms.specs.declared.node.VarId.{VarId}
use Rattle.beta_fragment.specs.declared.answer.Whnf.TheVariants as form
use Rattle.beta_fragment.specs.declared.answer.Whnf.{Whnf}
use Rattle.beta_fragment.specs.HeadForm.{all_read, AllValidAt, rigid_head}
use Rattle.pattern_unify.specs.Bound.{IsOpen}
use Rattle.pattern_unify.specs.declared.side.Head.{Head}
use Rattle.pattern_unify.specs.declared.side.Head.TheVariants.{Fixed, Frozen}
use Rattle.pattern_unify.specs.declared.side.Side.{Side}
use Rattle.pattern_unify.specs.declared.side.Side.TheVariants.{Abstraction, Redex, Rigid, Flexible}

-- the head
abbrev pub head_at : Head → term.Head
head_at (Fixed h) = rigid_head h
head_at (Frozen v) = term.Var v.index

-- the shape
abbrev pub shape_at : Graph → Side → Shape
shape_at g Abstraction = shape.Abstraction
shape_at g Redex = shape.Redex
shape_at g (Rigid h args) = shape.Rigid (head_at h) (all_read g args)
shape_at g (Flexible v args) = shape.Flex v.index (all_read g args)

-- the arguments are valid, and an assignable variable, which isn't below the mark, has no value
abbrev pub IsSideAt : Graph → (mark depth : ℕ) → Side → Type 0
IsSideAt g mark depth Abstraction = Unit {0}
IsSideAt g mark depth Redex = Unit {0}
IsSideAt g mark depth (Rigid h args) = AllValidAt g args depth
IsSideAt g mark depth (Flexible v args) = IsOpen g v.index × (mark ≤ v.index) × AllValidAt g args depth

-- what is seen of a variable without a value
abbrev pub variable_by : (mark : ℕ) → VarId → List TermId → Side
variable_by mark v args = cond (nat_lt v.index mark) (Rigid (Frozen v) args) (Flexible v args)

-- what is seen of a term, by its form
abbrev pub side_by : (mark : ℕ) → Whnf → Side
side_by mark (form.Lam t) = Abstraction
side_by mark (form.Redex t args) = Redex
side_by mark (form.Rigid h args) = Rigid (Fixed h) args
side_by mark (form.Flex v args) = variable_by mark v args

-- the head is rigid
abbrev pub IsRigid : Side → Type 0
IsRigid (Rigid h args) = Unit {0}
IsRigid _ = ⊥
