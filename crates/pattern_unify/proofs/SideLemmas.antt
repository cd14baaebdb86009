-- What the rules see of a term, by its form.
use Rattle.std.proofs.Common.{◌≡◌, ℕ, ◌++◌, List, [], ◌∷◌, Bool, true, false, cond, nat_lt, Some, refl, sym, ap, ◌∙◌, append_assoc, append-nil}
use Rattle.level_terms.specs.declared.node.TermId.{TermId}
use Rattle.level_terms.specs.declared.node.VarId.{VarId}
use Rattle.level_terms.specs.Graph.{Graph}
use Rattle.level_terms.specs.Reading.{read}
use Rattle.ref_terms.specs.terms.Term as term
use Rattle.ref_terms.specs.terms.Term.{Term, Head, At}
use Rattle.ref_terms.specs.terms.Index.{sub, first}
use Rattle.ref_terms.specs.terms.Ready.{ready}
use Rattle.ref_terms.specs.unification.Shape as shape
use Rattle.ref_terms.specs.unification.Shape.{Shape, shape, headed}
use Rattle.ref_terms.specs.unification.Spine.{apply_all, args_of, head_of}
use Rattle.beta_fragment.specs.declared.answer.RigidHead.{RigidHead}
use Rattle.beta_fragment.specs.declared.answer.RigidHead.TheVariants.{Con, Int, Str, Level}
use Rattle.beta_fragment.specs.declared.answer.Whnf.{Whnf}
use Rattle.beta_fragment.specs.declared.answer.Whnf.TheVariants.{Lam, Rigid, Flex, Redex}
use Rattle.beta_fragment.specs.Names.{names}
use Rattle.beta_fragment.specs.HeadForm.{IsHeadForm, IsAbstraction, all_read, rigid_head}
use Rattle.beta_fragment.proofs.MoveLemmas.{above_from}
use Rattle.pattern_unify.specs.inside.Sides.{shape_at, side_by, variable_by, IsSideAt}

-- an application before more arguments
app-shape : (m : ℕ) (xs : List Term) (f a : Term) → shape m (apply_all (term.App f a) xs) ≡ headed m (head_of f) ((args_of f ++ a ∷ []) ++ xs)
app-shape m [] f a = ap (headed m (head_of f)) (sym (append-nil (args_of f ++ a ∷ [])))
app-shape m (x ∷ xs) f a = app-shape m xs (term.App f a) x ∙ ap (headed m (head_of f)) (append_assoc (args_of f ++ a ∷ []) (x ∷ []) xs)

-- a head before its arguments
pub head-shape : (m : ℕ) (h : Head) (xs : List Term) → shape m (apply_all (At h) xs) ≡ headed m (Some h) xs
head-shape m h [] = refl
head-shape m h (x ∷ xs) = app-shape m xs (At h) x

-- an abstraction
lam-shape : (m : ℕ) (u : Term) → IsAbstraction u → shape m u ≡ shape.Abstraction
lam-shape m (term.Lam b) w = refl
lam-shape m (At h) w = absurd w
lam-shape m (term.App f a) w = absurd w

-- an abstraction before an argument that isn't ready
redex-shape : (m : ℕ) (u x : Term) (xs : List Term) → IsAbstraction u → ready x ≡ false → shape m (apply_all u (x ∷ xs)) ≡ shape.Redex
redex-shape m (term.Lam b) x xs w r =
    ap (λ (r : Bool). shape m (apply_all (cond r (sub (first x) b) (term.App (term.Lam b) x)) xs)) r ∙ app-shape m xs (term.Lam b) x
redex-shape m (At h) x xs w r = absurd w
redex-shape m (term.App f a) x xs w r = absurd w

-- a rigid head is no variable
rigid-shape : (m : ℕ) (h : RigidHead) (xs : List Term) → headed m (Some (rigid_head h)) xs ≡ shape.Rigid (rigid_head h) xs
rigid-shape m (Con c) xs = refl
rigid-shape m (Int n) xs = refl
rigid-shape m (Str s) xs = refl
rigid-shape m (Level l) xs = refl

-- a variable is frozen where it lies below the mark
variable-shape : (g : Graph) (m : ℕ) (v : VarId) (args : List TermId) → headed m (Some (term.Var v.index)) (all_read g args) ≡ shape_at g (variable_by m v args)
variable-shape g m v args = go (nat_lt v.index m) refl
  where
    go : (b : Bool) → nat_lt v.index m ≡ b → headed m (Some (term.Var v.index)) (all_read g args) ≡ shape_at g (variable_by m v args)
    go true e = rw e refl
    go false e = rw e refl

-- the shape of a term, by its form
pub form-shape : (g : Graph) (m depth : ℕ) (u : Term) (w : Whnf) → IsHeadForm g depth u w → shape m u ≡ shape_at g (side_by m w)
form-shape g m depth u (Lam t) f = ap (shape m) f.1 ∙ lam-shape m (read g t.index names) f.0.reads
form-shape g m depth u (Rigid h ts) f = ap (shape m) f.1 ∙ head-shape m (rigid_head h) (all_read g ts) ∙ rigid-shape m h (all_read g ts)
form-shape g m depth u (Flex v ts) f = ap (shape m) f.3 ∙ head-shape m (term.Var v.index) (all_read g ts) ∙ variable-shape g m v ts
form-shape g m depth u (Redex t []) f = absurd f.1
form-shape g m depth u (Redex t (a ∷ ts)) f = ap (shape m) f.3 ∙ redex-shape m (read g t.index names) (read g a.index names) (all_read g ts) f.0.reads f.1

-- what a side holds
pub form-side : (g : Graph) (m depth : ℕ) (u : Term) (w : Whnf) → IsHeadForm g depth u w → IsSideAt g m depth (side_by m w)
form-side g m depth u (Lam t) f = tt
form-side g m depth u (Redex t ts) f = tt
form-side g m depth u (Rigid h ts) f = f.0
form-side g m depth u (Flex v ts) f = go (nat_lt v.index m) refl
  where
    go : (b : Bool) → nat_lt v.index m ≡ b → IsSideAt g m depth (variable_by m v ts)
    go true e = rw e f.2
    go false e = rw e (record { there = f.0; free = f.1 }, above_from v.index m e, f.2)
