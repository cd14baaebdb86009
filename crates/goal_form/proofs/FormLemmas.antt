-- The shape of a term, by its form.
use Rattle.std.proofs.Common.{◌≡◌, ℕ, ◌++◌, List, [], ◌∷◌, Bool, ◌<◌, true, false, cond, nat_lt, Some, refl, arith, sym, ap, ◌∙◌, append_assoc, append-nil}
use Rattle.std.proofs.lemmas.Bool.{ltb-true}
use Rattle.level_terms.specs.declared.node.TermId.{TermId}
use Rattle.level_terms.specs.Graph.{Graph}
use Rattle.level_terms.specs.Reading.{read}
use Rattle.ref_terms.specs.terms.Term as term
use Rattle.ref_terms.specs.terms.Term.{Term, Head, At}
use Rattle.ref_terms.specs.terms.Index.{sub, first}
use Rattle.ref_terms.specs.terms.Ready.{ready}
use Rattle.ref_terms.specs.unification.Shape as shape
use Rattle.ref_terms.specs.unification.Shape.{Shape, shape, headed}
use Rattle.ref_terms.specs.unification.Spine.{apply_all, args_of, head_of}
use Rattle.beta_fragment.specs.declared.answer.RigidHead.{RigidHead}
use Rattle.beta_fragment.specs.declared.answer.RigidHead.TheVariants.{Con, Int, Str, Level}
use Rattle.beta_fragment.specs.declared.answer.Whnf.{Whnf}
use Rattle.beta_fragment.specs.declared.answer.Whnf.TheVariants.{Lam, Rigid, Flex, Redex}
use Rattle.beta_fragment.specs.Names.{names}
use Rattle.beta_fragment.specs.HeadForm.{IsHeadForm, IsAbstraction, all_read, rigid_head}
use Rattle.ref_terms.specs.search.Formula.{shape_goal, goal_kind}
use Rattle.goal_form.specs.Forms.{form_shape}

-- an application before more arguments
app-shape : (xs : List Term) (f a : Term) → shape 0 (apply_all (term.App f a) xs) ≡ headed 0 (head_of f) ((args_of f ++ a ∷ []) ++ xs)
app-shape [] f a = ap (headed 0 (head_of f)) (sym (append-nil (args_of f ++ a ∷ [])))
app-shape (x ∷ xs) f a = app-shape xs (term.App f a) x ∙ ap (headed 0 (head_of f)) (append_assoc (args_of f ++ a ∷ []) (x ∷ []) xs)

-- a head before its arguments
pub head-shape : (h : Head) (xs : List Term) → shape 0 (apply_all (At h) xs) ≡ headed 0 (Some h) xs
head-shape h [] = refl
head-shape h (x ∷ xs) = app-shape xs (At h) x

-- an abstraction
lam-shape : (u : Term) → IsAbstraction u → shape 0 u ≡ shape.Abstraction
lam-shape (term.Lam b) w = refl
lam-shape (At h) w = absurd w
lam-shape (term.App f a) w = absurd w

-- an abstraction before an argument that isn't ready
redex-shape : (u x : Term) (xs : List Term) → IsAbstraction u → ready x ≡ false → shape 0 (apply_all u (x ∷ xs)) ≡ shape.Redex
redex-shape (term.Lam b) x xs w r =
    ap (λ (r : Bool). shape 0 (apply_all (cond r (sub (first x) b) (term.App (term.Lam b) x)) xs)) r ∙ app-shape xs (term.Lam b) x
redex-shape (At h) x xs w r = absurd w
redex-shape (term.App f a) x xs w r = absurd w

-- a rigid head is no variable
pub rigid-shape : (h : RigidHead) (xs : List Term) → headed 0 (Some (rigid_head h)) xs ≡ shape.Rigid (rigid_head h) xs
rigid-shape (Con c) xs = refl
rigid-shape (Int n) xs = refl
rigid-shape (Str s) xs = refl
rigid-shape (Level l) xs = refl

-- no variable is frozen
flex-shape : (v : ℕ) (xs : List Term) → headed 0 (Some (term.Var v)) xs ≡ shape.Flex v xs
flex-shape v xs = go (nat_lt v 0) refl
  where
    go : (b : Bool) → nat_lt v 0 ≡ b → headed 0 (Some (term.Var v)) xs ≡ shape.Flex v xs
    go true e = absurd (let k : v < 0 = ltb-true v 0 e in omega (arith, k))
    go false e = rw e refl

-- the shape of a term, by its form
pub form-shape : (g : Graph) (depth : ℕ) (u : Term) (w : Whnf) → IsHeadForm g depth u w → shape 0 u ≡ form_shape g w
form-shape g depth u (Lam t) f = ap (shape 0) f.1 ∙ lam-shape (read g t.index names) f.0.reads
form-shape g depth u (Rigid h ts) f = ap (shape 0) f.1 ∙ head-shape (rigid_head h) (all_read g ts) ∙ rigid-shape h (all_read g ts)
form-shape g depth u (Flex v ts) f = ap (shape 0) f.3 ∙ head-shape (term.Var v.index) (all_read g ts) ∙ flex-shape v.index (all_read g ts)
form-shape g depth u (Redex t []) f = absurd f.1
form-shape g depth u (Redex t (a ∷ ts)) f = ap (shape 0) f.3 ∙ redex-shape (read g t.index names) (read g a.index names) (all_read g ts) f.0.reads f.1

-- the kind of a goal, by its form
pub form-kind : (g : Graph) (depth : ℕ) (u : Term) (w : Whnf) → IsHeadForm g depth u w → (v : Whnf) → w ≡ v → shape_goal (form_shape g v) ≡ goal_kind u
form-kind g depth u w f v e = sym (ap shape_goal (form-shape g depth u w f) ∙ ap (λ (x : Whnf). shape_goal (form_shape g x)) e)
