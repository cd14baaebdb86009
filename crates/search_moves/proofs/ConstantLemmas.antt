-- Terms that a constant heads.
use Rattle.std.proofs.Common.{◌≡◌, ℕ, List, [], ◌∷◌, ◌++◌, Some, None, Option, refl, sym, ap, ◌∙◌}
use Rattle.level_terms.specs.Graph.{Graph}
use Rattle.level_terms.specs.declared.node.TermId.{TermId}
use Rattle.ref_terms.specs.terms.Term as term
use Rattle.ref_terms.specs.terms.Term.{Term, Head, Con}
use Rattle.ref_terms.specs.unification.Spine.{args_of, head_of}
use Rattle.ref_terms.specs.unification.Shape as shapes
use Rattle.ref_terms.specs.unification.Shape.{Shape, shape, headed}
use Rattle.beta_fragment.specs.HeadForm.{IsHeadForm}
use Rattle.beta_fragment.specs.declared.answer.RigidHead.{RigidHead}
use Rattle.beta_fragment.specs.declared.answer.Whnf.{Whnf}
use Rattle.beta_fragment.specs.declared.answer.Whnf.TheVariants.{Lam, Rigid, Flex, Redex}
use Rattle.goal_form.specs.Forms.{form_shape}
use Rattle.goal_form.proofs.FormLemmas.{form-shape}

-- its shape is rigid
constant-shape : (u : Term) (c : ℕ) → head_of u ≡ Some (Con c) → shape 0 u ≡ shapes.Rigid (Con c) (args_of u)
constant-shape (term.Lam b) c e = absurd (let z : None ≡ Some (Con c) = e in cc)
constant-shape (term.At h) c e = ap (λ (o : Option Head). headed 0 o []) e
constant-shape (term.App f a) c e = ap (λ (o : Option Head). headed 0 o (args_of f ++ a ∷ [])) e

-- so is its form
pub rigid-only : (g : Graph) (depth : ℕ) (u : Term) (c : ℕ) (w : Whnf) → IsHeadForm g depth u w → head_of u ≡ Some (Con c) → ((h : RigidHead) (ts : List TermId) → w ≡ Rigid h ts → ⊥) → ⊥
rigid-only g depth u c (Rigid h ts) f e other = other h ts refl
rigid-only g depth u c (Lam t) f e other = absurd (let y : form_shape g (Lam t) ≡ shapes.Rigid (Con c) (args_of u) = sym (form-shape g depth u (Lam t) f) ∙ constant-shape u c e in cc)
rigid-only g depth u c (Flex v ts) f e other = absurd (let y : form_shape g (Flex v ts) ≡ shapes.Rigid (Con c) (args_of u) = sym (form-shape g depth u (Flex v ts) f) ∙ constant-shape u c e in cc)
rigid-only g depth u c (Redex t ts) f e other = absurd (let y : form_shape g (Redex t ts) ≡ shapes.Rigid (Con c) (args_of u) = sym (form-shape g depth u (Redex t ts) f) ∙ constant-shape u c e in cc)
