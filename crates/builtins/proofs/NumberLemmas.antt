-- Integers: their range, and the terms that are one.
use Rattle.std.proofs.Common.{◌≡◌, ℕ, ◌≤◌, ◌-◌, ◌^◌, ℤ, pos, negsuc, Bool, true, false, cond, not, ◌&&◌, nat_lt, List, [], ◌∷◌, length, Option, Some, None, SomeIff, FitsSigned, w64, refl, sym, ap, ◌∙◌, arith}
use Rattle.std.proofs.lemmas.Bool.{lt-ltb, le-ltb, ltb-true, ltb-false}
use Rattle.level_terms.specs.Graph.{Graph}
use Rattle.ref_terms.specs.terms.Term as term
use Rattle.ref_terms.specs.terms.Term.{Term, At}
use Rattle.ref_terms.specs.unification.Shape as shape
use Rattle.ref_terms.specs.unification.Shape.{shape}
use Rattle.ref_terms.specs.unification.Spine.{apply_all}
use Rattle.ref_terms.specs.search.Arithmetic.{operand, fits, in_range, calculated, shape_fault}
use Rattle.ref_terms.specs.search.Fault.{Good, Bad}
use Rattle.ref_terms.specs.declared.fault.Fault.TheVariants.{Number}
use Rattle.beta_fragment.specs.HeadForm.{IsHeadForm, rigid_head}
use Rattle.beta_fragment.specs.declared.answer.RigidHead.{RigidHead}
use Rattle.beta_fragment.specs.declared.answer.RigidHead.TheVariants.{Con, Int, Str, Level}
use Rattle.beta_fragment.specs.declared.answer.Whnf.{Whnf}
use Rattle.goal_form.specs.Forms.{form_shape}
use Rattle.goal_form.proofs.FormLemmas.{head-shape, rigid-shape, form-shape}
use Rattle.builtins.specs.declared.number.Operator.{Operator}
use Rattle.builtins.specs.inside.Numbers.{operator_word, IsCalculated}

fits-within : (z : ℤ) → FitsSigned w64 z → fits z ≡ true
fits-within (pos n) h = lt-ltb n (2 ^ 63) h.sfits
fits-within (negsuc n) h = ap (λ (b : Bool). not b && true) (le-ltb (2 ^ 63 - 1) n (omega (arith, h.sfits)))

fits-past : (z : ℤ) → (FitsSigned w64 z → ⊥) → fits z ≡ false
fits-past (pos n) h = go (nat_lt n (2 ^ 63)) refl
  where
    go : (b : Bool) → nat_lt n (2 ^ 63) ≡ b → nat_lt n (2 ^ 63) ≡ false
    go true e = absurd (h (record { sfits = ltb-true n (2 ^ 63) e }))
    go false e = e
fits-past (negsuc n) h = go (nat_lt (2 ^ 63 - 1) n) refl
  where
    go : (b : Bool) → nat_lt (2 ^ 63 - 1) n ≡ b → (not (nat_lt (2 ^ 63 - 1) n) && true) ≡ false
    go true e = ap (λ (c : Bool). not c && true) e
    go false e = absurd (h (record { sfits = let k : n ≤ 2 ^ 63 - 1 = ltb-false (2 ^ 63 - 1) n e in omega (arith, k) }))

-- a result where 64 bits hold it
pub calculated-within : (w : Operator) (a b v : ℤ) (r : Option ℤ) → calculated (Some (operator_word w)) a b ≡ in_range v → SomeIff r (FitsSigned w64 v) v → IsCalculated w a b r
calculated-within w a b v None e h = e ∙ ap (λ (c : Bool). cond c (Good v) (Bad Number)) (fits-past v h)
calculated-within w a b v (Some x) e h = e ∙ ap (λ (c : Bool). cond c (Good v) (Bad Number)) (fits-within v h.0) ∙ ap Good (sym h.1)

-- a term that is no integer alone
operand-shape : (u : Term) → ((z : ℤ) → shape 0 u ≡ shape.Rigid (term.Int z) [] → ⊥) → operand u ≡ Bad (shape_fault (shape 0 u))
operand-shape (At (term.Int z)) n = absurd (n z refl)
operand-shape (At (term.Con c)) n = refl
operand-shape (At (term.Str c)) n = refl
operand-shape (At (term.Name c)) n = refl
operand-shape (At (term.Bound c)) n = refl
operand-shape (At (term.Var c)) n = refl
operand-shape (term.Lam b) n = refl
operand-shape (term.App f a) n = refl

pub operand-form : (g : Graph) (depth : ℕ) (u : Term) (w : Whnf) → IsHeadForm g depth u w → ((z : ℤ) → form_shape g w ≡ shape.Rigid (term.Int z) [] → ⊥) → operand u ≡ Bad (shape_fault (form_shape g w))
operand-form g depth u w f n = operand-shape u (λ z e. n z (sym (form-shape g depth u w f) ∙ e)) ∙ ap (λ s. Bad (shape_fault s)) (form-shape g depth u w f)

-- a head with arguments
pub head-integer : (u : Term) (z : ℤ) (xs : List Term) → length xs ≡ 0 → u ≡ apply_all (At (term.Int z)) xs → operand u ≡ Good z
head-integer u z [] l e = ap operand e
head-integer u z (x ∷ xs) l e = absurd (omega (arith, l))

pub head-no_integer : (u : Term) (h : RigidHead) (xs : List Term) → ((z : ℤ) → h ≡ Int z → length xs ≡ 0 → ⊥) → u ≡ apply_all (At (rigid_head h)) xs → operand u ≡ Bad Number
head-no_integer u h xs n e =
    let is : shape 0 u ≡ shape.Rigid (rigid_head h) xs = ap (shape 0) e ∙ head-shape (rigid_head h) xs ∙ rigid-shape h xs in
    operand-shape u (λ z k. other h xs n z (sym is ∙ k)) ∙ ap (λ s. Bad (shape_fault s)) is
  where
    other : (h : RigidHead) (xs : List Term) → ((z : ℤ) → h ≡ Int z → length xs ≡ 0 → ⊥) → (z : ℤ) → shape.Rigid (rigid_head h) xs ≡ shape.Rigid (term.Int z) [] → ⊥
    other (Int y) [] n z k = n y refl refl
    other (Int y) (x ∷ xs) n z k = cc
    other (Con c) xs n z k = cc
    other (Str c) xs n z k = cc
    other (Level c) xs n z k = cc
