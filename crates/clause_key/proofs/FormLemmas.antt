-- Keys by head forms, and the heads that keys come from.
use Rattle.std.proofs.Common.{◌≡◌, ℕ, Bool, true, false, cond, nat_lt, List, [], ◌∷◌, ◌++◌, Option, Some, None, refl, sym, ap, ◌∙◌}
use Rattle.level_terms.specs.Graph.{Graph}
use Rattle.ref_terms.specs.terms.Term as term
use Rattle.ref_terms.specs.terms.Term.{Term, Head, At}
use Rattle.ref_terms.specs.unification.Shape as shape
use Rattle.ref_terms.specs.unification.Shape.{Shape, shape, headed}
use Rattle.ref_terms.specs.unification.Spine.{args_of, head_of}
use Rattle.beta_fragment.specs.HeadForm.{IsHeadForm}
use Rattle.beta_fragment.specs.declared.answer.Whnf.{Whnf}
use Rattle.goal_form.specs.Forms.{form_shape}
use Rattle.goal_form.proofs.FormLemmas.{form-shape}
use Rattle.clause_key.specs.declared.key.Key.TheVariants.{Any}
use Rattle.clause_key.specs.Keys.{key_of_head, key_of_shape, key_of, fits_every}

-- the key of a term, by its form
pub form-key : (g : Graph) (depth : ℕ) (u : Term) (w v : Whnf) → IsHeadForm g depth u w → w ≡ v → key_of_shape (form_shape g v) ≡ key_of u
form-key g depth u w v f e = sym (ap key_of_shape (form-shape g depth u w f) ∙ ap (λ (x : Whnf). key_of_shape (form_shape g x)) e)

-- the key by the head
pub key-headed : (h : Head) (xs : List Term) → key_of_shape (headed 0 (Some h) xs) ≡ key_of_head h
key-headed (term.Con c) xs = refl
key-headed (term.Int n) xs = refl
key-headed (term.Str s) xs = refl
key-headed (term.Name n) xs = refl
key-headed (term.Bound i) xs = refl
key-headed (term.Var v) xs = go (nat_lt v 0)
  where
    go : (b : Bool) → key_of_shape (cond b (shape.Rigid (term.Var v) xs) (shape.Flex v xs)) ≡ Any
    go true = refl
    go false = refl

-- a term whose key doesn't agree with each has a head, whose key it is
pub record HasHead (u : Term) : Type 0 where
  pub head : Head
  pub is : head_of u ≡ Some head
  pub key : key_of u ≡ key_of_head head

pub has-head : (u : Term) → fits_every (key_of u) ≡ false → HasHead u
has-head (term.Lam b) e = absurd (let z : true ≡ false = e in cc)
has-head (At h) e = record { head = h; is = refl; key = key-headed h [] }
has-head (term.App f a) e = go (head_of f) refl
  where
    go : (o : Option Head) → head_of f ≡ o → HasHead (term.App f a)
    go None n =
        let z : key_of (term.App f a) ≡ Any = ap (λ o. key_of_shape (headed 0 o (args_of f ++ a ∷ []))) n in
        absurd (let y : true ≡ false = sym (ap fits_every z) ∙ e in cc)
    go (Some h) n = record { head = h; is = n; key = ap (λ o. key_of_shape (headed 0 o (args_of f ++ a ∷ []))) n ∙ key-headed h (args_of f ++ a ∷ []) }

-- a head whose key doesn't agree with each is rigid, whatever is frozen
pub firm-headed : (m : ℕ) (h : Head) (xs : List Term) → fits_every (key_of_head h) ≡ false → headed m (Some h) xs ≡ shape.Rigid h xs
firm-headed m (term.Con c) xs e = refl
firm-headed m (term.Int n) xs e = refl
firm-headed m (term.Str s) xs e = refl
firm-headed m (term.Name n) xs e = refl
firm-headed m (term.Bound i) xs e = refl
firm-headed m (term.Var v) xs e = absurd (let z : true ≡ false = e in cc)

pub record IsRigidAt (m : ℕ) (u : Term) (h : Head) : Type 0 where
  pub args : List Term
  pub is : shape m u ≡ shape.Rigid h args

pub firm-shape : (m : ℕ) (u : Term) (h : Head) → head_of u ≡ Some h → fits_every (key_of_head h) ≡ false → IsRigidAt m u h
firm-shape m (term.Lam b) h i e = absurd (let z : None ≡ Some h = i in cc)
firm-shape m (At k) h i e = record { args = []; is = ap (λ o. headed m o []) i ∙ firm-headed m h [] e }
firm-shape m (term.App f a) h i e = record { args = args_of f ++ a ∷ []; is = ap (λ o. headed m o (args_of f ++ a ∷ [])) i ∙ firm-headed m h (args_of f ++ a ∷ []) e }
