-- The values of expressions, by what stands at their heads.
use Rattle.std.proofs.Common.{◌≡◌, ℕ, suc, ◌+◌, ℤ, Bool, true, false, cond, List, [], ◌∷◌, ◌++◌, length, Option, Some, refl, sym, ap, ◌∙◌, arith}
use Rattle.level_terms.specs.declared.node.TermId.{TermId}
use Rattle.level_terms.specs.Graph.{Graph}
use Rattle.level_terms.specs.Reading.{read}
use Rattle.ref_terms.specs.ending.Measure.{size}
use Rattle.ref_terms.specs.terms.Term as term
use Rattle.ref_terms.specs.terms.Term.{Term, At, App}
use Rattle.ref_terms.specs.unification.Shape as shape
use Rattle.ref_terms.specs.unification.Shape.{shape, headed}
use Rattle.ref_terms.specs.unification.Spine.{apply_all, args_of, head_of}
use Rattle.ref_terms.specs.search.Arithmetic.{operand, value_of, is_operator, combined, shape_fault}
use Rattle.ref_terms.specs.search.Fault.{Judged, Bad}
use Rattle.ref_terms.specs.search.Reserved.{word_of}
use Rattle.ref_terms.specs.declared.fault.Fault.TheVariants.{Number}
use Rattle.ref_terms.specs.declared.reserved.Reserved.{Reserved}
use Rattle.beta_fragment.specs.HeadForm.{IsHeadForm, AllValidAt, all_read, rigid_head}
use Rattle.beta_fragment.specs.Names.{names}
use Rattle.beta_fragment.specs.declared.answer.RigidHead.{RigidHead}
use Rattle.beta_fragment.specs.declared.answer.Whnf.{Whnf}
use Rattle.goal_form.specs.Forms.{form_shape}
use Rattle.goal_form.proofs.FormLemmas.{head-shape, rigid-shape, form-shape}
use Rattle.builtins.specs.declared.number.Operator.{Operator}
use Rattle.builtins.specs.declared.number.Operator.TheVariants.{Plus, Minus, Times}
use Rattle.builtins.specs.inside.Numbers.{operator_word, IsOperation}
use Rattle.builtins.proofs.NumberLemmas.{operand-form}

-- a term that no constant heads has a value where it is an integer
value-other : (u : Term) → ((c : ℕ) (xs : List Term) → shape 0 u ≡ shape.Rigid (term.Con c) xs → ⊥) → value_of u ≡ operand u
value-other (term.Lam b) n = refl
value-other (At h) n = refl
value-other (App (term.Lam b) a) n = refl
value-other (App (At h) a) n = refl
value-other (App (App (term.Lam b) y) a) n = refl
value-other (App (App (App f x) y) a) n = refl
value-other (App (App (At (term.Con c)) y) a) n = absurd (n c (y ∷ a ∷ []) refl)
value-other (App (App (At (term.Int c)) y) a) n = refl
value-other (App (App (At (term.Str c)) y) a) n = refl
value-other (App (App (At (term.Name c)) y) a) n = refl
value-other (App (App (At (term.Bound c)) y) a) n = refl
value-other (App (App (At (term.Var c)) y) a) n = refl

pub value-form : (g : Graph) (depth : ℕ) (u : Term) (w : Whnf) → IsHeadForm g depth u w → ((c : ℕ) (xs : List Term) → form_shape g w ≡ shape.Rigid (term.Con c) xs → ⊥) → ((z : ℤ) → form_shape g w ≡ shape.Rigid (term.Int z) [] → ⊥) → value_of u ≡ Bad (shape_fault (form_shape g w))
value-form g depth u w f n k = value-other u (λ c xs e. n c xs (sym (form-shape g depth u w f) ∙ e)) ∙ operand-form g depth u w f k

pub value-rigid : (u : Term) (h : RigidHead) (xs : List Term) → ((c : ℕ) → rigid_head h ≡ term.Con c → ⊥) → u ≡ apply_all (At (rigid_head h)) xs → value_of u ≡ operand u
value-rigid u h xs n e =
    let is : shape 0 u ≡ shape.Rigid (rigid_head h) xs = ap (shape 0) e ∙ head-shape (rigid_head h) xs ∙ rigid-shape h xs in
    value-other u (λ c ys k. n c (let q : shape.Rigid (rigid_head h) xs ≡ shape.Rigid (term.Con c) ys = sym is ∙ k in cc))

-- as many terms as nodes
pub read-length : (g : Graph) (ts : List TermId) → length (all_read g ts) ≡ length ts
read-length g [] = refl
read-length g (t ∷ ts) = ap suc (read-length g ts)

-- a constant with another number of arguments than two
longer : (c : ℕ) (f x y z : Term) (rest : List Term) → head_of f ≡ Some (term.Con c) → value_of (apply_all (App (App (App f x) y) z) rest) ≡ Bad Number
longer c f x y z [] e = ap (λ o. Bad (shape_fault (headed 0 o (((args_of f ++ x ∷ []) ++ y ∷ []) ++ z ∷ [])))) e
longer c f x y z (r ∷ rest) e = longer c (App f x) y z r rest e

pub value-unequal : (c : ℕ) (xs : List Term) → (length xs ≡ 2 → ⊥) → value_of (apply_all (At (term.Con c)) xs) ≡ Bad Number
value-unequal c [] n = refl
value-unequal c (x ∷ []) n = refl
value-unequal c (x ∷ y ∷ []) n = absurd (n refl)
value-unequal c (x ∷ y ∷ z ∷ rest) n = longer c (At (term.Con c)) x y z rest refl

-- a constant with two arguments
pub value-plain : (c : ℕ) (x y : Term) → is_operator (word_of c) ≡ false → value_of (App (App (At (term.Con c)) x) y) ≡ Bad Number
value-plain c x y e = ap (λ (b : Bool). cond b (combined (word_of c) (value_of x) (value_of y)) (Bad Number)) e

operates : (w : Operator) → is_operator (Some (operator_word w)) ≡ true
operates Plus = refl
operates Minus = refl
operates Times = refl

value-operated : (o : Option Reserved) (w : Operator) (j k : Judged ℤ) → o ≡ Some (operator_word w) → cond (is_operator o) (combined o j k) (Bad Number) ≡ combined (Some (operator_word w)) j k
value-operated o w j k e = ap (λ (p : Option Reserved). cond (is_operator p) (combined p j k) (Bad Number)) e ∙ ap (λ (b : Bool). cond b (combined (Some (operator_word w)) j k) (Bad Number)) (operates w)

pub operation-seen : (g : Graph) (depth : ℕ) (u : Term) (c : ℕ) (w : Operator) (a b : TermId) → AllValidAt g (a ∷ b ∷ []) depth → word_of c ≡ Some (operator_word w) → u ≡ App (App (At (term.Con c)) (read g a.index names)) (read g b.index names) → IsOperation g depth u w a.index b.index
operation-seen g depth u c w a b v o e = record {
  value = ap value_of e ∙ value-operated (word_of c) w (value_of (read g a.index names)) (value_of (read g b.index names)) o;
  left = v.0;
  right = v.1.0;
  less = let k : size u ≡ (1 + size (read g a.index names)) + size (read g b.index names) = ap size e in omega (arith, k);
}
