-- Questions about terms.
use Rattle.std.proofs.Common.{◌≡◌, ℕ, ℤ, Bool, true, false, ◌&&◌, ◌↔◌, IsTrue, nat_eq, List, [], ◌∷◌, length, refl, sym, ap, ap₂, ◌∙◌, subst, eqb-true, eq-eqb, ne_eqb, arith}
use Rattle.std.specs.Ordering.{int_eq}
use Rattle.std.proofs.lemmas.Bool.Decides.{Decides-int_eq}
use Rattle.level_terms.specs.Graph.{Graph}
use Rattle.ref_terms.specs.terms.Term as term
use Rattle.ref_terms.specs.terms.Term.{Term, Head, At, Lam, App}
use Rattle.ref_terms.specs.unification.Rules.{head_eq}
use Rattle.ref_terms.specs.unification.Shape as shape
use Rattle.ref_terms.specs.unification.Shape.{shape}
use Rattle.ref_terms.specs.unification.Spine.{apply_all}
use Rattle.ref_terms.specs.search.Arithmetic.{operand, less, judged_less}
use Rattle.ref_terms.specs.search.Fault.{Good}
use Rattle.ref_terms.specs.search.Value.{term_eq, shape_is_flex, is_flex, is_bare_name}
use Rattle.beta_fragment.specs.HeadForm.{IsHeadForm, rigid_head}
use Rattle.beta_fragment.specs.declared.answer.RigidHead.{RigidHead}
use Rattle.beta_fragment.specs.declared.answer.RigidHead.TheVariants.{Con, Int, Str, Level}
use Rattle.beta_fragment.specs.declared.answer.UnifyStop.{UnifyStop}
use Rattle.beta_fragment.specs.declared.answer.UnifyStop.TheVariants.{Fault, Memory}
use Rattle.beta_fragment.specs.declared.answer.Whnf.{Whnf}
use Rattle.goal_form.specs.Forms.{form_shape}
use Rattle.goal_form.proofs.FormLemmas.{head-shape, rigid-shape, form-shape}
use Rattle.builtins.specs.Outcome.{StopsBy}

nat-same : (n : ℕ) → nat_eq n n ≡ true
nat-same n = eq-eqb n n refl

int-true : (x y : ℤ) → int_eq x y ≡ true → x ≡ y
int-true x y e = (Decides-int_eq x y).0 e

int-same : (x : ℤ) → int_eq x x ≡ true
int-same x = (Decides-int_eq x x).1 refl

head-same : (h : Head) → head_eq h h ≡ true
head-same (term.Con c) = nat-same c
head-same (term.Int z) = int-same z
head-same (term.Str s) = nat-same s
head-same (term.Name n) = nat-same n
head-same (term.Bound i) = nat-same i
head-same (term.Var v) = nat-same v

head-true : (h k : Head) → head_eq h k ≡ true → h ≡ k
head-true (term.Con x) (term.Con y) e = ap term.Con (eqb-true x y e)
head-true (term.Con x) (term.Int y) e = absurd (let q : false ≡ true = e in cc)
head-true (term.Con x) (term.Str y) e = absurd (let q : false ≡ true = e in cc)
head-true (term.Con x) (term.Name y) e = absurd (let q : false ≡ true = e in cc)
head-true (term.Con x) (term.Bound y) e = absurd (let q : false ≡ true = e in cc)
head-true (term.Con x) (term.Var y) e = absurd (let q : false ≡ true = e in cc)
head-true (term.Int x) (term.Con y) e = absurd (let q : false ≡ true = e in cc)
head-true (term.Int x) (term.Int y) e = ap term.Int (int-true x y e)
head-true (term.Int x) (term.Str y) e = absurd (let q : false ≡ true = e in cc)
head-true (term.Int x) (term.Name y) e = absurd (let q : false ≡ true = e in cc)
head-true (term.Int x) (term.Bound y) e = absurd (let q : false ≡ true = e in cc)
head-true (term.Int x) (term.Var y) e = absurd (let q : false ≡ true = e in cc)
head-true (term.Str x) (term.Con y) e = absurd (let q : false ≡ true = e in cc)
head-true (term.Str x) (term.Int y) e = absurd (let q : false ≡ true = e in cc)
head-true (term.Str x) (term.Str y) e = ap term.Str (eqb-true x y e)
head-true (term.Str x) (term.Name y) e = absurd (let q : false ≡ true = e in cc)
head-true (term.Str x) (term.Bound y) e = absurd (let q : false ≡ true = e in cc)
head-true (term.Str x) (term.Var y) e = absurd (let q : false ≡ true = e in cc)
head-true (term.Name x) (term.Con y) e = absurd (let q : false ≡ true = e in cc)
head-true (term.Name x) (term.Int y) e = absurd (let q : false ≡ true = e in cc)
head-true (term.Name x) (term.Str y) e = absurd (let q : false ≡ true = e in cc)
head-true (term.Name x) (term.Name y) e = ap term.Name (eqb-true x y e)
head-true (term.Name x) (term.Bound y) e = absurd (let q : false ≡ true = e in cc)
head-true (term.Name x) (term.Var y) e = absurd (let q : false ≡ true = e in cc)
head-true (term.Bound x) (term.Con y) e = absurd (let q : false ≡ true = e in cc)
head-true (term.Bound x) (term.Int y) e = absurd (let q : false ≡ true = e in cc)
head-true (term.Bound x) (term.Str y) e = absurd (let q : false ≡ true = e in cc)
head-true (term.Bound x) (term.Name y) e = absurd (let q : false ≡ true = e in cc)
head-true (term.Bound x) (term.Bound y) e = ap term.Bound (eqb-true x y e)
head-true (term.Bound x) (term.Var y) e = absurd (let q : false ≡ true = e in cc)
head-true (term.Var x) (term.Con y) e = absurd (let q : false ≡ true = e in cc)
head-true (term.Var x) (term.Int y) e = absurd (let q : false ≡ true = e in cc)
head-true (term.Var x) (term.Str y) e = absurd (let q : false ≡ true = e in cc)
head-true (term.Var x) (term.Name y) e = absurd (let q : false ≡ true = e in cc)
head-true (term.Var x) (term.Bound y) e = absurd (let q : false ≡ true = e in cc)
head-true (term.Var x) (term.Var y) e = ap term.Var (eqb-true x y e)

term-same : (t : Term) → term_eq t t ≡ true
term-same (Lam b) = term-same b
term-same (At h) = head-same h
term-same (App f a) = rw (term-same f, term-same a) refl

and-left : (a b : Bool) → (a && b) ≡ true → a ≡ true
and-left true b e = refl
and-left false b e = e

and-right : (a b : Bool) → (a && b) ≡ true → b ≡ true
and-right true b e = e
and-right false b e = absurd (let q : false ≡ true = e in cc)

term-true : (s t : Term) → term_eq s t ≡ true → s ≡ t
term-true (Lam a) (Lam b) e = ap Lam (term-true a b e)
term-true (At h) (At k) e = ap At (head-true h k e)
term-true (App f a) (App g b) e = ap₂ App (term-true f g (and-left _ _ e)) (term-true a b (and-right _ _ e))
term-true (Lam a) (At k) e = absurd (let q : false ≡ true = e in cc)
term-true (Lam a) (App g b) e = absurd (let q : false ≡ true = e in cc)
term-true (At h) (Lam b) e = absurd (let q : false ≡ true = e in cc)
term-true (At h) (App g b) e = absurd (let q : false ≡ true = e in cc)
term-true (App f a) (Lam b) e = absurd (let q : false ≡ true = e in cc)
term-true (App f a) (At k) e = absurd (let q : false ≡ true = e in cc)

-- equal terms
pub same-truth : (s t : Term) (b : Bool) → (IsTrue b ↔ (s ≡ t)) → b ≡ term_eq s t
same-truth s t true w = sym (subst (λ u. term_eq s u ≡ true) (w.0 refl) (term-same s))
same-truth s t false w = go (term_eq s t) refl
  where
    go : (b : Bool) → term_eq s t ≡ b → false ≡ term_eq s t
    go true e = absurd (let q : false ≡ true = w.1 (term-true s t e) in cc)
    go false e = sym e

-- a variable at the head
pub form-flex : (g : Graph) (depth : ℕ) (u : Term) (w : Whnf) → IsHeadForm g depth u w → (v : Whnf) → w ≡ v → shape_is_flex (form_shape g v) ≡ is_flex u
form-flex g depth u w f v e = sym (ap shape_is_flex (form-shape g depth u w f) ∙ ap (λ (x : Whnf). shape_is_flex (form_shape g x)) e)

-- a name alone
bare-shape : (u : Term) → ((n : ℕ) → shape 0 u ≡ shape.Rigid (term.Name n) [] → ⊥) → false ≡ is_bare_name u
bare-shape (At (term.Name m)) n = absurd (n m refl)
bare-shape (At (term.Con c)) n = refl
bare-shape (At (term.Int c)) n = refl
bare-shape (At (term.Str c)) n = refl
bare-shape (At (term.Bound c)) n = refl
bare-shape (At (term.Var c)) n = refl
bare-shape (Lam b) n = refl
bare-shape (App f a) n = refl

pub form-no_name : (g : Graph) (depth : ℕ) (u : Term) (w : Whnf) → IsHeadForm g depth u w → ((n : ℕ) → form_shape g w ≡ shape.Rigid (term.Name n) [] → ⊥) → false ≡ is_bare_name u
form-no_name g depth u w f n = bare-shape u (λ m e. n m (sym (form-shape g depth u w f) ∙ e))

pub head-no_name : (u : Term) (h : RigidHead) (xs : List Term) → ((l : ℕ) → h ≡ Level l → length xs ≡ 0 → ⊥) → u ≡ apply_all (At (rigid_head h)) xs → false ≡ is_bare_name u
head-no_name u h xs n e =
    let is : shape 0 u ≡ shape.Rigid (rigid_head h) xs = ap (shape 0) e ∙ head-shape (rigid_head h) xs ∙ rigid-shape h xs in
    bare-shape u (λ m k. other h xs n m (sym is ∙ k))
  where
    other : (h : RigidHead) (xs : List Term) → ((l : ℕ) → h ≡ Level l → length xs ≡ 0 → ⊥) → (m : ℕ) → shape.Rigid (rigid_head h) xs ≡ shape.Rigid (term.Name m) [] → ⊥
    other (Level l) [] n m k = n l refl refl
    other (Level l) (x ∷ xs) n m k = cc
    other (Con c) xs n m k = cc
    other (Int c) xs n m k = cc
    other (Str c) xs n m k = cc

pub level-alone : (u : Term) (l : ℕ) (xs : List Term) (n : ℕ) → length xs ≡ n → u ≡ apply_all (At (term.Name l)) xs → nat_eq n 0 ≡ is_bare_name u
level-alone u l [] n k e = subst (λ (m : ℕ). nat_eq m 0 ≡ is_bare_name u) k (sym (ap is_bare_name e))
level-alone u l (x ∷ xs) n k e = subst (λ (m : ℕ). nat_eq m 0 ≡ is_bare_name u) k (ne_eqb (length (x ∷ xs)) 0 (omega arith) ∙ head-no_name u (Level l) (x ∷ xs) (λ m is z. absurd (omega (arith, z))) e)

-- a comparison
pub less-right : (a b : Term) (l : ℤ) (stop : UnifyStop) → operand a ≡ Good l → StopsBy (operand b) stop → StopsBy (less a b) stop
less-right a b l (Fault f) e w = ap₂ judged_less e w
less-right a b l Memory e w = tt
