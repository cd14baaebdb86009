-- What alignment sees of a term, by its form.
use Rattle.std.proofs.Common.{◌≡◌, ℕ, zero, suc, ◌++◌, List, [], ◌∷◌, Bool, false, cond, Option, Some, None, option_map, option_and_then, slice_get, refl, arith, sym, subst, ap, ◌∙◌, append_assoc, append-nil}
use Rattle.std.proofs.lemmas.Bool.{le-ltb}
use Rattle.std.proofs.lemmas.Option.{slice_get-map}
use Rattle.level_terms.specs.declared.node.TermId.{TermId}
use Rattle.level_terms.specs.Graph.{Graph}
use Rattle.level_terms.specs.Valid.{IsValid}
use Rattle.level_terms.specs.Reading.{read}
use Rattle.ref_terms.specs.terms.Term as term
use Rattle.ref_terms.specs.terms.Term.{Term, Head, At}
use Rattle.ref_terms.specs.terms.Index.{sub, first}
use Rattle.ref_terms.specs.terms.Ready.{ready}
use Rattle.ref_terms.specs.unification.Shape as shape
use Rattle.ref_terms.specs.unification.Shape.{Shape, shape, headed}
use Rattle.ref_terms.specs.unification.Spine.{apply_all, args_of, head_of}
use Rattle.ref_terms.specs.search.Joint.{spine_names, spine_at}
use Rattle.beta_fragment.specs.declared.answer.RigidHead.{RigidHead}
use Rattle.beta_fragment.specs.declared.answer.RigidHead.TheVariants.{Con, Int, Str, Level}
use Rattle.beta_fragment.specs.declared.answer.Whnf.{Whnf}
use Rattle.beta_fragment.specs.declared.answer.Whnf.TheVariants.{Lam, Rigid, Flex, Redex}
use Rattle.beta_fragment.specs.Names.{names}
use Rattle.beta_fragment.specs.HeadForm.{IsHeadForm, IsAbstraction, AllValidAt, all_read, rigid_head}
use Rattle.eigen_align.specs.declared.sequent.Sequent.{Sequent}
use Rattle.eigen_align.specs.Sequents.{sequent_read}
use Rattle.eigen_align.specs.inside.Spines.{form_args, form_spine}

-- an application before more arguments
app-args : (xs : List Term) (f a : Term) → args_of (apply_all (term.App f a) xs) ≡ (args_of f ++ a ∷ []) ++ xs
app-args [] f a = sym (append-nil (args_of f ++ a ∷ []))
app-args (x ∷ xs) f a = app-args xs (term.App f a) x ∙ append_assoc (args_of f ++ a ∷ []) (x ∷ []) xs

-- a head before its arguments
head-args : (h : Head) (xs : List Term) → args_of (apply_all (At h) xs) ≡ xs
head-args h [] = refl
head-args h (x ∷ xs) = app-args xs (At h) x

-- an abstraction
lam-args : (u : Term) → IsAbstraction u → args_of u ≡ []
lam-args (term.Lam b) w = refl
lam-args (At h) w = absurd w
lam-args (term.App f a) w = absurd w

-- an abstraction before an argument that isn't ready
redex-args : (u x : Term) (xs : List Term) → IsAbstraction u → ready x ≡ false → args_of (apply_all u (x ∷ xs)) ≡ x ∷ xs
redex-args (term.Lam b) x xs w r =
    ap (λ (r : Bool). args_of (apply_all (cond r (sub (first x) b) (term.App (term.Lam b) x)) xs)) r ∙ app-args xs (term.Lam b) x
redex-args (At h) x xs w r = absurd w
redex-args (term.App f a) x xs w r = absurd w

-- the arguments of a term are those of its form
form-args : (g : Graph) (depth : ℕ) (u : Term) (w : Whnf) → IsHeadForm g depth u w → args_of u ≡ all_read g (form_args w)
form-args g depth u (Lam t) f = ap args_of f.1 ∙ lam-args (read g t.index names) f.0.reads
form-args g depth u (Rigid h ts) f = ap args_of f.1 ∙ head-args (rigid_head h) (all_read g ts)
form-args g depth u (Flex v ts) f = ap args_of f.3 ∙ head-args (term.Var v.index) (all_read g ts)
form-args g depth u (Redex t []) f = absurd f.1
form-args g depth u (Redex t (a ∷ ts)) f = ap args_of f.3 ∙ redex-args (read g t.index names) (read g a.index names) (all_read g ts) f.0.reads f.1

-- and are valid
form-valid : (g : Graph) (depth : ℕ) (u : Term) (w : Whnf) → IsHeadForm g depth u w → AllValidAt g (form_args w) depth
form-valid g depth u (Lam t) f = tt
form-valid g depth u (Rigid h ts) f = f.0
form-valid g depth u (Flex v ts) f = f.2
form-valid g depth u (Redex t ts) f = f.2

got-valid : (g : Graph) (depth : ℕ) (ts : List TermId) (i : ℕ) (t : TermId) → AllValidAt g ts depth → slice_get ts i ≡ Some t → IsValid g t.index depth
got-valid g depth [] i t w e = absurd (let k : None ≡ Some t = e in cc)
got-valid g depth (x ∷ xs) zero t w e = let k : x ≡ t = cc in subst (λ (z : TermId). IsValid g z.index depth) k w.0
got-valid g depth (x ∷ xs) (suc i) t w e = got-valid g depth xs i t w.1 e

pub argument-valid : (g : Graph) (depth : ℕ) (u : Term) (w : Whnf) (i : ℕ) (t : TermId) → IsHeadForm g depth u w → Some t ≡ slice_get (form_args w) i → IsValid g t.index depth
argument-valid g depth u w i t f e = got-valid g depth (form_args w) i t (form-valid g depth u w f) (sym e)

-- the spine at an argument, by the argument of the form
pub argument-spine : (g h : Graph) (s : Sequent) (w : Whnf) (i : ℕ) (o : Option TermId) → IsHeadForm h s.depth (read g s.goal.index names) w → o ≡ slice_get (form_args w) i →
    spine_at i (Some (sequent_read g s)) ≡ option_and_then (λ t. spine_names (shape 0 (read h t.index names))) o
argument-spine g h s w i o f e =
    ap (λ (ts : List Term). option_and_then (λ t. spine_names (shape 0 t)) (slice_get ts i)) (form-args h s.depth (read g s.goal.index names) w f)
    ∙ ap (option_and_then (λ t. spine_names (shape 0 t))) (slice_get-map (λ (t : TermId). read h t.index names) (form_args w) i ∙ ap (option_map (λ (t : TermId). read h t.index names)) (sym e))
    ∙ mapped o
  where
    mapped : (p : Option TermId) → option_and_then (λ t. spine_names (shape 0 t)) (option_map (λ (t : TermId). read h t.index names) p) ≡ option_and_then (λ t. spine_names (shape 0 (read h t.index names))) p
    mapped None = refl
    mapped (Some t) = refl

-- an application before more arguments
app-shape : (xs : List Term) (f a : Term) → shape 0 (apply_all (term.App f a) xs) ≡ headed 0 (head_of f) ((args_of f ++ a ∷ []) ++ xs)
app-shape [] f a = ap (headed 0 (head_of f)) (sym (append-nil (args_of f ++ a ∷ [])))
app-shape (x ∷ xs) f a = app-shape xs (term.App f a) x ∙ ap (headed 0 (head_of f)) (append_assoc (args_of f ++ a ∷ []) (x ∷ []) xs)

head-shape : (h : Head) (xs : List Term) → shape 0 (apply_all (At h) xs) ≡ headed 0 (Some h) xs
head-shape h [] = refl
head-shape h (x ∷ xs) = app-shape xs (At h) x

lam-spine : (u : Term) → IsAbstraction u → spine_names (shape 0 u) ≡ None
lam-spine (term.Lam b) w = refl
lam-spine (At h) w = absurd w
lam-spine (term.App f a) w = absurd w

redex-spine : (u x : Term) (xs : List Term) → IsAbstraction u → ready x ≡ false → spine_names (shape 0 (apply_all u (x ∷ xs))) ≡ None
redex-spine (term.Lam b) x xs w r =
    ap (λ (r : Bool). spine_names (shape 0 (apply_all (cond r (sub (first x) b) (term.App (term.Lam b) x)) xs))) r ∙ ap spine_names (app-shape xs (term.Lam b) x)
redex-spine (At h) x xs w r = absurd w
redex-spine (term.App f a) x xs w r = absurd w

rigid-spine : (h : RigidHead) (xs : List Term) → spine_names (headed 0 (Some (rigid_head h)) xs) ≡ None
rigid-spine (Con c) xs = refl
rigid-spine (Int n) xs = refl
rigid-spine (Str s) xs = refl
rigid-spine (Level l) xs = refl

variable-shape : (v : ℕ) (xs : List Term) → headed 0 (Some (term.Var v)) xs ≡ shape.Flex v xs
variable-shape v xs = ap (λ (b : Bool). cond b (shape.Rigid (term.Var v) xs) (shape.Flex v xs)) (le-ltb v 0 (omega arith))

-- the pattern spine that a term is, by its form
pub form-spine : (g : Graph) (depth : ℕ) (u : Term) (w : Whnf) → IsHeadForm g depth u w → spine_names (shape 0 u) ≡ form_spine g w
form-spine g depth u (Lam t) f = ap (λ (x : Term). spine_names (shape 0 x)) f.1 ∙ lam-spine (read g t.index names) f.0.reads
form-spine g depth u (Rigid h ts) f = ap (λ (x : Term). spine_names (shape 0 x)) f.1 ∙ ap spine_names (head-shape (rigid_head h) (all_read g ts)) ∙ rigid-spine h (all_read g ts)
form-spine g depth u (Flex v ts) f = ap (λ (x : Term). spine_names (shape 0 x)) f.3 ∙ ap spine_names (head-shape (term.Var v.index) (all_read g ts) ∙ variable-shape v.index (all_read g ts))
form-spine g depth u (Redex t []) f = absurd f.1
form-spine g depth u (Redex t (a ∷ ts)) f = ap (λ (x : Term). spine_names (shape 0 x)) f.3 ∙ redex-spine (read g t.index names) (read g a.index names) (all_read g ts) f.0.reads f.1
