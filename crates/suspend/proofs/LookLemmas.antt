-- What looking at a key shows.
use Rattle.std.proofs.Common.{◌≡◌, ℕ, false, List, [], ◌∷◌, ◌++◌, refl, ap, ◌∙◌, subst, Option, Some, None}
use Rattle.level_terms.specs.declared.node.TermId.{TermId}
use Rattle.level_terms.specs.declared.node.VarId.{VarId}
use Rattle.level_terms.specs.Graph.{Graph}
use Rattle.level_terms.specs.Reading.{read}
use Rattle.ref_terms.specs.terms.Term as term
use Rattle.ref_terms.specs.terms.Term.{Term}
use Rattle.ref_terms.specs.terms.Apply.{apply}
use Rattle.ref_terms.specs.terms.Ready.{ready}
use Rattle.ref_terms.specs.unification.Spine.{args_of, head_of, apply_all}
use Rattle.ref_terms.specs.unification.Shape.{headed}
use Rattle.ref_terms.specs.search.Value.{shape_is_flex, is_flex}
use Rattle.ref_terms.specs.search.Waking.{variable_of, heading}
use Rattle.beta_fragment.specs.declared.answer.RigidHead.{RigidHead}
use Rattle.beta_fragment.specs.declared.answer.RigidHead.TheVariants.{Con, Int, Str, Level}
use Rattle.beta_fragment.specs.declared.answer.Whnf.{Whnf}
use Rattle.beta_fragment.specs.declared.answer.Whnf.TheVariants.{Lam, Rigid, Flex, Redex}
use Rattle.beta_fragment.specs.HeadForm.{rigid_head, all_read, IsAbstraction, IsHeadForm}
use Rattle.beta_fragment.specs.Names.{names}
use Rattle.suspend.specs.Looked.{LooksAt}

-- more arguments leave the head, where it is no abstraction
IsHeaded : Term → Type 0
IsHeaded (term.Lam b) = ⊥
IsHeaded _ = Unit {0}

applied-headed : (f a : Term) → IsHeaded f → IsHeaded (apply f a)
unfolding IsHeaded
applied-headed (term.Lam b) a w = elim w [ ]
applied-headed (term.At h) a w = tt
applied-headed (term.App f b) a w = tt

applied-head : (f a : Term) → IsHeaded f → head_of (apply f a) ≡ head_of f
unfolding IsHeaded
applied-head (term.Lam b) a w = elim w [ ]
applied-head (term.At h) a w = refl
applied-head (term.App f b) a w = refl

all-applied-head : (f : Term) (ts : List Term) → IsHeaded f → head_of (apply_all f ts) ≡ head_of f
all-applied-head f [] w = refl
all-applied-head f (t ∷ ts) w = all-applied-head (apply f t) ts (applied-headed f t w) ∙ applied-head f t w

at-headed : (h : term.Head) → IsHeaded (term.At h)
unfolding IsHeaded
at-headed h = tt

app-headed : (f a : Term) → IsHeaded (term.App f a)
unfolding IsHeaded
app-headed f a = tt

-- a head that is no variable
not-flex-headed : (o : Option term.Head) (ts : List Term) → variable_of o ≡ None → shape_is_flex (headed 0 o ts) ≡ false
not-flex-headed None ts e = refl
not-flex-headed (Some (term.Var v)) ts e = absurd (let k : Some v ≡ None = e in cc)
not-flex-headed (Some (term.Con c)) ts e = refl
not-flex-headed (Some (term.Int c)) ts e = refl
not-flex-headed (Some (term.Str c)) ts e = refl
not-flex-headed (Some (term.Name c)) ts e = refl
not-flex-headed (Some (term.Bound c)) ts e = refl

not-flex : (t : Term) → heading t ≡ None → is_flex t ≡ false
not-flex (term.Lam b) e = refl
not-flex (term.At h) e = not-flex-headed (Some h) [] e
not-flex (term.App f a) e = not-flex-headed (head_of f) (args_of f ++ a ∷ []) e

rigid-none : (h : RigidHead) → variable_of (Some (rigid_head h)) ≡ None
rigid-none (Con c) = refl
rigid-none (Int n) = refl
rigid-none (Str s) = refl
rigid-none (Level l) = refl

-- a stuck abstraction before its arguments
stuck-head : (f : Term) (ts : List Term) (t : Term) → IsAbstraction f → ready t ≡ false → heading (apply_all f (t ∷ ts)) ≡ None
stuck-head (term.Lam b) ts t w e =
    let stuck : apply (term.Lam b) t ≡ term.App (term.Lam b) t = rw e refl in
    ap variable_of (ap (λ (f : Term). head_of (apply_all f ts)) stuck ∙ all-applied-head (term.App (term.Lam b) t) ts (app-headed (term.Lam b) t))
stuck-head (term.At h) ts t w e = elim w [ ]
stuck-head (term.App f a) ts t w e = elim w [ ]

abstraction-none : (t : Term) → IsAbstraction t → heading t ≡ None
abstraction-none (term.Lam b) w = refl
abstraction-none (term.At h) w = elim w [ ]
abstraction-none (term.App f a) w = elim w [ ]

pub looks : (g : Graph) (depth : ℕ) (u : Term) (w : Whnf) → IsHeadForm g depth u w → LooksAt u w
looks g depth u (Lam t) f = not-flex u (ap heading f.1 ∙ abstraction-none (read g t.index names) f.0.reads)
looks g depth u (Rigid h args) f = not-flex u (ap heading f.1 ∙ ap variable_of (all-applied-head (term.At (rigid_head h)) (all_read g args) (at-headed (rigid_head h))) ∙ rigid-none h)
looks g depth u (Flex v args) f = ap heading f.3 ∙ ap variable_of (all-applied-head (term.At (term.Var v.index)) (all_read g args) (at-headed (term.Var v.index)))
looks g depth u (Redex t []) f = elim f.1 [ ]
looks g depth u (Redex t (a ∷ more)) f = not-flex u (ap heading f.3 ∙ stuck-head (read g t.index names) (all_read g more) (read g a.index names) f.0.reads f.1)

-- a form shows the variable that heads a term
pub shows-variable : (f : Whnf) (v : VarId) (ts : List TermId) → f ≡ Flex v ts → (u : Term) → LooksAt u f → heading u ≡ Some v.index
shows-variable f v ts e u h = subst (LooksAt u) e h
