-- A run that ends in a clash that is no knot: the problem has no solution.
use Rattle.std.proofs.Common.{◌≡◌, ℕ, suc, ◌≤◌, List, [], ◌∷◌, refl, sym, ap, ◌∙◌, subst, arith, Option, Some, None}
use Rattle.ref_terms.specs.terms.Term.{Term, Lam, At, App, Head, Bound}
use Rattle.ref_terms.specs.terms.Index.{ren, ren_head, next}
use Rattle.ref_terms.specs.unification.Spine.{head_of}
use Rattle.ref_terms.specs.unification.Problem.{Equation, Problem, Goes}
use Rattle.ref_terms.specs.unification.Rules.{step}
use Rattle.ref_terms.specs.unification.Run.{Unifies}
use Rattle.ref_terms.specs.unification.RealClash.{HasNoIndexHead, FirstHasNoIndexHead, RealClashes}
use Rattle.ref_terms.proofs.unification.SideLemmas.{IsClosed, Sides, sides-from}
use Rattle.ref_terms.proofs.unification.GeneralRules.{Kept, StepKeeps, step-keeps}
use Rattle.ref_terms.proofs.unification.RealClash.{KeepsSolutions, real-where-kept}
use Rattle.ref_terms.proofs.unification.Steps.{unify-reached}

-- a head under one more abstraction
abbrev pub head_moved : Option Head → Option Head
head_moved None = None
head_moved (Some h) = Some (ren_head next h)

head-ren : (t : Term) → head_of (ren next t) ≡ head_moved (head_of t)
head-ren (Lam b) = refl
head-ren (At h) = refl
head-ren (App f a) = head-ren f

closed-head : (t : Term) → IsClosed t → HasNoIndexHead t
closed-head t c i e =
    let a : head_of (ren next t) ≡ head_of t = ap head_of (c next) in
    let b : head_moved (head_of t) ≡ Some (Bound (suc i)) = ap head_moved e in
    let d : Some (Bound (suc i)) ≡ Some (Bound i) = sym b ∙ sym (head-ren t) ∙ a ∙ e in
    let z : suc i ≡ i = cc in
    absurd (omega arith)

-- what a run keeps: proper sides, and frozen variables below the next one
abbrev pub HasSides : ℕ → Problem → Type 0
HasSides m p = (m ≤ p.next_var) × Sides p.next_var p.equations

bound : (q : ℕ) (es : List Equation) → Sides q es → FirstHasNoIndexHead es
bound q [] w = tt
bound q (e ∷ es) w = (closed-head e.left w.0.0.closed, closed-head e.right w.0.1.closed)

kept : (m : ℕ) (p q : Problem) → HasSides m p → step m p ≡ Goes q → Kept m p.next_var p.bindings p.equations q
kept m p q w e = subst (StepKeeps m p p.equations) e (step-keeps m p w.0 w.1)

pub keeps-solutions : (m : ℕ) → KeepsSolutions m (HasSides m)
keeps-solutions m = record {
  bound = λ p w. bound p.next_var p.equations w.1;
  proper = λ p q w d. let k = kept m p q w d in let a : m ≤ p.next_var = w.0 in let b : p.next_var ≤ q.next_var = k.grows in (omega arith, k.sides);
  solutions = λ p q w d u good s. let a = (kept m p q w d).forth u good s in (a.0, a.1, a.3);
}

pub real-clashes : RealClashes
real-clashes m p l w e = real-where-kept m (HasSides m) (keeps-solutions m) p (l, sides-from p.next_var p.equations w) (subst (Unifies m p) e (unify-reached m p))
