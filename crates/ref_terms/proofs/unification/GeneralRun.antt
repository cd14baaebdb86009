-- The bindings of a whole run.
use Rattle.std.proofs.Common.{◌≡◌, ℕ, zero, suc, ◌≤◌, refl, sym, ap, ◌∙◌, subst, List, [], ◌∷◌, ◌++◌, append_assoc, arith, Some, None}
use Rattle.ref_terms.specs.terms.Term.{Term}
use Rattle.ref_terms.specs.unification.Problem.{Equation, Binding, Problem, Solved, Clashed, Faulted, Step, Goes, Ends}
use Rattle.ref_terms.specs.unification.Rules.{step}
use Rattle.ref_terms.specs.unification.Run.{Unifies, after, run}
use Rattle.ref_terms.specs.unification.Unifier.{IsUnifier, IsChoice}
use Rattle.ref_terms.specs.unification.MostGeneral.{through, AreUnifier, CoverUnifiers, MostGeneral}
use Rattle.ref_terms.proofs.unification.SideLemmas.{Sides, sides-from, Agree, Forced, forced-agree, forced-through, forced-append, through-append}
use Rattle.ref_terms.proofs.unification.GeneralRules.{Kept, StepKeeps, step-keeps}
use Rattle.ref_terms.proofs.unification.Steps.{unify-reached}

-- what a solved run keeps of the unifiers
pub record Outcome (m q : ℕ) (old : List Binding) (es : List Equation) (r : Problem) : Type 0 where
  pub made : List Binding
  pub bindings : r.bindings ≡ made ++ old
  pub back : (s : ℕ → Term) → IsChoice m s → IsChoice m (through made s) × IsUnifier (through made s) es
  pub forth : (u : ℕ → Term) → IsChoice m u → IsUnifier u es → (s : ℕ → Term) × IsChoice m s × Agree q u s × Forced s made

one_more : (m q : ℕ) (old : List Binding) (es : List Equation) (p r : Problem) → Kept m q old es p → Outcome m p.next_var p.bindings p.equations r → Outcome m q old es r
one_more m q old es p r k o = record {
  made = o.made ++ k.made;
  bindings = o.bindings ∙ ap (λ (bs : List Binding). o.made ++ bs) k.bindings ∙ sym (append_assoc o.made k.made old);
  back = λ s g. let a = o.back s g in subst (λ (z : ℕ → Term). IsChoice m z × IsUnifier z es) (sym (through-append o.made k.made s)) (k.back (through o.made s) a.0 a.1);
  forth = λ u g h. let a = k.forth u g h in let b = o.forth a.0 a.1 a.3 in
      (b.0, b.1, λ v l. a.2 v l ∙ b.2 v (let z : q ≤ p.next_var = k.grows in omega arith), forced-append b.0 o.made k.made b.3 (forced-agree p.next_var a.0 b.0 b.2 k.made k.values a.4));
}

solved_run : (m n : ℕ) (p r : Problem) → m ≤ p.next_var → Sides p.next_var p.equations → run m n p ≡ Some (Solved r) → Outcome m p.next_var p.bindings p.equations r
solved_run m zero p r l w e = absurd (let z : None ≡ Some (Solved r) = e in cc)
solved_run m (suc n) p r above w e = go (step m p) (step-keeps m p above w) (λ q a v d. solved_run m n q r a v d) e
  where
    done : (es : List Equation) → es ≡ [] → (q : Problem) → q ≡ p → q ≡ r → Outcome m p.next_var p.bindings es r
    done es d q k l = subst (λ (z : List Equation). Outcome m p.next_var p.bindings z r) (sym d) (record { made = []; bindings = ap (λ (z : Problem). z.bindings) (sym l ∙ k); back = λ s g. (g, tt); forth = λ u g h. (u, g, λ v l. refl, tt) })

    go : (x : Step) → StepKeeps m p p.equations x → ((q : Problem) → m ≤ q.next_var → Sides q.next_var q.equations → run m n q ≡ Some (Solved r) → Outcome m q.next_var q.bindings q.equations r) → after (run m n) x ≡ Some (Solved r) → Outcome m p.next_var p.bindings p.equations r
    go (Goes q) k i d = one_more m p.next_var p.bindings p.equations q r k (i q (let z : p.next_var ≤ q.next_var = k.grows in omega arith) k.sides d)
    go (Ends (Solved q)) k i d = let z : Some (Solved q) ≡ Some (Solved r) = d in let l : q ≡ r = cc in done p.equations k.1 q k.0 l
    go (Ends (Clashed c)) k i d = absurd (let z : Some (Clashed c) ≡ Some (Solved r) = d in cc)
    go (Ends (Faulted f)) k i d = absurd (let z : Some (Faulted f) ≡ Some (Solved r) = d in cc)

append_none : (bs : List Binding) → bs ++ [] ≡ bs
append_none [] = refl
append_none (b ∷ bs) = ap (λ (ds : List Binding). b ∷ ds) (append_none bs)

pub most-general : MostGeneral
most-general m p q above proper none e =
    let u : Unifies m p (Solved q) = subst (Unifies m p) e (unify-reached m p) in
    let o = solved_run m u.steps p q above (sides-from p.next_var p.equations proper) u.ends in
    let same : o.made ≡ q.bindings = sym (o.bindings ∙ ap (λ (bs : List Binding). o.made ++ bs) none ∙ append_none o.made) in
    subst (λ (bs : List Binding). AreUnifier m p.equations bs × CoverUnifiers m p.next_var p.equations bs) same
    (o.back, λ u g h. let a = o.forth u g h in (a.0, a.1, λ v l. a.2 v l ∙ ap (λ (z : ℕ → Term). z v) (sym (forced-through a.0 o.made a.3))))
