-- A turn by what is seen of both sides.
use Rattle.std.proofs.Common.{◌≡◌, ℕ, suc, ◌+◌, ◌++◌, List, [], ◌∷◌, length, Result, Ok, Err, IfOk, refl, sym, ap, ap₂, ◌∙◌, arith, subst, add-one}
use Rattle.level_terms.specs.Graph.{Graph}
use Rattle.level_terms.specs.Growth.{Grows}
use Rattle.level_terms.specs.Reading.{read}
use Rattle.level_terms.specs.Sound.{IsSound}
use Rattle.level_terms.specs.Valid.{IsValid}
use Rattle.level_terms.proofs.GrowthLemmas.{grows-trans}
use Rattle.level_terms.proofs.ValidLemmas.{growth_keeps_readings, growth_keeps_valid}
use Rattle.ref_terms.specs.terms.Term.{Term}
use Rattle.ref_terms.specs.terms.Apply.{apply}
use Rattle.ref_terms.specs.unification.Problem as problem
use Rattle.ref_terms.specs.unification.Problem.{Binding, Step, Goes}
use Rattle.ref_terms.specs.unification.Rules.{rule, step, step_at}
use Rattle.ref_terms.specs.unification.Shape as shape
use Rattle.ref_terms.specs.unification.Shape.{Shape, shape}
use Rattle.beta_fragment.specs.Names.{names}
use Rattle.beta_fragment.proofs.HeadLemmas.{valid-grown_all, read-grown_all}
use Rattle.level_terms.proofs.ReadLemmas.{valid-below}
use Rattle.pattern_unify.specs.declared.equation.Equation.{Equation}
use Rattle.pattern_unify.specs.declared.equation.Turn.{Turn}
use Rattle.pattern_unify.specs.declared.equation.Turn.TheVariants as turn
use Rattle.pattern_unify.specs.declared.side.Side.{Side}
use Rattle.pattern_unify.specs.declared.side.Side.TheVariants.{Abstraction, Redex, Rigid, Flexible}
use Rattle.ref_terms.specs.search.Branch.{bound}
use Rattle.pattern_unify.specs.inside.Equations.{equation_at, equations_at, problem_at, IsValidEquation, AllValidEquations}
use Rattle.pattern_unify.specs.inside.Sides.{head_at, shape_at, IsSideAt}
use Rattle.pattern_unify.specs.inside.Turns.{GoesOn, IsTurn, rule_at}
use Rattle.pattern_unify.proofs.EquationLemmas.{equations-last, equations_valid-last, equations-kept, first-kept, equations_valid-kept}
use Rattle.pattern_unify.proofs.KeptLemmas.{open-kept, grown-nodes}

-- a call that assigns nothing leaves what is seen of a side
pub side-kept : (g h : Graph) (m d : ℕ) (s : Side) → IsSound g → Grows g h [] [] → h.depths ≡ g.depths → IsSideAt g m d s → IsSideAt h m d s
side-kept g h m d Abstraction sound w e k = tt
side-kept g h m d Redex sound w e k = tt
side-kept g h m d (Rigid x args) sound w e k = valid-grown_all g h d sound w args k
side-kept g h m d (Flexible v args) sound w e k = (open-kept g h v.index w e k.0, k.1, valid-grown_all g h d sound w args k.2)

pub shape-kept : (g h : Graph) (m d : ℕ) (s : Side) → IsSound g → Grows g h [] [] → IsSideAt g m d s → shape_at h s ≡ shape_at g s
shape-kept g h m d Abstraction sound w k = refl
shape-kept g h m d Redex sound w k = refl
shape-kept g h m d (Rigid x args) sound w k = ap (shape.Rigid (head_at x)) (read-grown_all g h d sound w args k)
shape-kept g h m d (Flexible v args) sound w k = ap (shape.Flex v.index) (read-grown_all g h d sound w args k.2)

-- a turn after a call that assigns nothing, where both take the same step
pub turn-after : (f g h : Graph) (before after : List Binding → Step) (work : List Equation) (r : Turn) → IsSound f → Grows f g [] [] → ((bs : List Binding) → before bs ≡ after bs) → IsTurn g h after work r → IsTurn f h before work r
turn-after f g h before after work turn.Goes sound w q k = record {
  made = k.made;
  steps = λ bs. q bs ∙ k.steps bs;
  readings = λ t env l. k.readings t env (let more = grown-nodes f g [] [] w in omega (arith, more, l)) ∙ ap (bound k.made) (growth_keeps_readings f g t env sound w l);
  valid = k.valid;
}
turn-after f g h before after work turn.Clash sound w q k = (k.0, λ bs. q bs ∙ k.1 bs)
turn-after f g h before after work (turn.Fault x) sound w q k = (k.0, k.1, λ bs. q bs ∙ k.2 bs)

-- the same where the call's result may be an error
pub seen-after : {E : Type 0} (f g h : Graph) (before after : List Binding → Step) (work : List Equation) (o : Result Turn E) → IsSound f → Grows f g [] [] → ((bs : List Binding) → before bs ≡ after bs) → IfOk o (λ r. IsTurn g h after work r) → IfOk o (λ r. IsTurn f h before work r)
seen-after f g h before after work (Ok r) sound w q k = turn-after f g h before after work r sound w q k
seen-after f g h before after work (Err x) sound w q k = tt

-- a turn that takes another step alike
pub goes-same : (g h : Graph) (before after : List Binding → Step) (work : List Equation) → ((bs : List Binding) → before bs ≡ after bs) → GoesOn g h after work → GoesOn g h before work
goes-same g h before after work q k = record { made = k.made; steps = λ bs. q bs ∙ k.steps bs; readings = k.readings; valid = k.valid }

pub turn-same : (g h : Graph) (before after : List Binding → Step) (work : List Equation) (r : Turn) → ((bs : List Binding) → before bs ≡ after bs) → IsTurn g h after work r → IsTurn g h before work r
turn-same g h before after work turn.Goes q k = goes-same g h before after work q k
turn-same g h before after work turn.Clash q k = (k.0, λ bs. q bs ∙ k.1 bs)
turn-same g h before after work (turn.Fault x) q k = (k.0, k.1, λ bs. q bs ∙ k.2 bs)

-- a turn that takes its step whatever the mark
pub seen-at : {E : Type 0} (g h : Graph) (m : ℕ) (before : List Binding → Step) (after : ℕ → List Binding → Step) (work : List Equation) (o : Result Turn E) → ((bs : List Binding) → before bs ≡ after m bs) → IfOk o (λ r. (n : ℕ) → IsTurn g h (after n) work r) → IfOk o (λ r. IsTurn g h before work r)
seen-at g h m before after work (Ok r) q k = turn-same g h before (after m) work r q (k m)
seen-at g h m before after work (Err x) q k = tt

pub seen-each : {E : Type 0} (g h : Graph) (before after : ℕ → List Binding → Step) (work : List Equation) (o : Result Turn E) → ((n : ℕ) (bs : List Binding) → before n bs ≡ after n bs) → IfOk o (λ r. (n : ℕ) → IsTurn g h (after n) work r) → IfOk o (λ r. (n : ℕ) → IsTurn g h (before n) work r)
seen-each g h before after work (Ok r) q k = λ n. turn-same g h (before n) (after n) work r (q n) (k n)
seen-each g h before after work (Err x) q k = tt

-- beside an abstraction each side but a redex is applied
pub abstraction-opens : (g : Graph) (m : ℕ) (e : Equation) (work : List Equation) (s : Side) (bs : List Binding) → (s ≡ Redex → ⊥) → rule_at m g e work shape.Abstraction (shape_at g s) bs ≡ rule_at m g e work shape.Abstraction shape.Abstraction bs
abstraction-opens g m e work Abstraction bs w = refl
abstraction-opens g m e work Redex bs w = absurd (w refl)
abstraction-opens g m e work (Rigid x args) bs w = refl
abstraction-opens g m e work (Flexible v args) bs w = refl

-- the step on the equation that was put last
pub step-last : (g : Graph) (m : ℕ) (work : List Equation) (e : Equation) (bs : List Binding) → step m (problem_at g (work ++ e ∷ []) bs) ≡ rule_at m g e work (shape m (read g e.left.index names)) (shape m (read g e.right.index names)) bs
unfolding step
step-last g m work e bs = ap (λ (es : List problem.Equation). step_at m es (problem_at g (work ++ e ∷ []) bs)) (equations-last g work e)

-- it is the same after a call that assigns nothing and makes no variable
rule-kept : (g h : Graph) (m : ℕ) (e : Equation) (work : List Equation) (l r : Shape) (bs : List Binding) → IsSound g → Grows g h [] [] → h.depths ≡ g.depths → IsValidEquation g e → AllValidEquations g work → rule_at m h e work l r bs ≡ rule_at m g e work l r bs
rule-kept g h m e work l r bs sound w d v vs = first-kept (rule m l r) g h e work bs sound w d v vs

-- so by shapes that are seen later
pub rule-seen : (g h : Graph) (m : ℕ) (e : Equation) (work : List Equation) (l r l' r' : Shape) (bs : List Binding) → IsSound g → Grows g h [] [] → h.depths ≡ g.depths → IsValidEquation g e → AllValidEquations g work → l ≡ l' → r ≡ r' →
    rule_at m g e work l r bs ≡ rule_at m h e work l' r' bs
rule-seen g h m e work l r l' r' bs sound w d v vs p q = ap₂ (λ (a b : Shape). rule_at m g e work a b bs) p q ∙ sym (rule-kept g h m e work l' r' bs sound w d v vs)

pub shape-later : (g h : Graph) (m t depth : ℕ) → IsSound g → Grows g h [] [] → IsValid g t depth → shape m (read g t names) ≡ shape m (read h t names)
shape-later g h m t depth sound w v = ap (shape m) (sym (growth_keeps_readings g h t names sound w (valid-below g t depth v)))

-- both sides applied to a fresh name
pub opened-turn : (f g h : Graph) (m : ℕ) (e n : Equation) (work new : List Equation) → IsSound f → IsSound g → Grows f g [] [] → Grows g h [] [] → g.depths ≡ f.depths → h.depths ≡ g.depths →
    IsValidEquation f e → AllValidEquations f work → n.depth ≡ e.depth + 1 → new ≡ work ++ n ∷ [] →
    read g n.left.index names ≡ apply (read f e.left.index names) (names e.depth) → IsValid g n.left.index (e.depth + 1) →
    read h n.right.index names ≡ apply (read g e.right.index names) (names e.depth) → IsValid h n.right.index (e.depth + 1) →
    GoesOn f h (λ bs. rule_at m f e work shape.Abstraction shape.Abstraction bs) new
opened-turn f g h m e n work new sound sound' w x d d' v vs up q l p r p' =
    let whole = grows-trans f g h [] [] [] w x in
    let left : read h n.left.index names ≡ apply (read f e.left.index names) (names e.depth) = growth_keeps_readings g h n.left.index names sound' x (valid-below g n.left.index (e.depth + 1) p) ∙ l in
    let right : read h n.right.index names ≡ apply (read f e.right.index names) (names e.depth) = r ∙ ap (λ (u : Term). apply u (names e.depth)) (growth_keeps_readings f g e.right.index names sound w (valid-below f e.right.index e.depth v.1)) in
    let first : equation_at h n ≡ record { names = suc e.depth; left = apply (read f e.left.index names) (names e.depth); right = apply (read f e.right.index names) (names e.depth) } =
    λ i. record { names = (up ∙ add-one e.depth) i; left = left i; right = right i } in
    let equations : equations_at h new ≡ record { names = suc e.depth; left = apply (read f e.left.index names) (names e.depth); right = apply (read f e.right.index names) (names e.depth) } ∷ equations_at f work =
    ap (equations_at h) q ∙ equations-last h work n ∙ ap₂ (λ (y : problem.Equation) (ys : List problem.Equation). y ∷ ys) first (equations-kept f h work sound whole vs) in
    record {
      made = [];
      steps = λ bs. ap₂ (λ (k : ℕ) (es : List problem.Equation). Goes (record { next_var = k; equations = es; bindings = bs })) (sym (ap length (d' ∙ d))) (sym equations);
      readings = λ t env k. growth_keeps_readings f h t env sound whole k;
      valid = subst (AllValidEquations h) (sym q) (equations_valid-last h work n (equations_valid-kept f h [] [] work sound whole vs) (
        subst (IsValid h n.left.index) (sym up) (growth_keeps_valid g h [] [] n.left.index (e.depth + 1) sound' x (valid-below g n.left.index (e.depth + 1) p) p),
        subst (IsValid h n.right.index) (sym up) p',
      ));
    }
