-- The equations that are left, in a heap that gained bindings.
use Rattle.std.proofs.Common.{◌≡◌, ℕ, ◌<◌, List, [], ◌∷◌, length, map, reverse, refl, sym, ap, ◌∙◌}
use Rattle.level_terms.specs.declared.node.Change.{Change}
use Rattle.level_terms.specs.Graph.{Graph}
use Rattle.level_terms.specs.Growth.{Grows}
use Rattle.level_terms.specs.Reading.{read}
use Rattle.level_terms.specs.Sound.{IsSound}
use Rattle.ref_terms.specs.terms.Term.{Term}
use Rattle.ref_terms.specs.unification.Problem as problem
use Rattle.ref_terms.specs.unification.Problem.{Goes}
use Rattle.ref_terms.specs.unification.Bind.{inst_equation}
use Rattle.beta_fragment.specs.Names.{names}
use Rattle.level_terms.proofs.ReadLemmas.{valid-below}
use Rattle.pattern_unify.specs.declared.equation.Equation.{Equation}
use Rattle.ref_terms.specs.search.Branch.{bound}
use Rattle.pattern_unify.specs.Bound.{IsBound}
use Rattle.pattern_unify.specs.inside.Equations.{equation_at, equations_at, IsValidEquation, AllValidEquations}
use Rattle.pattern_unify.specs.inside.Turns.{GoesOn}
use Rattle.pattern_unify.proofs.EquationLemmas.{equations-same, equations_valid-kept}

map-after : (f : problem.Equation → problem.Equation) (k : Equation → problem.Equation) (work : List Equation) → map (λ e. f (k e)) work ≡ map f (map k work)
map-after f k [] = refl
map-after f k (e ∷ work) = ap (λ (ds : List problem.Equation). f (k e) ∷ ds) (map-after f k work)

-- a binding puts its value into equations
pub equation-bound : (g h : Graph) (v : ℕ) (u : Term) → IsBound g h v u → (e : Equation) → IsValidEquation g e → equation_at h e ≡ inst_equation v u (equation_at g e)
equation-bound g h v u b e k =
    let left = b e.left.index names (valid-below g e.left.index e.depth k.0) in
    let right = b e.right.index names (valid-below g e.right.index e.depth k.1) in
    λ i. record { names = e.depth; left = left i; right = right i }

pub equations-bound : (g h : Graph) (v : ℕ) (u : Term) → IsBound g h v u → (work : List Equation) → AllValidEquations g work → equations_at h work ≡ map (inst_equation v u) (equations_at g work)
equations-bound g h v u b work k =
    equations-same (equation_at h) (λ e. inst_equation v u (equation_at g e)) g work (equation-bound g h v u b) k
    ∙ map-after (inst_equation v u) (equation_at g) (reverse work)

-- the rules go on by a binding
pub goes-bound : (g h : Graph) (r s : List Change) (v : ℕ) (u : Term) (n : ℕ) (work : List Equation) (es : List problem.Equation) → IsSound g → Grows g h r s → IsBound g h v u → length h.depths ≡ n → AllValidEquations g work → equations_at g work ≡ es →
    GoesOn g h (λ bs. Goes (record { next_var = n; equations = map (inst_equation v u) es; bindings = record { variable = v; value = u } ∷ bs })) work
goes-bound g h r s v u n work es sound w b d k e =
    let same : map (inst_equation v u) es ≡ equations_at h work = ap (map (inst_equation v u)) (sym e) ∙ sym (equations-bound g h v u b work k) in
    let next : n ≡ length h.depths = sym d in
    record {
      made = record { variable = v; value = u } ∷ [];
      steps = λ bs i. Goes (record { next_var = next i; equations = same i; bindings = record { variable = v; value = u } ∷ bs });
      readings = b;
      valid = equations_valid-kept g h r s work sound w k;
    }

-- two bindings, one after the other
abbrev pub AreBound : (g h : Graph) (v w : ℕ) (a b : Term) → Type 0
AreBound g h v w a b = (t : ℕ) (env : ℕ → Term) → t < length g.nodes → read h t env ≡ bound (record { variable = w; value = b } ∷ record { variable = v; value = a } ∷ []) (read g t env)

equation-bound_twice : (g h : Graph) (v w : ℕ) (a b : Term) → AreBound g h v w a b → (e : Equation) → IsValidEquation g e → equation_at h e ≡ inst_equation w b (inst_equation v a (equation_at g e))
equation-bound_twice g h v w a b k e l =
    let left = k e.left.index names (valid-below g e.left.index e.depth l.0) in
    let right = k e.right.index names (valid-below g e.right.index e.depth l.1) in
    λ i. record { names = e.depth; left = left i; right = right i }

equations-bound_twice : (g h : Graph) (v w : ℕ) (a b : Term) → AreBound g h v w a b → (work : List Equation) → AllValidEquations g work → equations_at h work ≡ map (inst_equation w b) (map (inst_equation v a) (equations_at g work))
equations-bound_twice g h v w a b k work l =
    equations-same (equation_at h) (λ e. inst_equation w b (inst_equation v a (equation_at g e))) g work (equation-bound_twice g h v w a b k) l
    ∙ map-after (inst_equation w b) (λ e. inst_equation v a (equation_at g e)) (reverse work)
    ∙ ap (map (inst_equation w b)) (map-after (inst_equation v a) (equation_at g) (reverse work))

pub goes-bound_twice : (g h : Graph) (r s : List Change) (v w : ℕ) (a b : Term) (n : ℕ) (work : List Equation) → IsSound g → Grows g h r s → AreBound g h v w a b → length h.depths ≡ n → AllValidEquations g work →
    GoesOn g h (λ bs. Goes (record { next_var = n; equations = map (inst_equation w b) (map (inst_equation v a) (equations_at g work)); bindings = record { variable = w; value = b } ∷ record { variable = v; value = a } ∷ bs })) work
goes-bound_twice g h r s v w a b n work sound grown k d l =
    let same = sym (equations-bound_twice g h v w a b k work l) in
    let next : n ≡ length h.depths = sym d in
    record {
      made = record { variable = w; value = b } ∷ record { variable = v; value = a } ∷ [];
      steps = λ bs i. Goes (record { next_var = next i; equations = same i; bindings = record { variable = w; value = b } ∷ record { variable = v; value = a } ∷ bs });
      readings = k;
      valid = equations_valid-kept g h r s work sound grown l;
    }
