-- The equations that are still to be solved.
use Rattle.std.proofs.Common.{◌≡◌, ℕ, zero, suc, ◌<◌, ◌++◌, List, [], ◌∷◌, length, map, reverse, drop, get_or, refl, sym, ap, ap₂, ◌∙◌, arith, subst, append_assoc}
use Rattle.std.proofs.lemmas.List.{reverse-append, reverse-reverse, map-append}
use Rattle.level_terms.specs.declared.node.TermId.{TermId}
use Rattle.level_terms.specs.declared.node.Change.{Change}
use Rattle.level_terms.specs.Graph.{Graph}
use Rattle.level_terms.specs.Growth.{Grows}
use Rattle.level_terms.specs.Sound.{IsSound}
use Rattle.level_terms.specs.Reading.{read}
use Rattle.level_terms.specs.Valid.{IsValid}
use Rattle.level_terms.proofs.ValidLemmas.{growth_keeps_readings, growth_keeps_valid}
use Rattle.ref_terms.specs.terms.Term.{Term}
use Rattle.ref_terms.specs.unification.Problem as problem
use Rattle.ref_terms.specs.unification.Problem.{Problem, Binding, Step}
use Rattle.ref_terms.specs.unification.Rules.{equations_of}
use Rattle.beta_fragment.specs.Names.{names}
use Rattle.beta_fragment.specs.HeadForm.{all_read, AllValidAt}
use Rattle.level_terms.proofs.ReadLemmas.{valid-below}
use Rattle.pattern_unify.specs.declared.equation.Equation.{Equation}
use Rattle.pattern_unify.specs.inside.Equations.{equation_at, equations_at, problem_at, arguments_of, IsValidEquation, AllValidEquations, IsSameEquation}

-- the equation that was put last is the first one
pub equations-last : (g : Graph) (work : List Equation) (e : Equation) → equations_at g (work ++ e ∷ []) ≡ equation_at g e ∷ equations_at g work
equations-last g work e = ap (map (equation_at g)) (reverse-append work (e ∷ []))

-- equations that were put after others stand before them
pub equations-append : (g : Graph) (work more : List Equation) → equations_at g (work ++ more) ≡ equations_at g more ++ equations_at g work
equations-append g work more = ap (map (equation_at g)) (reverse-append work more) ∙ map-append (equation_at g) (reverse more) (reverse work)

-- one list of valid equations after another
pub equations_valid-append : (g : Graph) (work more : List Equation) → AllValidEquations g work → AllValidEquations g more → AllValidEquations g (work ++ more)
equations_valid-append g [] more v w = w
equations_valid-append g (e ∷ work) more v w = (v.0, equations_valid-append g work more v.1 w)

pub equations_valid-reverse : (g : Graph) (work : List Equation) → AllValidEquations g work → AllValidEquations g (reverse work)
equations_valid-reverse g [] v = tt
equations_valid-reverse g (e ∷ work) v = subst (AllValidEquations g) (sym (reverse-append (e ∷ []) work)) (equations_valid-append g (reverse work) (e ∷ []) (equations_valid-reverse g work v.1) (v.0, tt))

-- one more valid equation
pub equations_valid-last : (g : Graph) (work : List Equation) (e : Equation) → AllValidEquations g work → IsValidEquation g e → AllValidEquations g (work ++ e ∷ [])
equations_valid-last g work e v k = equations_valid-append g work (e ∷ []) v (k, tt)

-- the equation that is taken from the work, and what is left
valid-end : (g : Graph) (work : List Equation) (e : Equation) → AllValidEquations g (work ++ e ∷ []) → IsValidEquation g e
valid-end g [] e v = v.0
valid-end g (d ∷ work) e v = valid-end g work e v.1

valid-front : (g : Graph) (work : List Equation) (e : Equation) → AllValidEquations g (work ++ e ∷ []) → AllValidEquations g work
valid-front g [] e v = tt
valid-front g (d ∷ work) e v = (v.0, valid-front g work e v.1)

pub taken-valid : (g : Graph) (work rest : List Equation) (e : Equation) → work ≡ rest ++ e ∷ [] → AllValidEquations g work → IsValidEquation g e
taken-valid g work rest e q v = valid-end g rest e (subst (AllValidEquations g) q v)

pub left-valid : (g : Graph) (work rest : List Equation) (e : Equation) → work ≡ rest ++ e ∷ [] → AllValidEquations g work → AllValidEquations g rest
left-valid g work rest e q v = valid-front g rest e (subst (AllValidEquations g) q v)

-- what is the same for each valid equation is the same for all
maps-same : (f k : Equation → problem.Equation) (g : Graph) (work : List Equation) → ((e : Equation) → IsValidEquation g e → f e ≡ k e) → AllValidEquations g work → map f work ≡ map k work
maps-same f k g [] same v = refl
maps-same f k g (e ∷ work) same v = ap₂ (λ (x : problem.Equation) (xs : List problem.Equation). x ∷ xs) (same e v.0) (maps-same f k g work same v.1)

pub equations-same : (f k : Equation → problem.Equation) (g : Graph) (work : List Equation) → ((e : Equation) → IsValidEquation g e → f e ≡ k e) → AllValidEquations g work → map f (reverse work) ≡ map k (reverse work)
equations-same f k g work same v = maps-same f k g (reverse work) same (equations_valid-reverse g work v)

-- a call that assigns nothing leaves an equation
pub equation-kept : (g h : Graph) (e : Equation) → IsSound g → Grows g h [] [] → IsValidEquation g e → equation_at h e ≡ equation_at g e
equation-kept g h e s w v =
    ap₂ (λ (l r : Term). record { names = e.depth; left = l; right = r })
    (growth_keeps_readings g h e.left.index names s w (valid-below g e.left.index e.depth v.0))
    (growth_keeps_readings g h e.right.index names s w (valid-below g e.right.index e.depth v.1))

-- it leaves those that are left
pub equations-kept : (g h : Graph) (work : List Equation) → IsSound g → Grows g h [] [] → AllValidEquations g work → equations_at h work ≡ equations_at g work
equations-kept g h work s w v = equations-same (equation_at h) (equation_at g) g work (λ e k. equation-kept g h e s w k) v

-- with no new variable, it leaves the problem
pub problem-kept : (g h : Graph) (work : List Equation) (bs : List Binding) → IsSound g → Grows g h [] [] → h.depths ≡ g.depths → AllValidEquations g work → problem_at h work bs ≡ problem_at g work bs
problem-kept g h work bs s w d v =
    ap₂ (λ (q : ℕ) (es : List problem.Equation). record { next_var = q; equations = es; bindings = bs }) (ap length d) (equations-kept g h work s w v)

-- so what hangs on the first equation, on the others and on the problem is the same
pub first-kept : (F : problem.Equation → List problem.Equation → Problem → Step) (g h : Graph) (e : Equation) (work : List Equation) (bs : List Binding) → IsSound g → Grows g h [] [] → h.depths ≡ g.depths → IsValidEquation g e → AllValidEquations g work →
    F (equation_at h e) (equations_at h work) (problem_at h (work ++ e ∷ []) bs) ≡ F (equation_at g e) (equations_at g work) (problem_at g (work ++ e ∷ []) bs)
first-kept F g h e work bs s w d k v =
    ap₂ (λ (x : problem.Equation) (xs : List problem.Equation). F x xs (problem_at h (work ++ e ∷ []) bs)) (equation-kept g h e s w k) (equations-kept g h work s w v)
    ∙ ap (F (equation_at g e) (equations_at g work)) (problem-kept g h (work ++ e ∷ []) bs s w d (equations_valid-last g work e v k))

-- whatever a call may change leaves equations valid
pub equation_valid-kept : (g h : Graph) (r s : List Change) (e : Equation) → IsSound g → Grows g h r s → IsValidEquation g e → IsValidEquation h e
equation_valid-kept g h r s e sound w v =
    (growth_keeps_valid g h r s e.left.index e.depth sound w (valid-below g e.left.index e.depth v.0) v.0, growth_keeps_valid g h r s e.right.index e.depth sound w (valid-below g e.right.index e.depth v.1) v.1)

pub equations_valid-kept : (g h : Graph) (r s : List Change) (work : List Equation) → IsSound g → Grows g h r s → AllValidEquations g work → AllValidEquations h work
equations_valid-kept g h r s [] sound w v = tt
equations_valid-kept g h r s (e ∷ work) sound w v = (equation_valid-kept g h r s e sound w v.0, equations_valid-kept g h r s work sound w v.1)

-- an equation whose sides were made anew under the same depth, one after the other
pub equation-renewed : (f g h : Graph) (e r : Equation) → IsSound f → IsSound g → Grows f g [] [] → Grows g h [] [] → IsValidEquation f e → read g r.left.index names ≡ read f e.left.index names → IsValid g r.left.index e.depth →
    read h r.right.index names ≡ read g e.right.index names → IsValid h r.right.index e.depth → IsSameEquation f h e (record { left = r.left; right = r.right; depth = e.depth })
equation-renewed f g h e r sound sound' w x v l p q k =
    let there = valid-below g r.left.index e.depth p in
    let left : read h r.left.index names ≡ read f e.left.index names = growth_keeps_readings g h r.left.index names sound' x there ∙ l in
    let right : read h r.right.index names ≡ read f e.right.index names = q ∙ growth_keeps_readings f g e.right.index names sound w (valid-below f e.right.index e.depth v.1) in
    record {
      same = λ i. record { names = e.depth; left = left i; right = right i };
      valid = (growth_keeps_valid g h [] [] r.left.index e.depth sound' x there p, k);
    }

-- the equations of arguments
pub arguments-valid : (g : Graph) (d : ℕ) (xs ys : List TermId) → AllValidAt g xs d → AllValidAt g ys d → AllValidEquations g (arguments_of d xs ys)
arguments-valid g d [] ys v w = tt
arguments-valid g d (x ∷ xs) [] v w = tt
arguments-valid g d (x ∷ xs) (y ∷ ys) v w = ((v.0, w.0), arguments-valid g d xs ys v.1 w.1)

arguments-map : (g : Graph) (d : ℕ) (xs ys : List TermId) → map (equation_at g) (arguments_of d xs ys) ≡ equations_of d (all_read g xs) (all_read g ys)
arguments-map g d [] ys = refl
arguments-map g d (x ∷ xs) [] = refl
arguments-map g d (x ∷ xs) (y ∷ ys) = ap (λ (es : List problem.Equation). equation_at g (record { left = x; right = y; depth = d }) ∷ es) (arguments-map g d xs ys)

pub arguments-at : (g : Graph) (d : ℕ) (xs ys : List TermId) (work : List Equation) → equations_at g (work ++ reverse (arguments_of d xs ys)) ≡ equations_of d (all_read g xs) (all_read g ys) ++ equations_at g work
arguments-at g d xs ys work =
    equations-append g work (reverse (arguments_of d xs ys))
    ∙ ap (λ (es : List Equation). map (equation_at g) es ++ equations_at g work) (reverse-reverse (arguments_of d xs ys))
    ∙ ap (λ (es : List problem.Equation). es ++ equations_at g work) (arguments-map g d xs ys)

-- those from an index on
pub arguments-all : (d : ℕ) (xs ys : List TermId) → drop (length xs) (arguments_of d xs ys) ≡ []
arguments-all d [] ys = refl
arguments-all d (x ∷ xs) [] = refl
arguments-all d (x ∷ xs) (y ∷ ys) = arguments-all d xs ys

pub arguments-one : (d : ℕ) (xs ys : List TermId) (i : ℕ) (z z' : TermId) → i < length xs → i < length ys → drop i (arguments_of d xs ys) ≡ record { left = get_or xs i z; right = get_or ys i z'; depth = d } ∷ drop (suc i) (arguments_of d xs ys)
arguments-one d [] ys i z z' h k = absurd (omega (arith, h))
arguments-one d (x ∷ xs) [] i z z' h k = absurd (omega (arith, k))
arguments-one d (x ∷ xs) (y ∷ ys) zero z z' h k = refl
arguments-one d (x ∷ xs) (y ∷ ys) (suc i) z z' h k = arguments-one d xs ys i z z' (omega (arith, h)) (omega (arith, k))

pub arguments-step : (old work new rest : List Equation) (e : Equation) (all : List Equation) → work ≡ old ++ reverse rest → new ≡ work ++ e ∷ [] → all ≡ e ∷ rest → new ≡ old ++ reverse all
arguments-step old work new rest e all h q k =
    q ∙ ap (λ (ws : List Equation). ws ++ e ∷ []) h ∙ append_assoc old (reverse rest) (e ∷ [])
    ∙ ap (λ (ws : List Equation). old ++ ws) (sym (reverse-append (e ∷ []) rest) ∙ ap reverse (sym k))
