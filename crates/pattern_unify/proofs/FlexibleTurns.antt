-- Turns that bind variables.
use Rattle.std.proofs.Common.{◌≡◌, ℕ, suc, ◌<◌, ◌++◌, List, [], ◌∷◌, length, map, nat_eq, cond, Bool, false, Option, Some, Result, Ok, Err, IfOk, refl, sym, ap, ap₂, ◌∙◌, subst, eq-eqb, ne_eqb, ◌≤◌, arith}
use Rattle.level_terms.specs.declared.node.Change.{Change}
use Rattle.level_terms.specs.Graph.{Graph}
use Rattle.level_terms.specs.Growth.{Grows}
use Rattle.level_terms.specs.Reading.{read}
use Rattle.level_terms.specs.Sound.{IsSound}
use Rattle.level_terms.specs.Valid.{IsValid}
use Rattle.level_terms.proofs.ValidLemmas.{growth_keeps_readings}
use Rattle.ref_terms.specs.terms.Term.{Term}
use Rattle.ref_terms.specs.terms.Instance.{inst}
use Rattle.ref_terms.specs.unification.Problem as problem
use Rattle.ref_terms.specs.unification.Problem.{Problem, Binding, Step, Goes, Ends, Clashed}
use Rattle.ref_terms.specs.unification.Closing.{close_all, keeping}
use Rattle.ref_terms.specs.unification.Pattern.{SpineName, of_name}
use Rattle.ref_terms.specs.unification.Positions.{agreeing, shared, positions_of, all_but}
use Rattle.ref_terms.specs.unification.Bind.{bind_fresh}
use Rattle.ref_terms.specs.unification.Offence.{Verdict, fine, dropped, offence}
use Rattle.ref_terms.specs.unification.Rules.{same_variable, two_variables, by_verdict, bind_to, flex_flex}
use Rattle.beta_fragment.specs.Names.{names}
use Rattle.level_terms.proofs.ReadLemmas.{valid-below}
use Rattle.pattern_unify.specs.declared.equation.Equation.{Equation}
use Rattle.pattern_unify.specs.declared.equation.Turn.{Turn}
use Rattle.level_terms.specs.declared.node.VarId.{VarId}
use Rattle.pattern_unify.specs.declared.offence.Verdict as verdict
use Rattle.pattern_unify.specs.declared.offence.Verdict.TheVariants.{Dropped}
use Rattle.pattern_unify.specs.Bound.{IsBound, LeavesOthers, LeavesFrozen}
use Rattle.pattern_unify.specs.inside.Verdicts.{DropsAssignable}
use Rattle.pattern_unify.specs.inside.Equations.{equation_at, equations_at, problem_at, IsValidEquation, AllValidEquations, ComesAgain}
use Rattle.pattern_unify.specs.inside.Turns.{GoesOn, IsTurn}
use Rattle.pattern_unify.proofs.BoundEquations.{goes-bound, goes-bound_twice}
use Rattle.pattern_unify.proofs.EquationLemmas.{equations-last, equations_valid-last, equations_valid-kept, equations-kept, first-kept}
use Rattle.pattern_unify.proofs.TurnLemmas.{goes-same, turn-same, seen-after}
use Rattle.pattern_unify.proofs.KeptLemmas.{grown-nodes, frozen-grown, frozen-trans}
use Rattle.pattern_unify.proofs.NamedSpines.{names-length, names-of_names}

-- the step on two variables with pattern spines, by tests that were made
abbrev pub pair_step : (v w : ℕ) → (ms ns : List SpineName) → List problem.Equation → Problem → (same even : Bool) → Step
pair_step v w ms ns es p same even =
    cond same (cond even (Goes (bind_fresh v (keeping (length ms) (agreeing 0 ms ns) p.next_var) es p)) (Ends (Clashed false))) (two_variables v w ms ns es p)

-- two variables become one
pub meets : (g h : Graph) (r s : List Change) (v w : ℕ) (xs ys : List ℕ) (work : List Equation) → IsSound g → Grows g h r s → nat_eq v w ≡ false →
    ((t : ℕ) (env : ℕ → Term) → t < length g.nodes → read h t env ≡ inst w (keeping (length ys) (positions_of 0 (map of_name xs) (map of_name ys)) (length g.depths)) (inst v (keeping (length xs) (shared 0 (map of_name xs) (map of_name ys)) (length g.depths)) (read g t env))) →
    length h.depths ≡ suc (length g.depths) → AllValidEquations g work →
    GoesOn g h (λ bs. cond (nat_eq v w) (same_variable v (map of_name xs) (map of_name ys) (equations_at g work) (problem_at g work bs)) (two_variables v w (map of_name xs) (map of_name ys) (equations_at g work) (problem_at g work bs))) work
meets g h r s v w xs ys work sound grown ne k d l =
    let ms = map of_name xs in
    let ns = map of_name ys in
    goes-same g h (λ bs. pair_step v w ms ns (equations_at g work) (problem_at g work bs) (nat_eq v w) (nat_eq (length ms) (length ns))) (λ bs. two_variables v w ms ns (equations_at g work) (problem_at g work bs)) work
    (λ bs. ap (λ b. pair_step v w ms ns (equations_at g work) (problem_at g work bs) b (nat_eq (length ms) (length ns))) ne)
    (goes-bound_twice g h r s v w (keeping (length ms) (shared 0 ms ns) (length g.depths)) (keeping (length ns) (positions_of 0 ms ns) (length g.depths)) (suc (length g.depths)) work sound grown
    (λ t env b. k t env b ∙ ap₂ (λ (i j : ℕ). inst w (keeping j (positions_of 0 ms ns) (length g.depths)) (inst v (keeping i (shared 0 ms ns) (length g.depths)) (read g t env))) (sym (names-length xs)) (sym (names-length ys))) d l)

-- one variable keeps some positions
pub keeps : (g h : Graph) (r s : List Change) (v w : ℕ) (xs ys : List ℕ) (work : List Equation) → IsSound g → Grows g h r s → v ≡ w → length xs ≡ length ys →
    IsBound g h v (keeping (length xs) (agreeing 0 (map of_name xs) (map of_name ys)) (length g.depths)) →
    length h.depths ≡ suc (length g.depths) → AllValidEquations g work →
    GoesOn g h (λ bs. cond (nat_eq v w) (same_variable v (map of_name xs) (map of_name ys) (equations_at g work) (problem_at g work bs)) (two_variables v w (map of_name xs) (map of_name ys) (equations_at g work) (problem_at g work bs))) work
keeps g h r s v w xs ys work sound grown same even k d l =
    let ms = map of_name xs in
    let ns = map of_name ys in
    let u = keeping (length ms) (agreeing 0 ms ns) (length g.depths) in
    goes-same g h (λ bs. pair_step v w ms ns (equations_at g work) (problem_at g work bs) (nat_eq v w) (nat_eq (length ms) (length ns))) (λ bs. Goes (bind_fresh v u (equations_at g work) (problem_at g work bs))) work
    (λ bs. ap₂ (λ (a b : Bool). pair_step v w ms ns (equations_at g work) (problem_at g work bs) a b) (eq-eqb v w same) (eq-eqb (length ms) (length ns) (names-length xs ∙ even ∙ sym (names-length ys))))
    (goes-bound g h r s v u (suc (length g.depths)) work (equations_at g work) sound grown
    (λ t env b. k t env b ∙ ap (λ (i : ℕ). inst v (keeping i (agreeing 0 ms ns) (length g.depths)) (read g t env)) (sym (names-length xs))) d l refl)

-- where nothing offends the variable is bound
pub binds : (g h : Graph) (r s : List Change) (v : ℕ) (ns : List ℕ) (t : Term) (work : List Equation) (e : Equation) (w : Verdict) → IsSound g → Grows g h r s → w ≡ fine → IsBound g h v (close_all ns t) → h.depths ≡ g.depths → AllValidEquations g work →
    GoesOn g h (λ bs. by_verdict v ns t (equation_at g e) (equations_at g work) (problem_at g (work ++ e ∷ []) bs) w) work
binds g h r s v ns t work e w sound grown q b d l =
    goes-same g h (λ bs. by_verdict v ns t (equation_at g e) (equations_at g work) (problem_at g (work ++ e ∷ []) bs) w) (λ bs. by_verdict v ns t (equation_at g e) (equations_at g work) (problem_at g (work ++ e ∷ []) bs) fine) work
    (λ bs. ap (by_verdict v ns t (equation_at g e) (equations_at g work) (problem_at g (work ++ e ∷ []) bs)) q)
    (goes-bound g h r s v (close_all ns t) (length g.depths) work (equations_at g work) sound grown b (ap length d) l refl)

-- where a foreign name stands in another variable's spine, that one loses the position, and the equation comes again
pub drops : (g h : Graph) (r s : List Change) (v : ℕ) (ns : List ℕ) (t : Term) (work more : List Equation) (e : Equation) (w : Verdict) (y i n : ℕ) → IsSound g → Grows g h r s → w ≡ dropped y i n → IsBound g h y (keeping n (all_but i n) (length g.depths)) → length h.depths ≡ suc (length g.depths) →
    AllValidEquations g work → IsValidEquation g e → more ≡ work ++ e ∷ [] →
    GoesOn g h (λ bs. by_verdict v ns t (equation_at g e) (equations_at g work) (problem_at g (work ++ e ∷ []) bs) w) more
drops g h r s v ns t work more e w y i n sound grown q b d l k f =
    goes-same g h (λ bs. by_verdict v ns t (equation_at g e) (equations_at g work) (problem_at g (work ++ e ∷ []) bs) w) (λ bs. by_verdict v ns t (equation_at g e) (equations_at g work) (problem_at g (work ++ e ∷ []) bs) (dropped y i n)) more
    (λ bs. ap (by_verdict v ns t (equation_at g e) (equations_at g work) (problem_at g (work ++ e ∷ []) bs)) q)
    (goes-bound g h r s y (keeping n (all_but i n) (length g.depths)) (suc (length g.depths)) more (equation_at g e ∷ equations_at g work) sound grown b d
    (subst (AllValidEquations g) (sym f) (equations_valid-last g work e l k))
    (ap (equations_at g) f ∙ equations-last g work e))

-- the same where an equation that means the same comes in its place
pub drops-again : (g h k : Graph) (r s : List Change) (step : List Binding → Step) (work later : List Equation) (e : Equation) → IsSound g → IsSound h → Grows g h r s → Grows h k [] [] → AllValidEquations g work → ComesAgain h k e work later →
    GoesOn g h step (work ++ e ∷ []) → GoesOn g k step later
drops-again g h k r s step work later e sound sound' w x l a goes =
    let kept = equations_valid-kept g h r s work sound w l in
    let equations : equations_at h (work ++ e ∷ []) ≡ equations_at k later =
    equations-last h work e ∙ ap₂ (λ (d : problem.Equation) (ds : List problem.Equation). d ∷ ds) (sym a.same.same) (sym (equations-kept h k work sound' x kept)) ∙ sym (ap (equations_at k) a.pushed ∙ equations-last k work a.next) in
    record {
      made = goes.made;
      steps = λ bs. goes.steps bs ∙ ap₂ (λ (q : ℕ) (es : List problem.Equation). Goes (record { next_var = q; equations = es; bindings = goes.made ++ bs })) (sym (ap length a.variables)) equations;
      readings = λ t env b. growth_keeps_readings h k t env sound' x (let more = grown-nodes g h r s w in omega (arith, b, more)) ∙ goes.readings t env b;
      valid = subst (AllValidEquations k) (sym a.pushed) (equations_valid-last k work a.next (equations_valid-kept h k [] [] work sound' x kept) a.same.valid);
    }

-- no frozen variable gets a value where an assignable one loses a position
pub frozen-dropped : (g h k : Graph) (m : ℕ) (r : verdict.Verdict) (y : VarId) (i n : ℕ) → r ≡ Dropped y i n → DropsAssignable g m r → LeavesOthers y.index g h → Grows h k [] [] → LeavesFrozen m g k
frozen-dropped g h k m r y i n q d others w =
    let low : m ≤ y.index = (subst (DropsAssignable g m) q d).1 in
    frozen-trans g h k m (λ v l. others v (ne_eqb y.index v (omega (arith, l, low)))) (frozen-grown h k m w)

-- a turn whose step looks at a term, at the first equation and at the others
abbrev pub TurnBy : (F : Term → problem.Equation → List problem.Equation → Problem → Step) → (g new : Graph) → (t : ℕ) → Equation → (work left : List Equation) → Turn → Type 0
TurnBy F g new t e work left r = IsTurn g new (λ bs. F (read g t names) (equation_at g e) (equations_at g work) (problem_at g (work ++ e ∷ []) bs)) left r

-- after a call that assigns nothing and makes no variable it is the turn of the same step
pub turns-later : (F K : Term → problem.Equation → List problem.Equation → Problem → Step) (g h new : Graph) (t depth : ℕ) (e : Equation) (work left : List Equation) {E : Type 0} (o : Result Turn E) → IsSound g → Grows g h [] [] → h.depths ≡ g.depths → IsValid g t depth → IsValidEquation g e → AllValidEquations g work →
    ((d : problem.Equation) (es : List problem.Equation) (p : Problem) → K (read g t names) d es p ≡ F (read g t names) d es p) → IfOk o (TurnBy F h new t e work left) → IfOk o (TurnBy K g new t e work left)
turns-later F K g h new t depth e work left o sound w d v k l same a =
    seen-after g h new (λ bs. K (read g t names) (equation_at g e) (equations_at g work) (problem_at g (work ++ e ∷ []) bs)) (λ bs. F (read h t names) (equation_at h e) (equations_at h work) (problem_at h (work ++ e ∷ []) bs)) left o sound w
    (λ bs. same (equation_at g e) (equations_at g work) (problem_at g (work ++ e ∷ []) bs)
    ∙ sym (first-kept (F (read g t names)) g h e work bs sound w d k l)
    ∙ ap (λ (u : Term). F u (equation_at h e) (equations_at h work) (problem_at h (work ++ e ∷ []) bs)) (sym (growth_keeps_readings g h t names sound w (valid-below g t depth v))))
    a

-- by the verdict on the term
pub turns-judged : (g h new : Graph) (m v : ℕ) (o : Option (List SpineName)) (ns : List ℕ) (w : Verdict) (t depth : ℕ) (e : Equation) (work left : List Equation) {E : Type 0} (a : Result Turn E) → IsSound g → Grows g h [] [] → h.depths ≡ g.depths → IsValid g t depth → IsValidEquation g e → AllValidEquations g work →
    o ≡ Some (map of_name ns) → w ≡ offence m v ns false (read g t names) → IfOk a (TurnBy (λ u d es p. by_verdict v ns u d es p w) h new t e work left) → IfOk a (TurnBy (λ u d es p. bind_to m v o u d es p) g new t e work left)
turns-judged g h new m v o ns w t depth e work left a sound grown d k l n q f =
    turns-later (λ u d es p. by_verdict v ns u d es p w) (λ u d es p. bind_to m v o u d es p) g h new t depth e work left a sound grown d k l n
    (λ d es p. ap (λ z. bind_to m v z (read g t names) d es p) q
    ∙ ap (λ (ms : List ℕ). by_verdict v ms (read g t names) d es p (offence m v ms false (read g t names))) (names-of_names ns)
    ∙ ap (by_verdict v ns (read g t names) d es p) (sym f))

-- two variables with pattern spines
abbrev pub PairTurn : (g new : Graph) → (v w : ℕ) → (ms ns : List SpineName) → List Equation → Turn → Type 0
PairTurn g new v w ms ns work r = IsTurn g new (λ bs. cond (nat_eq v w) (same_variable v ms ns (equations_at g work) (problem_at g work bs)) (two_variables v w ms ns (equations_at g work) (problem_at g work bs))) work r

pub turns-paired : (g new : Graph) (m v w : ℕ) (o q : Option (List SpineName)) (ms ns : List SpineName) (e : Equation) (work items : List Equation) {E : Type 0} (a : Result Turn E) → o ≡ Some ms → q ≡ Some ns → items ≡ work →
    IfOk a (PairTurn g new v w ms ns items) → IfOk a (λ r. IsTurn g new (λ bs. flex_flex m v w o q (equation_at g e) (equations_at g work) (problem_at g (work ++ e ∷ []) bs)) work r)
turns-paired g new m v w o q ms ns e work items (Ok r) c d f k =
    turn-same g new (λ bs. flex_flex m v w o q (equation_at g e) (equations_at g work) (problem_at g (work ++ e ∷ []) bs))
    (λ bs. cond (nat_eq v w) (same_variable v ms ns (equations_at g work) (problem_at g work bs)) (two_variables v w ms ns (equations_at g work) (problem_at g work bs))) work r
    (λ bs. ap₂ (λ (x y : Option (List SpineName)). flex_flex m v w x y (equation_at g e) (equations_at g work) (problem_at g (work ++ e ∷ []) bs)) c d)
    (subst (λ (z : List Equation). PairTurn g new v w ms ns z r) f k)
turns-paired g new m v w o q ms ns e work items (Err z) c d f k = tt

-- a turn by a verdict, whatever the variable, the names and the term
pub turns-each : (g new : Graph) (v : ℕ) (ns : List ℕ) (t : Term) (w : Verdict) (e : Equation) (work left : List Equation) {E : Type 0} (a : Result Turn E) →
    IfOk a (λ r. (x : ℕ) (ms : List ℕ) (u : Term) → IsTurn g new (λ bs. by_verdict x ms u (equation_at g e) (equations_at g work) (problem_at g (work ++ e ∷ []) bs) w) left r) →
    IfOk a (λ r. IsTurn g new (λ bs. by_verdict v ns t (equation_at g e) (equations_at g work) (problem_at g (work ++ e ∷ []) bs) w) left r)
turns-each g new v ns t w e work left (Ok r) k = k v ns t
turns-each g new v ns t w e work left (Err x) k = tt
