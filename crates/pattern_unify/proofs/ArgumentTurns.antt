-- A turn on two rigid heads leaves the equations of their arguments.
use Rattle.std.proofs.Common.{◌≡◌, ◌++◌, List, [], ◌∷◌, length, reverse, Bool, true, false, cond, ◌&&◌, nat_eq, eq-eqb, refl, sym, ap, ap₂, ◌∙◌, subst}
use Rattle.std.proofs.lemmas.List.{length-map}
use Rattle.level_terms.specs.declared.node.TermId.{TermId}
use Rattle.level_terms.specs.Graph.{Graph}
use Rattle.level_terms.specs.Reading.{read}
use Rattle.ref_terms.specs.terms.Term.{Head}
use Rattle.ref_terms.specs.unification.Problem as problem
use Rattle.ref_terms.specs.unification.Problem.{Binding, Problem, Step, Goes, Ends, Clashed}
use Rattle.ref_terms.specs.unification.Rules.{head_eq, equations_of, two_rigid}
use Rattle.beta_fragment.specs.Names.{names}
use Rattle.beta_fragment.specs.HeadForm.{all_read, AllValidAt}
use Rattle.pattern_unify.specs.declared.equation.Equation.{Equation}
use Rattle.pattern_unify.specs.inside.Equations.{equation_at, equations_at, problem_at, arguments_of, AllValidEquations}
use Rattle.pattern_unify.specs.inside.Turns.{GoesOn}
use Rattle.pattern_unify.proofs.EquationLemmas.{equations_valid-append, equations_valid-reverse, arguments-valid, arguments-at}

-- as many arguments
same-count : (g : Graph) (xs ys : List TermId) → length xs ≡ length ys → nat_eq (length (all_read g xs)) (length (all_read g ys)) ≡ true
same-count g xs ys e =
    eq-eqb (length (all_read g xs)) (length (all_read g ys)) (length-map xs (λ (t : TermId). read g t.index names) ∙ e ∙ sym (length-map ys (λ (t : TermId). read g t.index names)))

-- the equations of the arguments come before those that were there
pub arguments-turn : (g : Graph) (h k : Head) (e : Equation) (xs ys : List TermId) (work new : List Equation) → head_eq h k ≡ true → length xs ≡ length ys → new ≡ work ++ reverse (arguments_of e.depth xs ys) →
    AllValidEquations g work → AllValidAt g xs e.depth → AllValidAt g ys e.depth →
    GoesOn g g (λ bs. two_rigid h (all_read g xs) k (all_read g ys) (equation_at g e) (equations_at g work) (problem_at g (work ++ e ∷ []) bs)) new
arguments-turn g h k e xs ys work new q l n v x y = record {
  made = [];
  steps = λ bs.
      ap (λ (b : Bool). cond b (Goes (record { next_var = length g.depths; equations = equations_of e.depth (all_read g xs) (all_read g ys) ++ equations_at g work; bindings = bs })) (Ends (Clashed false))) (ap₂ ◌&&◌ q (same-count g xs ys l))
      ∙ ap (λ (es : List problem.Equation). Goes (record { next_var = length g.depths; equations = es; bindings = bs })) (sym (arguments-at g e.depth xs ys work) ∙ ap (equations_at g) (sym n));
  readings = λ t env h. refl;
  valid = subst (AllValidEquations g) (sym n) (equations_valid-append g work (reverse (arguments_of e.depth xs ys)) v (equations_valid-reverse g (arguments_of e.depth xs ys) (arguments-valid g e.depth xs ys x y)));
}
