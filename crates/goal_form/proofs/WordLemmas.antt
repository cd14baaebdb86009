-- Reserved names with arguments of another number than a goal of them has.
use Rattle.std.proofs.Common.{◌≡◌, List, [], ◌∷◌, refl}
use Rattle.ref_terms.specs.terms.Term.{Term}
use Rattle.ref_terms.specs.search.Formula as formula
use Rattle.ref_terms.specs.search.Formula.{reserved_goal}
use Rattle.ref_terms.specs.declared.reserved.Reserved.{Reserved}
use Rattle.ref_terms.specs.declared.reserved.Reserved.TheVariants.{True, Fail, Cut, And, Or, Implies, If, Pi, Sigma, Equal, Same, Var, Name, Is, Less, Print, Beta, Suspend, Nil, Cons, Plus, Minus, Times, Nonvar, Distinct}
use Rattle.goal_form.specs.Builtins.{IsNoBuiltin}
use Rattle.goal_form.specs.Kinds.{misfit_of}
use Rattle.goal_form.specs.declared.builtin.Builtin.TheVariants as builtin

-- with one argument
pub misfit-of_one : (w : Reserved) (a : Term) → IsNoBuiltin w → (w ≡ Pi → ⊥) → (w ≡ Sigma → ⊥) → formula.Wrong (misfit_of w) ≡ reserved_goal w (a ∷ [])
misfit-of_one True a n h0 h1 = refl
misfit-of_one Fail a n h0 h1 = refl
misfit-of_one Cut a n h0 h1 = refl
misfit-of_one And a n h0 h1 = refl
misfit-of_one Or a n h0 h1 = refl
misfit-of_one Implies a n h0 h1 = refl
misfit-of_one If a n h0 h1 = refl
misfit-of_one Pi a n h0 h1 = absurd (h0 refl)
misfit-of_one Sigma a n h0 h1 = absurd (h1 refl)
misfit-of_one Equal a n h0 h1 = refl
misfit-of_one Same a n h0 h1 = refl
misfit-of_one Var a n h0 h1 = absurd (n builtin.Var refl)
misfit-of_one Name a n h0 h1 = absurd (n builtin.Name refl)
misfit-of_one Is a n h0 h1 = refl
misfit-of_one Less a n h0 h1 = refl
misfit-of_one Print a n h0 h1 = absurd (n builtin.Print refl)
misfit-of_one Beta a n h0 h1 = refl
misfit-of_one Suspend a n h0 h1 = refl
misfit-of_one Nil a n h0 h1 = refl
misfit-of_one Cons a n h0 h1 = refl
misfit-of_one Plus a n h0 h1 = refl
misfit-of_one Minus a n h0 h1 = refl
misfit-of_one Times a n h0 h1 = refl
misfit-of_one Nonvar a n h0 h1 = refl
misfit-of_one Distinct a n h0 h1 = refl

-- with two arguments
pub misfit-of_two : (w : Reserved) (a b : Term) → IsNoBuiltin w → (w ≡ And → ⊥) → (w ≡ Or → ⊥) → (w ≡ Implies → ⊥) → (w ≡ If → ⊥) → (w ≡ Suspend → ⊥) → formula.Wrong (misfit_of w) ≡ reserved_goal w (a ∷ b ∷ [])
misfit-of_two True a b n h0 h1 h2 h3 h4 = refl
misfit-of_two Fail a b n h0 h1 h2 h3 h4 = refl
misfit-of_two Cut a b n h0 h1 h2 h3 h4 = refl
misfit-of_two And a b n h0 h1 h2 h3 h4 = absurd (h0 refl)
misfit-of_two Or a b n h0 h1 h2 h3 h4 = absurd (h1 refl)
misfit-of_two Implies a b n h0 h1 h2 h3 h4 = absurd (h2 refl)
misfit-of_two If a b n h0 h1 h2 h3 h4 = absurd (h3 refl)
misfit-of_two Pi a b n h0 h1 h2 h3 h4 = refl
misfit-of_two Sigma a b n h0 h1 h2 h3 h4 = refl
misfit-of_two Equal a b n h0 h1 h2 h3 h4 = absurd (n builtin.Equal refl)
misfit-of_two Same a b n h0 h1 h2 h3 h4 = absurd (n builtin.Same refl)
misfit-of_two Var a b n h0 h1 h2 h3 h4 = refl
misfit-of_two Name a b n h0 h1 h2 h3 h4 = refl
misfit-of_two Is a b n h0 h1 h2 h3 h4 = absurd (n builtin.Is refl)
misfit-of_two Less a b n h0 h1 h2 h3 h4 = absurd (n builtin.Less refl)
misfit-of_two Print a b n h0 h1 h2 h3 h4 = refl
misfit-of_two Beta a b n h0 h1 h2 h3 h4 = refl
misfit-of_two Suspend a b n h0 h1 h2 h3 h4 = absurd (h4 refl)
misfit-of_two Nil a b n h0 h1 h2 h3 h4 = refl
misfit-of_two Cons a b n h0 h1 h2 h3 h4 = refl
misfit-of_two Plus a b n h0 h1 h2 h3 h4 = refl
misfit-of_two Minus a b n h0 h1 h2 h3 h4 = refl
misfit-of_two Times a b n h0 h1 h2 h3 h4 = refl
misfit-of_two Nonvar a b n h0 h1 h2 h3 h4 = refl
misfit-of_two Distinct a b n h0 h1 h2 h3 h4 = refl

-- with more arguments
pub misfit-of_more : (w : Reserved) (a b c : Term) (ts : List Term) → IsNoBuiltin w → formula.Wrong (misfit_of w) ≡ reserved_goal w (a ∷ b ∷ c ∷ ts)
misfit-of_more True a b c ts n = refl
misfit-of_more Fail a b c ts n = refl
misfit-of_more Cut a b c ts n = refl
misfit-of_more And a b c ts n = refl
misfit-of_more Or a b c ts n = refl
misfit-of_more Implies a b c ts n = refl
misfit-of_more If a b c ts n = refl
misfit-of_more Pi a b c ts n = refl
misfit-of_more Sigma a b c ts n = refl
misfit-of_more Equal a b c ts n = refl
misfit-of_more Same a b c ts n = refl
misfit-of_more Var a b c ts n = refl
misfit-of_more Name a b c ts n = refl
misfit-of_more Is a b c ts n = refl
misfit-of_more Less a b c ts n = refl
misfit-of_more Print a b c ts n = refl
misfit-of_more Beta a b c ts n = absurd (n builtin.Beta refl)
misfit-of_more Suspend a b c ts n = refl
misfit-of_more Nil a b c ts n = refl
misfit-of_more Cons a b c ts n = refl
misfit-of_more Plus a b c ts n = refl
misfit-of_more Minus a b c ts n = refl
misfit-of_more Times a b c ts n = refl
misfit-of_more Nonvar a b c ts n = refl
misfit-of_more Distinct a b c ts n = refl
