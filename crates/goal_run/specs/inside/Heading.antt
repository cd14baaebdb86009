-- The first line of an answer block.
use Rattle.std.specs.Prelude.{◌≡◌, ℕ, List, [], ◌∷◌, ◌++◌, codes, decimal}
use Rattle.lp_resolve.specs.declared.query.QueryVar.{QueryVar}
use Rattle.goal_run.specs.declared.page.Page.{Page}

-- the line of the answer with this number
abbrev pub heading : ℕ → List ℕ
heading number = codes "answer " ++ decimal number ++ 10 ∷ []

-- a page over these texts and variables that has this line alone
pub record HasHeading (table : List (List ℕ)) (variables : List QueryVar) (number : ℕ) (p : Page) : Type 0 where
  pub of_symbols : p.symbols.now ≡ table
  pub of_variables : p.variables.now ≡ variables
  pub unseen : p.namer ≡ []
  pub text : p.text ≡ heading number
