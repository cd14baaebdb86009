-- What compiling needs of a checked program, and what has been put of its predicates.
use Rattle.std.specs.Prelude.{◌≡◌, ℕ, false, List, [], ◌∷◌, Option, IfSome}
use Rattle.lp_resolve.specs.declared.program.ClauseTree.{ClauseTree}
use Rattle.lp_resolve.specs.declared.program.Pred.{Pred}
use Rattle.lp_resolve.specs.StaticRules.{lacks_constant}
use Rattle.lp_resolve.specs.Trees.{as_term, IsWithin}
use Rattle.lp_resolve.specs.Preds.{pred_at}
use Rattle.lp_resolve.specs.Laws.{or_else}

-- each clause's head has a constant
abbrev pub AllHeaded : List ClauseTree → Type 0
AllHeaded [] = Unit {0}
AllHeaded (c ∷ cs) = (lacks_constant c.head ≡ false) × AllHeaded cs

-- a clause over its own variables, whose head has a constant
pub record IsClauseFit (c : ClauseTree) : Type 0 where
  pub headed : lacks_constant c.head ≡ false
  pub head : IsWithin c.vars 0 (as_term c.head)
  pub body : IfSome c.body (λ t. IsWithin c.vars 0 (as_term t))

-- the list has for each symbol what the old one had, or else this
abbrev pub MadeOf : (old new : List (ℕ × Pred)) → (ℕ → Option Pred) → Type 0
MadeOf old new more = (s : ℕ) → pred_at s new ≡ or_else (pred_at s old) (more s)
