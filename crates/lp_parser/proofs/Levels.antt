-- The table of operators.
use Rattle.std.proofs.Common.{◌≡◌, ℕ, ◌≤◌, List, [], ◌∷◌, arith, true, refl}
use Rattle.lp_parser.specs.declared.ast.Operator.{Operator}
use Rattle.lp_parser.specs.declared.ast.Operator.TheVariants.{Implied, Or, Comma, Implies, Equal, Is, Cons, Plus, Minus, Times}
use Rattle.lp_parser.specs.declared.state.Frame.{Frame}
use Rattle.lp_parser.specs.declared.state.Frame.TheVariants as frame
use Rattle.lp_parser.specs.Grammar.{level, left_level, right_level}
use Rattle.lp_parser.specs.inside.TermMachine.{may_be_open}

-- the level of a phrase that is awaited
abbrev pub wanted : List Frame → ℕ
wanted [] = 1
wanted (frame.Left o p a ∷ s) = right_level o
wanted (frame.Body f x ∷ s) = 1
wanted (frame.Quantified q p xs ∷ s) = 1
wanted (frame.Group f ∷ s) = 1
wanted (frame.List f p ts ∷ s) = 4
wanted (frame.Tail f p ts ∷ s) = 4
wanted (frame.Test ∷ s) = 9

pub one_level : (o : Operator) → 1 ≤ level o
one_level Implied = omega arith
one_level Or = omega arith
one_level Comma = omega arith
one_level Implies = omega arith
one_level Equal = omega arith
one_level Is = omega arith
one_level Cons = omega arith
one_level Plus = omega arith
one_level Minus = omega arith
one_level Times = omega arith

pub level_eight : (o : Operator) → level o ≤ 8
level_eight Implied = omega arith
level_eight Or = omega arith
level_eight Comma = omega arith
level_eight Implies = omega arith
level_eight Equal = omega arith
level_eight Is = omega arith
level_eight Cons = omega arith
level_eight Plus = omega arith
level_eight Minus = omega arith
level_eight Times = omega arith

pub level_left : (o : Operator) → level o ≤ left_level o
level_left Implied = omega arith
level_left Or = omega arith
level_left Comma = omega arith
level_left Implies = omega arith
level_left Equal = omega arith
level_left Is = omega arith
level_left Cons = omega arith
level_left Plus = omega arith
level_left Minus = omega arith
level_left Times = omega arith

pub level_right : (o : Operator) → level o ≤ right_level o
level_right Implied = omega arith
level_right Or = omega arith
level_right Comma = omega arith
level_right Implies = omega arith
level_right Equal = omega arith
level_right Is = omega arith
level_right Cons = omega arith
level_right Plus = omega arith
level_right Minus = omega arith
level_right Times = omega arith

pub right_nine : (o : Operator) → right_level o ≤ 9
right_nine Implied = omega arith
right_nine Or = omega arith
right_nine Comma = omega arith
right_nine Implies = omega arith
right_nine Equal = omega arith
right_nine Is = omega arith
right_nine Cons = omega arith
right_nine Plus = omega arith
right_nine Minus = omega arith
right_nine Times = omega arith

pub wanted_nine : (s : List Frame) → wanted s ≤ 9
wanted_nine [] = omega arith
wanted_nine (frame.Left o p a ∷ s) = right_nine o
wanted_nine (frame.Body f x ∷ s) = omega arith
wanted_nine (frame.Quantified q p xs ∷ s) = omega arith
wanted_nine (frame.Group f ∷ s) = omega arith
wanted_nine (frame.List f p ts ∷ s) = omega arith
wanted_nine (frame.Tail f p ts ∷ s) = omega arith
wanted_nine (frame.Test ∷ s) = omega arith

-- an operator on a stack may have a right side that is open
pub may_open : (s : List Frame) → wanted s ≤ 8 → may_be_open s ≡ true
may_open [] h = refl
may_open (frame.Left o p a ∷ s) h = refl
may_open (frame.Body f x ∷ s) h = refl
may_open (frame.Quantified q p xs ∷ s) h = refl
may_open (frame.Group f ∷ s) h = refl
may_open (frame.List f p ts ∷ s) h = refl
may_open (frame.Tail f p ts ∷ s) h = refl
may_open (frame.Test ∷ s) h = absurd (omega (arith, h))

-- no operator groups to the right where another of its level groups to the left
pub apart : (o p : Operator) → right_level o ≤ level p → left_level p ≤ level o → ⊥
apart Implied Implied h k = omega arith
apart Implied Or h k = omega arith
apart Implied Comma h k = omega arith
apart Implied Implies h k = omega arith
apart Implied Equal h k = omega arith
apart Implied Is h k = omega arith
apart Implied Cons h k = omega arith
apart Implied Plus h k = omega arith
apart Implied Minus h k = omega arith
apart Implied Times h k = omega arith
apart Or Implied h k = omega arith
apart Or Or h k = omega arith
apart Or Comma h k = omega arith
apart Or Implies h k = omega arith
apart Or Equal h k = omega arith
apart Or Is h k = omega arith
apart Or Cons h k = omega arith
apart Or Plus h k = omega arith
apart Or Minus h k = omega arith
apart Or Times h k = omega arith
apart Comma Implied h k = omega arith
apart Comma Or h k = omega arith
apart Comma Comma h k = omega arith
apart Comma Implies h k = omega arith
apart Comma Equal h k = omega arith
apart Comma Is h k = omega arith
apart Comma Cons h k = omega arith
apart Comma Plus h k = omega arith
apart Comma Minus h k = omega arith
apart Comma Times h k = omega arith
apart Implies Implied h k = omega arith
apart Implies Or h k = omega arith
apart Implies Comma h k = omega arith
apart Implies Implies h k = omega arith
apart Implies Equal h k = omega arith
apart Implies Is h k = omega arith
apart Implies Cons h k = omega arith
apart Implies Plus h k = omega arith
apart Implies Minus h k = omega arith
apart Implies Times h k = omega arith
apart Equal Implied h k = omega arith
apart Equal Or h k = omega arith
apart Equal Comma h k = omega arith
apart Equal Implies h k = omega arith
apart Equal Equal h k = omega arith
apart Equal Is h k = omega arith
apart Equal Cons h k = omega arith
apart Equal Plus h k = omega arith
apart Equal Minus h k = omega arith
apart Equal Times h k = omega arith
apart Is Implied h k = omega arith
apart Is Or h k = omega arith
apart Is Comma h k = omega arith
apart Is Implies h k = omega arith
apart Is Equal h k = omega arith
apart Is Is h k = omega arith
apart Is Cons h k = omega arith
apart Is Plus h k = omega arith
apart Is Minus h k = omega arith
apart Is Times h k = omega arith
apart Cons Implied h k = omega arith
apart Cons Or h k = omega arith
apart Cons Comma h k = omega arith
apart Cons Implies h k = omega arith
apart Cons Equal h k = omega arith
apart Cons Is h k = omega arith
apart Cons Cons h k = omega arith
apart Cons Plus h k = omega arith
apart Cons Minus h k = omega arith
apart Cons Times h k = omega arith
apart Plus Implied h k = omega arith
apart Plus Or h k = omega arith
apart Plus Comma h k = omega arith
apart Plus Implies h k = omega arith
apart Plus Equal h k = omega arith
apart Plus Is h k = omega arith
apart Plus Cons h k = omega arith
apart Plus Plus h k = omega arith
apart Plus Minus h k = omega arith
apart Plus Times h k = omega arith
apart Minus Implied h k = omega arith
apart Minus Or h k = omega arith
apart Minus Comma h k = omega arith
apart Minus Implies h k = omega arith
apart Minus Equal h k = omega arith
apart Minus Is h k = omega arith
apart Minus Cons h k = omega arith
apart Minus Plus h k = omega arith
apart Minus Minus h k = omega arith
apart Minus Times h k = omega arith
apart Times Implied h k = omega arith
apart Times Or h k = omega arith
apart Times Comma h k = omega arith
apart Times Implies h k = omega arith
apart Times Equal h k = omega arith
apart Times Is h k = omega arith
apart Times Cons h k = omega arith
apart Times Plus h k = omega arith
apart Times Minus h k = omega arith
apart Times Times h k = omega arith
