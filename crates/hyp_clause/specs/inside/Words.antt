-- What a constant, or a name, at the head makes of a clause.
use Rattle.std.specs.Prelude.{ℕ, cond, nat_lt, Option, Some, None}
use Rattle.ref_terms.specs.declared.fault.Fault.{Fault}
use Rattle.ref_terms.specs.declared.fault.Fault.TheVariants.{FlexClause, NotGoal, Redex}
use Rattle.ref_terms.specs.declared.reserved.Reserved.{Reserved}
use Rattle.ref_terms.specs.declared.reserved.Reserved.TheVariants.{And as And_word, Implies as Implies_word, If as If_word, Pi as Pi_word, Nonvar as Nonvar_word, Distinct as Distinct_word}
use Rattle.beta_fragment.specs.declared.answer.RigidHead.TheVariants.{Con, Int, Str, Level}
use Rattle.beta_fragment.specs.declared.answer.Whnf.{Whnf}
use Rattle.beta_fragment.specs.declared.answer.Whnf.TheVariants.{Lam, Rigid, Flex, Redex as RedexForm}
use Rattle.hyp_clause.specs.declared.reading.Word.{Word}
use Rattle.hyp_clause.specs.declared.reading.Word.TheVariants.{And, If, Implies, Pi, Other, Free}

-- a reserved name, or none
abbrev pub word_kind : Option Reserved → Word
word_kind None = Free
word_kind (Some And_word) = And
word_kind (Some If_word) = If
word_kind (Some Implies_word) = Implies
word_kind (Some Pi_word) = Pi
word_kind (Some Nonvar_word) = Free
word_kind (Some Distinct_word) = Free
word_kind (Some _) = Other

-- the fault of a name at the head: a parameter's, or another's
abbrev pub fault_of_name : (scope level : ℕ) → Fault
fault_of_name scope level = cond (nat_lt level scope) NotGoal FlexClause

-- the fault of a form that is no application of a constant
abbrev pub form_fault : (scope : ℕ) → Whnf → Option Fault
form_fault scope (Lam t) = Some NotGoal
form_fault scope (Flex v ts) = Some FlexClause
form_fault scope (RedexForm t ts) = Some Redex
form_fault scope (Rigid (Con c) ts) = None
form_fault scope (Rigid (Level l) ts) = Some (fault_of_name scope l)
form_fault scope (Rigid (Int n) ts) = Some NotGoal
form_fault scope (Rigid (Str n) ts) = Some NotGoal
