-- Frozen variables: with mark 1, X is older than the clause instance, whose variables are assignable.
use Rattle.std.proofs.Common.{◌≡◌, refl, [], ◌∷◌}
use Rattle.ref_terms.specs.terms.Term.{Lam}
use Rattle.ref_terms.specs.terms.Ready.{ready}
use Rattle.ref_terms.specs.unification.Rules.{step}
use Rattle.ref_terms.proofs.examples.Setting.{◌·◌, X, Y, Z, fresh, f, a, x, y, equal, binds, matched, solved, clash}

-- f A against X, where A is the clause's
constant_against_frozen : matched 1 (equal 0 (f · Y) X ∷ []) ≡ clash
unfolding step ready
constant_against_frozen = refl

-- the clause's variable takes the frozen one as its value
variable_against_frozen : matched 1 (equal 0 (f · Y) (f · X) ∷ []) ≡ solved 10 (binds 1 X ∷ [])
unfolding step ready
variable_against_frozen = refl

-- a frozen head against itself, with equal arguments and with others
frozen_against_itself : matched 1 (equal 0 (X · a) (X · a) ∷ []) ≡ solved 10 []
unfolding step ready
frozen_against_itself = refl

frozen_arguments_differ : matched 1 (equal 2 (X · x · y) (X · y · x) ∷ []) ≡ clash
unfolding step ready
frozen_arguments_differ = refl

-- two frozen variables
frozen_differ : matched 2 (equal 0 X Y ∷ []) ≡ clash
unfolding step ready
frozen_differ = refl

-- a foreign name among the arguments of a frozen variable clashes, where an assignable one would lose the position
frozen_keeps_position : matched 1 (equal 1 Y (f · (X · x)) ∷ []) ≡ clash
unfolding step ready
frozen_keeps_position = refl

assignable_loses_position : matched 1 (equal 1 Y (f · (Z · x)) ∷ []) ≡ solved 11 (binds 1 (f · fresh) ∷ binds 2 (Lam fresh) ∷ [])
unfolding step ready
assignable_loses_position = refl
