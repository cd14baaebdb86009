-- Kinds of goals, by their parts' readings.
use Rattle.std.specs.Prelude.{◌≡◌, ℕ, length}
use Rattle.level_terms.specs.Graph.{Graph}
use Rattle.level_terms.specs.Reading.{read}
use Rattle.level_terms.specs.Valid.{IsValid}
use Rattle.ref_terms.specs.terms.Term.{Term}
use Rattle.ref_terms.specs.search.Formula as formula
use Rattle.ref_terms.specs.search.Formula.{reserved_goal, goal_kind}
use Rattle.ref_terms.specs.declared.reserved.Reserved.{Reserved}
use Rattle.ref_terms.specs.declared.reserved.Reserved.TheVariants.{Nil, Cons, Plus, Minus, Times}
use Rattle.ref_terms.specs.declared.fault.Fault.{Fault}
use Rattle.ref_terms.specs.declared.fault.Fault.TheVariants.{Unknown, Arity}
use Rattle.beta_fragment.specs.HeadForm.{AllValidAt, all_read}
use Rattle.beta_fragment.specs.Names.{names}
use Rattle.goal_form.specs.declared.kind.GoalKind.{GoalKind}
use Rattle.goal_form.specs.declared.kind.GoalKind.TheVariants.{Truth, Failing, Cut, Conjunction, Disjunction, Assuming, ForAll, Exists, Suspending, Builtin, Atom, Wrong}
use Rattle.goal_form.specs.Builtins.{builtin_word, arity_of}

-- the kind of the reference that a kind over nodes is, by what these read as
abbrev pub kind_in : Graph → GoalKind → formula.GoalKind
kind_in g Truth = formula.Truth
kind_in g Failing = formula.Failing
kind_in g Cut = formula.Cut
kind_in g (Conjunction a b) = formula.Conjunction (read g a.index names) (read g b.index names)
kind_in g (Disjunction a b) = formula.Disjunction (read g a.index names) (read g b.index names)
kind_in g (Assuming d a) = formula.Assuming (read g d.index names) (read g a.index names)
kind_in g (ForAll f) = formula.ForAll (read g f.index names)
kind_in g (Exists f) = formula.Exists (read g f.index names)
kind_in g (Suspending a k) = formula.Suspending (read g a.index names) (read g k.index names)
kind_in g (Builtin b ts) = reserved_goal (builtin_word b) (all_read g ts)
kind_in g (Atom c ts) = formula.Atom c.0 (all_read g ts)
kind_in g (Wrong e) = formula.Wrong e

-- the parts are valid at the depth, and a built-in has as many arguments as it takes
abbrev pub PartsFit : Graph → (depth : ℕ) → GoalKind → Type 0
PartsFit g depth Truth = Unit {0}
PartsFit g depth Failing = Unit {0}
PartsFit g depth Cut = Unit {0}
PartsFit g depth (Conjunction a b) = IsValid g a.index depth × IsValid g b.index depth
PartsFit g depth (Disjunction a b) = IsValid g a.index depth × IsValid g b.index depth
PartsFit g depth (Assuming d a) = IsValid g d.index depth × IsValid g a.index depth
PartsFit g depth (ForAll f) = IsValid g f.index depth
PartsFit g depth (Exists f) = IsValid g f.index depth
PartsFit g depth (Suspending a k) = IsValid g a.index depth × IsValid g k.index depth
PartsFit g depth (Builtin b ts) = AllValidAt g ts depth × (length ts ≡ arity_of b)
PartsFit g depth (Atom c ts) = AllValidAt g ts depth
PartsFit g depth (Wrong e) = Unit {0}

-- a kind over nodes is this kind of the reference
abbrev pub IsKindAt : Graph → (depth : ℕ) → formula.GoalKind → GoalKind → Type 0
IsKindAt g depth k kind = (kind_in g kind ≡ k) × PartsFit g depth kind

-- the kind of a goal
abbrev pub IsKindOf : Graph → (depth : ℕ) → Term → GoalKind → Type 0
IsKindOf g depth u kind = IsKindAt g depth (goal_kind u) kind

-- the fault of a reserved name with another number of arguments than a goal of it has
abbrev pub misfit_of : Reserved → Fault
misfit_of Nil = Unknown
misfit_of Cons = Unknown
misfit_of Plus = Unknown
misfit_of Minus = Unknown
misfit_of Times = Unknown
misfit_of _ = Arity
