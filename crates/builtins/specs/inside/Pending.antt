-- What waits for the value of an operand.
use Rattle.std.specs.Prelude.{◌≡◌, ℕ, ◌+◌, ◌≤◌, ℤ, List, [], ◌∷◌, reverse, Some}
use Rattle.level_terms.specs.Graph.{Graph}
use Rattle.level_terms.specs.Reading.{read}
use Rattle.level_terms.specs.Valid.{IsValid}
use Rattle.ref_terms.specs.ending.Measure.{size}
use Rattle.ref_terms.specs.search.Arithmetic.{value_of, combined}
use Rattle.ref_terms.specs.search.Fault.{Judged, Good}
use Rattle.beta_fragment.specs.Names.{names}
use Rattle.beta_fragment.specs.declared.answer.UnifyStop.{UnifyStop}
use Rattle.builtins.specs.Outcome.{StopsBy}
use Rattle.builtins.specs.declared.evaluating.Frame.{Frame}
use Rattle.builtins.specs.declared.evaluating.Frame.TheVariants.{Left, Right}
use Rattle.builtins.specs.declared.evaluating.Next.{Next}
use Rattle.builtins.specs.declared.evaluating.Next.TheVariants.{Operand, Done}
use Rattle.builtins.specs.inside.Numbers.{operator_word}

-- the value of the whole, by that of an operand; the newest frame stands first
abbrev pub resumed : Graph → List Frame → Judged ℤ → Judged ℤ
resumed g [] j = j
resumed g (Left w b ∷ fs) j = resumed g fs (combined (Some (operator_word w)) j (value_of (read g b.index names)))
resumed g (Right w a ∷ fs) j = resumed g fs (combined (Some (operator_word w)) (Good a) j)

-- the operands that wait are valid
abbrev pub AllWait : Graph → (depth : ℕ) → List Frame → Type 0
AllWait g depth [] = Unit {0}
AllWait g depth (Left w b ∷ fs) = IsValid g b.index depth × AllWait g depth fs
AllWait g depth (Right w a ∷ fs) = AllWait g depth fs

-- how much they have
abbrev pub waiting : Graph → List Frame → ℕ
waiting g [] = 0
waiting g (Left w b ∷ fs) = size (read g b.index names) + waiting g fs
waiting g (Right w a ∷ fs) = waiting g fs

-- a value was handed on, up to an operand that waited, in any heap
pub record HandsTo (old new : List Frame) (z : ℤ) (b : ℕ) : Type 0 where
  pub value : (g : Graph) → resumed g old (Good z) ≡ resumed g new (value_of (read g b names))
  pub waits : (g : Graph) (depth : ℕ) → AllWait g depth old → IsValid g b depth × AllWait g depth new
  pub less : (g : Graph) → size (read g b names) + waiting g new ≤ waiting g old

-- a value is handed on: so far it has come to this one
pub record IsHanding (old now : List Frame) (z v : ℤ) : Type 0 where
  pub value : (g : Graph) → resumed g old (Good z) ≡ resumed g now (Good v)
  pub waits : (g : Graph) (depth : ℕ) → AllWait g depth old → AllWait g depth now
  pub less : (g : Graph) → waiting g now ≤ waiting g old

-- a node is evaluated next, for a whole of this value
pub record IsEvaluating (whole : Judged ℤ) (g : Graph) (depth node : ℕ) (fs : List Frame) : Type 0 where
  pub value : whole ≡ resumed g fs (value_of (read g node names))
  pub valid : IsValid g node depth
  pub waits : AllWait g depth fs

-- how much there is left of it
abbrev pub left_of : Graph → (node : ℕ) → List Frame → ℕ
left_of g node fs = size (read g node names) + waiting g fs

-- so, or the whole has this value; frames oldest first
abbrev pub IsNext : (old new : List Frame) → ℤ → Next → Type 0
IsNext old new z (Operand b) = HandsTo (reverse old) (reverse new) z b.index
IsNext old new z (Done r) = (g : Graph) → resumed g (reverse old) (Good z) ≡ Good r

-- a value that was handed on came to a fault
abbrev pub IsStopped : (old : List Frame) → ℤ → UnifyStop → Type 0
IsStopped old z stop = (g : Graph) → StopsBy (resumed g (reverse old) (Good z)) stop
