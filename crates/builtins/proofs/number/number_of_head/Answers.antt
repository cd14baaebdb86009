use Rattle.std.proofs.Common.{◌≡◌, sym, ◌∙◌, arith}
use Rattle.beta_fragment.specs.declared.answer.RigidHead.TheVariants.{Con, Int, Str, Level}
use Rattle.builtins.proofs.NumberLemmas.{head-no_integer}
use Rattle.builtins.proofs.number.number_of_head.Goals as goal

pub returns-else-count-eq0 : goal.returns-else-count-eq0
returns-else-count-eq0 c = λ u xs l e. head-no_integer u c.args.head xs (λ z is k. absurd (omega (arith, l, k, c.if-count-eq0.false))) e

pub returns-in-Con : goal.returns-in-Con
returns-in-Con c = λ u xs l e. head-no_integer u c.args.head xs (λ z is k. absurd (let q : Con c.in-Con.field-0 ≡ Int z = sym c.in-Con.is ∙ is in cc)) e

pub returns-in-Str : goal.returns-in-Str
returns-in-Str c = λ u xs l e. head-no_integer u c.args.head xs (λ z is k. absurd (let q : Str c.in-Str.field-0 ≡ Int z = sym c.in-Str.is ∙ is in cc)) e

pub returns-in-Level : goal.returns-in-Level
returns-in-Level c = λ u xs l e. head-no_integer u c.args.head xs (λ z is k. absurd (let q : Level c.in-Level.field-0 ≡ Int z = sym c.in-Level.is ∙ is in cc)) e
