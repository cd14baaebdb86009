use Rattle.std.proofs.Common.{◌≡◌, ◌∙◌, ℕ, List, sym, ap, subst}
use Rattle.std.specs.Prelude.{IfOk}
use Rattle.lp_resolve.specs.Symbols.{number_of}
use Rattle.lp_resolve.specs.Variables.{number_in}
use Rattle.lp_resolve.proofs.read.read_variable.Goals as goal

pub returns-clause-number : goal.returns-clause-number
returns-clause-number c =
    let same : c.in_ok-symbol.symbol.0 ≡ number_of c.intern.new.self c.args.word.now.text = c.in_ok-symbol.ensures.number ∙ ap (number_of c.intern.new.self) c.as_slice.ensures in
    let P : ℕ → Type 0 = λ w. IfOk c.meet_word.result (λ (n : ℕ). n ≡ number_in c.args.variables.now.names w) in
    subst P same c.meet_word.ensures.number
