use Rattle.std.proofs.Common.{Some, sym, ap, ◌∙◌}
use Rattle.std.specs.Option.{option_copied}
use Rattle.clause_compile.specs.Programs.{inputs_of}
use Rattle.goal_run.proofs.CodeLemmas.{some-code}
use Rattle.goal_run.proofs.clauses.ProgramCodeClauses.modes.Goals as goal

pub returns-in-Some : goal.returns-in-Some
returns-in-Some c = λ ns p w.
    sym (c.pred.ensures _ _ p (some-code ns c.args.self.now p w)) ∙ ap (λ o. inputs_of (option_copied o)) c.in-Some.is ∙ ap Some (sym c.as_slice.ensures)

pub returns-in-None : goal.returns-in-None
returns-in-None c = λ ns p w. sym (c.pred.ensures _ _ p (some-code ns c.args.self.now p w)) ∙ ap (λ o. inputs_of (option_copied o)) c.in-None.is
