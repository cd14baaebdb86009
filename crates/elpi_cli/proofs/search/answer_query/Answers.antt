use Rattle.std.proofs.Common.{◌-◌, ◌+◌, ◌<◌, ◌≡◌, sym, subst, arith, ◌∙◌}
use Rattle.ref_terms.specs.unification.Unification.{unify}
use Rattle.ref_terms.specs.search.Events.{events}
use Rattle.ref_terms.specs.search.Strip.{IsCounted}
use Rattle.goal_run.specs.Machine.{Machine, state_of, event_of}
use Rattle.elpi_cli.specs.declared.status.Status.TheVariants.{Memory}
use Rattle.elpi_cli.specs.Output.{Output}
use Rattle.elpi_cli.specs.Written.{Emits, Progress}
use Rattle.elpi_cli.specs.inside.Searching.{written_by}
use Rattle.elpi_cli.proofs.Progress.{finishes, goes_on, gives_up}
use Rattle.elpi_cli.proofs.SearchEvents.{before-move}
use Rattle.elpi_cli.proofs.search.answer_query.Goals as goal

pub returns-in_default : goal.returns-in_default
returns-in_default g c = λ whole has.
    subst (λ (o : Output). Emits g.K.Sink.told g.K.Sink.faults g.K.Sink.stopped c.args.sink.now c.loop-made.sink o Memory) (sym has.output)
    (gives_up _ _ _ _ _ _ _ (c.loop-made.invariant.3 has.program has.runs has.symbols has.counted))

pub returns : goal.returns
returns g c = λ whole has.
    let none : c.args.steps - c.loop-made.made ≡ 0 = omega arith in
    subst (λ (o : Output). Emits g.K.Sink.told g.K.Sink.faults g.K.Sink.stopped c.args.sink.now c.close.new.sink o c.close.result) (sym has.output)
    (finishes _ _ _ _ _ _ _ _ _ (rw none at (c.loop-made.invariant.3 has.program has.runs has.symbols has.counted)) c.close.ensures.emits)

pub returns-in-Err : goal.returns-in-Err
returns-in-Err g c = λ whole has.
    let p = has.program in
    let left : 0 < c.args.steps - c.loop-made.made = omega arith in
    let moved = c.in-Ok.ensures.moved p (c.loop-made.invariant.2 p has.runs) has.symbols in
    let same = c.law_moves_show_the_same.ensures p c.loop-made.machine c.step.new.self c.in-Ok.event (c.loop-made.invariant.4 p has.runs has.symbols has.counted) moved in
    let so_far = before-move _ _ _ _ _ c.args.symbols.now p c.loop-made.machine.variables c.step.new.self.variables c.args.limit c.loop-made.count (c.args.steps - c.loop-made.made) (state_of p c.loop-made.machine) (state_of p c.step.new.self) (event_of c.step.new.self c.in-Ok.event) _
    left c.in-Ok.ensures.variables moved.event same.1 (c.loop-made.invariant.3 p has.runs has.symbols has.counted) in
    subst (λ (o : Output). Emits g.K.Sink.told g.K.Sink.faults g.K.Sink.stopped c.args.sink.now c.observe.new.sink o c.in-Err.status) (sym has.output)
    (finishes _ _ _ _ _ _ _ _ _ so_far (c.in-Err.ensures.ends (events unify p (c.args.steps - c.loop-made.made - 1) (state_of p c.step.new.self))))

pub loop-made-preserved : goal.loop-made-preserved
loop-made-preserved g c =
    let left : 0 < c.args.steps - c.loop-made.made = omega arith in
    let fewer : c.args.steps - (c.loop-made.made + 1) ≡ c.args.steps - c.loop-made.made - 1 = omega arith in
    let same = c.in-Ok-observe.ensures.machine in (
      omega (arith, c.in-Ok-observe.ensures.count, c.loop-made.invariant.0),
      rw same (c.in-Ok.ensures.variables ∙ c.loop-made.invariant.1),
      λ p runs. rw same (c.in-Ok.ensures.program p (c.loop-made.invariant.2 p runs)),
      λ p runs table counted.
          let moved = c.in-Ok.ensures.moved p (c.loop-made.invariant.2 p runs) table in
          let shows = c.law_moves_show_the_same.ensures p c.loop-made.machine c.step.new.self c.in-Ok.event (c.loop-made.invariant.4 p runs table counted) moved in
          let so_far = before-move _ _ _ _ _ c.args.symbols.now p c.loop-made.machine.variables c.step.new.self.variables c.args.limit c.loop-made.count (c.args.steps - c.loop-made.made) (state_of p c.loop-made.machine) (state_of p c.step.new.self) (event_of c.step.new.self c.in-Ok.event) _
          left c.in-Ok.ensures.variables moved.event shows.1 (c.loop-made.invariant.3 p runs table counted) in
          let now = goes_on _ _ _ _ _ _ _ _ _ so_far (c.in-Ok-observe.ensures.goes_on (events unify p (c.args.steps - c.loop-made.made - 1) (state_of p c.step.new.self))) in
          subst (λ (m : Machine). Progress g.K.Sink.told g.K.Sink.faults g.K.Sink.stopped c.args.sink.now c.observe.new.sink
          (written_by c.args.symbols.now p m (c.args.steps - (c.loop-made.made + 1)) c.args.limit c.observe.new.count) (written_by c.args.symbols.now p c.args.machine.now c.args.steps c.args.limit 0)) (sym same)
          (rw fewer now),
      λ p runs table counted.
          let moved = c.in-Ok.ensures.moved p (c.loop-made.invariant.2 p runs) table in
          subst (λ m. IsCounted (state_of p m)) (sym same)
          (c.law_moves_show_the_same.ensures p c.loop-made.machine c.step.new.self c.in-Ok.event (c.loop-made.invariant.4 p runs table counted) moved).0,
    )
