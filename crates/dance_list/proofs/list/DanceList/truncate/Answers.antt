use Rattle.std.proofs.Common.{refl, sym, ap, ◌∙◌, arith, append-nil, map, [], ◌∷◌, ◌++◌}
use mathlib.Core.List.{append_assoc}
use Rattle.dance_list.proofs.Dances.{one-fewer, snoc-init}
use Rattle.dance_list.specs.Dance.{nodes, linked}
use Rattle.dance_list.proofs.list.DanceList.truncate.Goals as goal

pub loop-init : goal.loop-init
loop-init g c =
    let req = c.requires.last in
    (([], refl, sym (append-nil (linked c.args.self.now)), sym (append-nil (nodes c.args.self.now))), (req.0, req.1, req.2, req.3, omega (arith, req.4), req.5), refl)

pub drop_last-requires : goal.drop_last-requires
drop_last-requires g c =
    let now = c.loop.invariant.1 in
    let one = one-fewer (linked c.loop.self) (nodes c.loop.self) now.0 now.1 now.2 now.3 now.5 (omega (arith, now.4, c.loop-test.true)) in
    record { last = (now.0 ++ one.0, one.1, one.2, now.2 ++ map (λ z. z.0) one.0, one.3, one.4) }

pub loop-preserved : goal.loop-preserved
loop-preserved g c =
    let gone = c.loop.invariant.0 in let now = c.loop.invariant.1 in let r = c.drop_last.ensures.rest in
    let one = one-fewer (linked c.loop.self) (nodes c.loop.self) now.0 now.1 now.2 now.3 now.5 (omega (arith, now.4, c.loop-test.true)) in (
      (
        (r.0, r.1) ∷ gone.0,
        omega (arith, gone.1),
        gone.2 ∙ ap (λ z. z ++ gone.0) r.2 ∙ append_assoc (linked c.drop_last.new.self) ((r.0, r.1) ∷ []) gone.0,
        gone.3 ∙ ap (λ z. z ++ map (λ y. y.0) gone.0) r.3 ∙ append_assoc (nodes c.drop_last.new.self) (r.0 ∷ []) (map (λ y. y.0) gone.0),
      ),
      (
        now.0,
        one.0,
        now.2,
        snoc-init (linked c.drop_last.new.self) (now.0 ++ one.0) (r.0, r.1) (one.1, one.2) (sym r.2 ∙ one.3),
        omega (arith, now.4, one.5),
        snoc-init (nodes c.drop_last.new.self) (now.2 ++ map (λ z. z.0) one.0) r.0 one.1 (sym r.3 ∙ one.4),
      ),
      c.drop_last.ensures.stack ∙ c.loop.invariant.2,
    )

pub returns-clause-rest : goal.returns-clause-rest
returns-clause-rest g c =
    let gone = c.loop.invariant.0 in let now = c.loop.invariant.1 in
    (gone.0, gone.1 ∙ omega (arith, now.4, c.loop-test.false, c.loop.auto.counter-end), gone.2, gone.3)

pub returns-clause-stack : goal.returns-clause-stack
returns-clause-stack g c = c.loop.invariant.2
