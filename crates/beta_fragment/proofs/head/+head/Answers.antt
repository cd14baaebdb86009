use Rattle.std.proofs.Common.{◌≡◌, suc, ◌+◌, ◌∷◌, List, sym, subst, ap, length, reverse, arith, [], refl, ◌∙◌}
use Rattle.level_terms.specs.Valid.{IsValid}
use Rattle.level_terms.specs.Reading.{read}
use Rattle.beta_fragment.specs.Names.{names}
use Rattle.beta_fragment.specs.inside.Turn.{GoesOn, TakesOn, IsTurn}
use Rattle.level_terms.proofs.GrowthLemmas.{grows-refl, grows-trans}
use Rattle.level_terms.specs.declared.node.TermId.{TermId}
use Rattle.level_terms.proofs.ValidLemmas.{growth_keeps_valid}
use Rattle.ref_terms.specs.terms.Ready.{ready}
use Rattle.beta_fragment.specs.HeadForm.{AllValidAt}
use Rattle.beta_fragment.proofs.HeadLemmas.{valid-grown_all}
use Rattle.level_terms.proofs.ReadLemmas.{valid-below, grown-reads}
use Rattle.beta_fragment.proofs.TurnLemmas.{first-spine, first-moves}
use Rattle.std.proofs.lemmas.List.{length-reverse}
use Rattle.std.proofs.lemmas.Result.{IfOk-weaker}
use Rattle.beta_fragment.specs.Moves.{IsMove}
use Rattle.beta_fragment.specs.inside.Standing.{StandFor}
use Rattle.beta_fragment.proofs.StandLemmas.{Stands, stands-grown, first-ready, first-valid, goes-spine, takes-spine, puts-reversed, puts-long, ends-found}
use Rattle.beta_fragment.proofs.head.+head.Goals as goal

pub whnf_within-loop-puts-init : goal.whnf_within-loop-puts-init
whnf_within-loop-puts-init t c = record {
  spine = (read c.args.heap.now c.args.t.index names, subst (λ ps. StandFor c.args.heap.now c.args.depth (reverse ps) (read c.args.heap.now c.args.t.index names) (read c.args.heap.now c.args.t.index names)) (sym c.new-puts.ensures.items) refl, first-spine c.args.heap.now c.args.depth c.args.t.index c.own-levels.result c.new-args.result.items c.requires c.own-levels.ensures.own c.new-args.ensures.items);
  long = (let l = ap length c.new-puts.ensures.items in omega (arith, l));
  moves = first-moves c.args.depth c.own-levels.result c.own-levels.ensures.count c.own-levels.ensures.own;
  valid = subst (IsValid c.args.heap.now c.args.t.index) (sym c.own-levels.ensures.count) c.requires;
  there = valid-below c.args.heap.now c.args.t.index c.args.depth c.requires;
  variables = refl;
  grows = grows-refl c.args.heap.now [];
}

pub whnf_within-returns-in_err-form-clause-grows : goal.whnf_within-returns-in_err-form-clause-grows
whnf_within-returns-in_err-form-clause-grows t c = grows-refl c.args.heap.now []

pub whnf_within-returns-in-Some-clause-grows : goal.whnf_within-returns-in-Some-clause-grows
whnf_within-returns-in-Some-clause-grows t c = grows-refl c.args.heap.now []

pub whnf_within-returns-in_err-next-clause-grows : goal.whnf_within-returns-in_err-next-clause-grows
whnf_within-returns-in_err-next-clause-grows t c = grows-trans c.args.heap.now c.takes_first.new.heap c.one_turn.new.heap [] [] [] (grows-trans c.args.heap.now c.loop-puts.heap c.takes_first.new.heap [] [] [] c.loop-puts.invariant.grows c.takes_first.ensures.grows) c.one_turn.ensures.grows

pub whnf_within-returns-in-Ends-clause-grows : goal.whnf_within-returns-in-Ends-clause-grows
whnf_within-returns-in-Ends-clause-grows t c = grows-trans c.args.heap.now c.one_turn.new.heap c.placed.new.heap [] [] [] (grows-trans c.args.heap.now c.takes_first.new.heap c.one_turn.new.heap [] [] [] (grows-trans c.args.heap.now c.loop-puts.heap c.takes_first.new.heap [] [] [] c.loop-puts.invariant.grows c.takes_first.ensures.grows) c.one_turn.ensures.grows) c.placed.ensures.grows

pub whnf_within-returns-in_err-to-in-Takes-clause-grows : goal.whnf_within-returns-in_err-to-in-Takes-clause-grows
whnf_within-returns-in_err-to-in-Takes-clause-grows t c = grows-trans c.args.heap.now c.takes_first.new.heap c.one_turn.new.heap [] [] [] (grows-trans c.args.heap.now c.loop-puts.heap c.takes_first.new.heap [] [] [] c.loop-puts.invariant.grows c.takes_first.ensures.grows) c.one_turn.ensures.grows

pub whnf_within-returns-in_err-push-in-Takes-clause-grows : goal.whnf_within-returns-in_err-push-in-Takes-clause-grows
whnf_within-returns-in_err-push-in-Takes-clause-grows t c = grows-trans c.args.heap.now c.takes_first.new.heap c.one_turn.new.heap [] [] [] (grows-trans c.args.heap.now c.loop-puts.heap c.takes_first.new.heap [] [] [] c.loop-puts.invariant.grows c.takes_first.ensures.grows) c.one_turn.ensures.grows

pub whnf_within-loop-puts-preserved-in-Goes : goal.whnf_within-loop-puts-preserved-in-Goes
whnf_within-loop-puts-preserved-in-Goes t c =
    let turn : GoesOn c.loop-puts.to c.takes_first.new.heap c.one_turn.new.heap c.loop-puts.head.index c.in-Goes.next.index c.loop-puts.levels c.one_turn.new.levels c.one_turn.new.fixed c.loop-puts.args.items c.one_turn.new.args.items =
    subst (IsTurn c.loop-puts.to c.takes_first.new.heap c.one_turn.new.heap c.loop-puts.head.index c.loop-puts.levels c.one_turn.new.levels c.one_turn.new.fixed c.loop-puts.args.items c.one_turn.new.args.items) c.in-Goes.is c.in_ok-next.ensures.turn in
    record {
      spine = goes-spine c.takes_first.new.heap c.one_turn.new.heap c.args.depth c.loop-puts.to c.loop-puts.head.index c.in-Goes.next.index c.loop-puts.levels c.one_turn.new.levels c.one_turn.new.fixed c.loop-puts.args.items c.one_turn.new.args.items (reverse c.loop-puts.puts.items) (read c.args.heap.now c.args.t.index names) c.is_sound-in-loop-puts-2.ensures c.one_turn.ensures.grows turn (stands-grown c.loop-puts.heap c.takes_first.new.heap c.args.depth c.loop-puts.to (reverse c.loop-puts.puts.items) (read c.args.heap.now c.args.t.index names) c.loop-puts.head.index c.loop-puts.levels c.loop-puts.args.items c.is_sound-in-loop-puts.ensures c.takes_first.ensures.grows c.loop-puts.invariant.valid c.loop-puts.invariant.spine);
      long = c.loop-puts.invariant.long;
      moves = turn.moves;
      valid = turn.valid;
      there = (turn.less c.args.heap.now c.is_sound.ensures (grows-trans c.args.heap.now c.loop-puts.heap c.takes_first.new.heap [] [] [] c.loop-puts.invariant.grows c.takes_first.ensures.grows) c.loop-puts.invariant.there).0;
      variables = c.one_turn.ensures.variables ∙ c.takes_first.ensures.variables ∙ c.loop-puts.invariant.variables;
      grows = grows-trans c.args.heap.now c.takes_first.new.heap c.one_turn.new.heap [] [] [] (grows-trans c.args.heap.now c.loop-puts.heap c.takes_first.new.heap [] [] [] c.loop-puts.invariant.grows c.takes_first.ensures.grows) c.one_turn.ensures.grows;
    }

pub whnf_within-loop-puts-preserved : goal.whnf_within-loop-puts-preserved
whnf_within-loop-puts-preserved t c =
    let turn : TakesOn c.loop-puts.to c.takes_first.new.heap c.one_turn.new.heap c.loop-puts.head.index c.in-Takes.next.index c.in-Takes.arg.index c.loop-puts.levels c.one_turn.new.levels c.one_turn.new.fixed c.loop-puts.args.items c.one_turn.new.args.items =
    subst (IsTurn c.loop-puts.to c.takes_first.new.heap c.one_turn.new.heap c.loop-puts.head.index c.loop-puts.levels c.one_turn.new.levels c.one_turn.new.fixed c.loop-puts.args.items c.one_turn.new.args.items) c.in-Takes.is c.in_ok-next.ensures.turn in
    let turned = length-reverse c.loop-puts.puts.items in
    let long = c.loop-puts.invariant.long in
    let before : c.loop-puts.to ≡ c.args.depth + length (reverse c.loop-puts.puts.items) = omega (arith, turned, long) in
    let more : suc c.loop-puts.to ≡ c.in_ok-to-in-Takes.to = omega (arith, c.in_ok-to-in-Takes.ensures) in
    let spine = takes-spine c.takes_first.new.heap c.one_turn.new.heap c.args.depth c.loop-puts.to c.loop-puts.head.index c.in-Takes.next.index c.in-Takes.arg c.loop-puts.levels c.one_turn.new.levels c.one_turn.new.fixed c.loop-puts.args.items c.one_turn.new.args.items (reverse c.loop-puts.puts.items) (read c.args.heap.now c.args.t.index names) c.is_sound-in-loop-puts-2.ensures c.one_turn.ensures.grows turn before (stands-grown c.loop-puts.heap c.takes_first.new.heap c.args.depth c.loop-puts.to (reverse c.loop-puts.puts.items) (read c.args.heap.now c.args.t.index names) c.loop-puts.head.index c.loop-puts.levels c.loop-puts.args.items c.is_sound-in-loop-puts.ensures c.takes_first.ensures.grows c.loop-puts.invariant.valid c.loop-puts.invariant.spine) in
    record {
      spine = puts-reversed c.one_turn.new.heap c.args.depth c.in_ok-to-in-Takes.to c.loop-puts.puts.items c.push.new.self.items c.in-Takes.arg (read c.args.heap.now c.args.t.index names) c.in-Takes.next.index c.one_turn.new.levels c.one_turn.new.args.items c.in_ok-push-in-Takes.ensures.items
          (subst (λ m. Stands c.one_turn.new.heap c.args.depth m (c.in-Takes.arg ∷ reverse c.loop-puts.puts.items) (read c.args.heap.now c.args.t.index names) c.in-Takes.next.index c.one_turn.new.levels c.one_turn.new.args.items) more spine);
      long = puts-long c.args.depth c.loop-puts.to c.loop-puts.puts.items c.push.new.self.items c.in-Takes.arg c.in_ok-to-in-Takes.to c.loop-puts.invariant.long c.in_ok-push-in-Takes.ensures.items c.in_ok-to-in-Takes.ensures;
      moves = subst (IsMove c.one_turn.new.levels c.one_turn.new.fixed) more turn.moves;
      valid = turn.valid;
      there = (turn.less c.args.heap.now c.is_sound.ensures (grows-trans c.args.heap.now c.loop-puts.heap c.takes_first.new.heap [] [] [] c.loop-puts.invariant.grows c.takes_first.ensures.grows) c.loop-puts.invariant.there).0;
      variables = c.one_turn.ensures.variables ∙ c.takes_first.ensures.variables ∙ c.loop-puts.invariant.variables;
      grows = grows-trans c.args.heap.now c.takes_first.new.heap c.one_turn.new.heap [] [] [] (grows-trans c.args.heap.now c.loop-puts.heap c.takes_first.new.heap [] [] [] c.loop-puts.invariant.grows c.takes_first.ensures.grows) c.one_turn.ensures.grows;
    }

pub whnf_within-placed-requires-clause-found : goal.whnf_within-placed-requires-clause-found
whnf_within-placed-requires-clause-found t c = (
  read c.args.heap.now c.args.t.index names,
  ends-found c.takes_first.new.heap c.one_turn.new.heap c.args.depth c.loop-puts.to c.loop-puts.head.index c.loop-puts.levels c.loop-puts.args.items c.loop-puts.puts.items (read c.args.heap.now c.args.t.index names) c.in-Ends.form c.is_sound-in-loop-puts-2.ensures c.one_turn.ensures.grows
      (subst (IsTurn c.loop-puts.to c.takes_first.new.heap c.one_turn.new.heap c.loop-puts.head.index c.loop-puts.levels c.one_turn.new.levels c.one_turn.new.fixed c.loop-puts.args.items c.one_turn.new.args.items) c.in-Ends.is c.in_ok-next.ensures.turn) c.loop-puts.invariant.long (stands-grown c.loop-puts.heap c.takes_first.new.heap c.args.depth c.loop-puts.to (reverse c.loop-puts.puts.items) (read c.args.heap.now c.args.t.index names) c.loop-puts.head.index c.loop-puts.levels c.loop-puts.args.items c.is_sound-in-loop-puts.ensures c.takes_first.ensures.grows c.loop-puts.invariant.valid c.loop-puts.invariant.spine),
)

pub whnf_within-returns-in-Ends-clause-form : goal.whnf_within-returns-in-Ends-clause-form
whnf_within-returns-in-Ends-clause-form t c = IfOk-weaker c.placed.result _ _
    (λ w f. f (read c.args.heap.now c.args.t.index names)
    (ends-found c.takes_first.new.heap c.one_turn.new.heap c.args.depth c.loop-puts.to c.loop-puts.head.index c.loop-puts.levels c.loop-puts.args.items c.loop-puts.puts.items (read c.args.heap.now c.args.t.index names) c.in-Ends.form c.is_sound-in-loop-puts-2.ensures c.one_turn.ensures.grows
    (subst (IsTurn c.loop-puts.to c.takes_first.new.heap c.one_turn.new.heap c.loop-puts.head.index c.loop-puts.levels c.one_turn.new.levels c.one_turn.new.fixed c.loop-puts.args.items c.one_turn.new.args.items) c.in-Ends.is c.in_ok-next.ensures.turn) c.loop-puts.invariant.long (stands-grown c.loop-puts.heap c.takes_first.new.heap c.args.depth c.loop-puts.to (reverse c.loop-puts.puts.items) (read c.args.heap.now c.args.t.index names) c.loop-puts.head.index c.loop-puts.levels c.loop-puts.args.items c.is_sound-in-loop-puts.ensures c.takes_first.ensures.grows c.loop-puts.invariant.valid c.loop-puts.invariant.spine)))
    c.placed.ensures.form

pub whnf_within-loop-puts-smaller-in-Goes : goal.whnf_within-loop-puts-smaller-in-Goes
whnf_within-loop-puts-smaller-in-Goes t c =
    let turn : GoesOn c.loop-puts.to c.takes_first.new.heap c.one_turn.new.heap c.loop-puts.head.index c.in-Goes.next.index c.loop-puts.levels c.one_turn.new.levels c.one_turn.new.fixed c.loop-puts.args.items c.one_turn.new.args.items =
    subst (IsTurn c.loop-puts.to c.takes_first.new.heap c.one_turn.new.heap c.loop-puts.head.index c.loop-puts.levels c.one_turn.new.levels c.one_turn.new.fixed c.loop-puts.args.items c.one_turn.new.args.items) c.in-Goes.is c.in_ok-next.ensures.turn in
    (turn.less c.args.heap.now c.is_sound.ensures (grows-trans c.args.heap.now c.loop-puts.heap c.takes_first.new.heap [] [] [] c.loop-puts.invariant.grows c.takes_first.ensures.grows) c.loop-puts.invariant.there).1

pub whnf_within-loop-puts-smaller : goal.whnf_within-loop-puts-smaller
whnf_within-loop-puts-smaller t c =
    let turn : TakesOn c.loop-puts.to c.takes_first.new.heap c.one_turn.new.heap c.loop-puts.head.index c.in-Takes.next.index c.in-Takes.arg.index c.loop-puts.levels c.one_turn.new.levels c.one_turn.new.fixed c.loop-puts.args.items c.one_turn.new.args.items =
    subst (IsTurn c.loop-puts.to c.takes_first.new.heap c.one_turn.new.heap c.loop-puts.head.index c.loop-puts.levels c.one_turn.new.levels c.one_turn.new.fixed c.loop-puts.args.items c.one_turn.new.args.items) c.in-Takes.is c.in_ok-next.ensures.turn in
    (turn.less c.args.heap.now c.is_sound.ensures (grows-trans c.args.heap.now c.loop-puts.heap c.takes_first.new.heap [] [] [] c.loop-puts.invariant.grows c.takes_first.ensures.grows) c.loop-puts.invariant.there).1

pub whnf_within-returns-in_err-known-clause-grows : goal.whnf_within-returns-in_err-known-clause-grows
whnf_within-returns-in_err-known-clause-grows t c = grows-trans c.args.heap.now c.loop-puts.heap c.takes_first.new.heap [] [] [] c.loop-puts.invariant.grows c.takes_first.ensures.grows

pub whnf_within-one_turn-requires-clause-valid : goal.whnf_within-one_turn-requires-clause-valid
whnf_within-one_turn-requires-clause-valid t c = growth_keeps_valid c.loop-puts.heap c.takes_first.new.heap [] [] c.loop-puts.head.index (length c.loop-puts.levels) c.is_sound-in-loop-puts.ensures c.takes_first.ensures.grows (valid-below c.loop-puts.heap c.loop-puts.head.index (length c.loop-puts.levels) c.loop-puts.invariant.valid) c.loop-puts.invariant.valid

pub whnf_within-one_turn-requires-clause-args : goal.whnf_within-one_turn-requires-clause-args
whnf_within-one_turn-requires-clause-args t c =
    valid-grown_all c.loop-puts.heap c.takes_first.new.heap c.loop-puts.to c.is_sound-in-loop-puts.ensures c.takes_first.ensures.grows (reverse c.loop-puts.args.items) c.loop-puts.invariant.spine.2.valid

pub takes_first-returns-then-nesting-eq0-clause-grows : goal.takes_first-returns-then-nesting-eq0-clause-grows
takes_first-returns-then-nesting-eq0-clause-grows t c = grows-refl c.args.heap.now []

pub takes_first-returns-in-None-clause-grows : goal.takes_first-returns-in-None-clause-grows
takes_first-returns-in-None-clause-grows t c = grows-refl c.args.heap.now []

pub takes_first-returns-in_ok-form-in-Some-clause-ready : goal.takes_first-returns-in_ok-form-in-Some-clause-ready
takes_first-returns-in_ok-form-in-Some-clause-ready t c = λ q.
    let first = c.in-Some.ensures in
    let valid = first-valid c.args.heap.now c.args.depth c.in-Some.arg (reverse c.args.args.now) first c.requires.args in
    let same = ap (λ r. ready (r names)) (grown-reads c.args.heap.now c.whnf_within.new.heap c.is_sound.ensures c.whnf_within.ensures.grows c.in-Some.arg.index (valid-below c.args.heap.now c.in-Some.arg.index c.args.depth valid)) in
    first-ready c.whnf_within.new.heap c.in-Some.arg (reverse c.args.args.now) first (same ∙ c.is_rigid_form.ensures c.whnf_within.new.heap c.args.depth (read c.args.heap.now c.in-Some.arg.index names) c.in_ok-form-in-Some.ensures.form q)
