use Rattle.std.proofs.Common.{◌≡◌, ℕ, List, [], ◌∷◌, map, sym, subst, ap}
use Rattle.level_terms.proofs.GrowthLemmas.{grows-refl, grows-trans}
use Rattle.hyp_clause.specs.declared.hyp.Hyp.{Hyp}
use Rattle.suspend.specs.declared.constraint.Constraint.{Constraint as Suspended}
use Rattle.suspend.specs.Store.{stored}
use Rattle.search_moves.specs.Reading.{constraint_in}
use Rattle.term_print.specs.Written.{Prints}
use Rattle.term_print.specs.Pieces.{page}
use Rattle.term_print.proofs.WrittenLemmas.{prints-none}
use Rattle.goal_run.specs.inside.Suspended.{suspended_lines, AllShowable}
use Rattle.goal_run.proofs.SuspendedLemmas.{showable-grown, shows-as, next-suspended}
use Rattle.goal_run.proofs.suspended.write_store.Goals as goal

pub loop-suspended-init : goal.loop-suspended-init
loop-suspended-init c =
    let g = c.args.heap.now in
    let table = c.args.symbols.now in
    let begin = page c.args.text.now c.args.namer.now in
    let all = suspended_lines table (map (constraint_in g) (stored c.args.store.now)) in
    record {
      prints = subst (λ (es : List (ℕ × Suspended (List Hyp))). Prints begin all begin (suspended_lines table (map (constraint_in g) es))) (sym c.iter-rest.ensures) (prints-none begin all);
      grows = grows-refl g [];
      showable = subst (AllShowable g) (sym c.iter-rest.ensures) c.requires;
    }

pub write_suspended-requires : goal.write_suspended-requires
write_suspended-requires c =
    showable-grown c.args.heap.now c.loop-suspended.heap c.is_sound.ensures c.loop-suspended.invariant.grows c.in-Some.suspended.now (subst (AllShowable c.args.heap.now) c.in-Some.ensures.steps c.loop-suspended.invariant.showable).0

pub returns-in_err-write_suspended-clause-grows : goal.returns-in_err-write_suspended-clause-grows
returns-in_err-write_suspended-clause-grows c = grows-trans c.args.heap.now c.loop-suspended.heap c.write_suspended.new.heap [] [] [] c.loop-suspended.invariant.grows c.write_suspended.ensures.grows

pub loop-suspended-preserved : goal.loop-suspended-preserved
loop-suspended-preserved c =
    let g = c.args.heap.now in
    let table = c.args.symbols.now in
    let e : ℕ × Suspended (List Hyp) = (c.in-Some.field-0-0, c.in-Some.suspended.now) in
    let left : c.loop-suspended.rest ≡ e ∷ c.next.new.self = c.in-Some.ensures.steps in
    let both : AllShowable g (e ∷ c.next.new.self) = subst (AllShowable g) left c.loop-suspended.invariant.showable in
    record {
      prints = next-suspended table (page c.args.text.now c.args.namer.now) (page c.loop-suspended.text c.loop-suspended.namer) (page c.write_suspended.new.text c.write_suspended.new.namer)
          (suspended_lines table (map (constraint_in g) (stored c.args.store.now))) (constraint_in g e) (map (constraint_in g) c.next.new.self) (map (constraint_in g) c.loop-suspended.rest)
          (ap (map (constraint_in g)) left) c.loop-suspended.invariant.prints
          (c.in_ok-write_suspended.ensures.writes (constraint_in g e) (shows-as g c.loop-suspended.heap c.is_sound.ensures c.loop-suspended.invariant.grows e both.0));
      grows = grows-trans g c.loop-suspended.heap c.write_suspended.new.heap [] [] [] c.loop-suspended.invariant.grows c.write_suspended.ensures.grows;
      showable = both.1;
    }
