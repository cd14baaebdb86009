use Rattle.std.proofs.Common.{◌∷◌, List, reverse, sym, ap, ◌∙◌, subst}
use Rattle.level_terms.specs.Valid.{IsValid}
use Rattle.ref_terms.specs.declared.path.Choice.TheVariants.{Right as RightSide}
use Rattle.ref_terms.specs.search.State.{Alternative, other_side}
use Rattle.search_moves.specs.declared.frame.Frame.{Frame}
use Rattle.search_moves.specs.declared.frame.Saved.{Saved}
use Rattle.search_moves.specs.declared.frame.Left.TheVariants.{Side}
use Rattle.search_moves.specs.Reading.{goal_in, branch_in, left_at, alternatives_in}
use Rattle.search_moves.specs.Saved.{AllSaved}
use Rattle.search_moves.specs.World.{IsContextAt}
use Rattle.search_moves.specs.Machine.{alternatives_of, branch_of}
use Rattle.search_moves.proofs.SavedLemmas.{all-kept, all-read-kept}
use Rattle.search_moves.proofs.MachineLemmas.{push-keeps, push-fine, push-old, push-reads, saved-now, saved-now_reads, newest-last}
use Rattle.search_moves.proofs.machine.Machine.fork.Goals as goal

pub invariant_of-self-in_err-push : goal.invariant_of-self-in_err-push
invariant_of-self-in_err-push c =
    let w = c.self.inside.stage in
    let w' = c.push.new.self in
    let saved = reverse c.self.inside.choices in
    let f : Frame = record { depth = c.args.goal.depth; barrier = c.args.goal.barrier; term = c.args.goal.term; next = c.self.inside.first; context = c.args.goal.context } in
    let valid = subst (λ m. IsValid m.world.heap c.args.goal.term.index c.args.goal.depth) (sym c.self.view_is) c.requires.term in
    let context = subst (λ m. IsContextAt m.world.heap c.args.goal.depth c.args.goal.context) (sym c.self.view_is) c.requires.context in
    let made = c.in_ok-first.ensures.ok in
    let kept = all-kept w w' saved c.self.invariant.saved (push-keeps w w' f saved made.1 c.self.invariant.saved) in
    record {
      fine = push-old w w' f c.self.inside.first made.1 c.self.invariant.fine valid context c.self.invariant.fine.there;
      saved = subst (λ xs. AllSaved w' (reverse xs)) (sym c.in_err-push.ensures.err) kept;
    }

pub invariant_of-self-2 : goal.invariant_of-self-2
invariant_of-self-2 c =
    let w = c.self.inside.stage in
    let w' = c.push.new.self in
    let saved = reverse c.self.inside.choices in
    let f : Frame = record { depth = c.args.goal.depth; barrier = c.args.goal.barrier; term = c.args.goal.term; next = c.self.inside.first; context = c.args.goal.context } in
    let a : Saved = record { mark = c.mark-mark.result; first = c.in_ok-first.first; left = Side } in
    let valid = subst (λ m. IsValid m.world.heap c.args.goal.term.index c.args.goal.depth) (sym c.self.view_is) c.requires.term in
    let context = subst (λ m. IsContextAt m.world.heap c.args.goal.depth c.args.goal.context) (sym c.self.view_is) c.requires.context in
    let made = c.in_ok-first.ensures.ok in
    let kept = all-kept w w' saved c.self.invariant.saved (push-keeps w w' f saved made.1 c.self.invariant.saved) in
    let order = ap reverse c.in_ok-push.ensures.ok ∙ newest-last c.self.inside.choices a in
    let fine = push-fine w w' f c.in_ok-first.first made.1 made.0 c.self.invariant.fine valid context in
    record {
      fine = push-old w w' f c.self.inside.first made.1 c.self.invariant.fine valid context c.self.invariant.fine.there;
      saved = subst (AllSaved w') (sym order) (saved-now w' a saved c.mark-mark.ensures.now c.mark-mark.ensures.closed fine tt kept);
    }

pub returns-clause-alternatives : goal.returns-clause-alternatives
returns-clause-alternatives c = λ p.
    let w = c.self.inside.stage in
    let w' = c.push.new.self in
    let saved = reverse c.self.inside.choices in
    let f : Frame = record { depth = c.args.goal.depth; barrier = c.args.goal.barrier; term = c.args.goal.term; next = c.self.inside.first; context = c.args.goal.context } in
    let a : Saved = record { mark = c.mark-mark.result; first = c.in_ok-first.first; left = Side } in
    let made = c.in_ok-first.ensures.ok in
    let order = ap reverse c.in_ok-push.ensures.ok ∙ newest-last c.self.inside.choices a in
    let one = saved-now_reads p w' a c.mark-mark.ensures.now ∙ ap (λ b. left_at p b Side) (push-reads w w' f c.in_ok-first.first made.1 made.0) in
    let others = all-read-kept p w w' saved c.self.invariant.saved (push-keeps w w' f saved made.1 c.self.invariant.saved) in
    ap (alternatives_in p w') order
    ∙ ap (λ (x : Alternative). x ∷ alternatives_in p w' saved) one
    ∙ ap (λ (xs : List Alternative). left_at p (record (branch_in w c.self.inside.first) { goals = goal_in w.heap f ∷ (branch_in w c.self.inside.first).goals }) Side ∷ xs) others
    ∙ ap (λ m. other_side (record (branch_of m) { goals = goal_in m.world.heap c.args.goal ∷ (branch_of m).goals; path = RightSide ∷ (branch_of m).path }) ∷ alternatives_of p m) c.self.view_is
