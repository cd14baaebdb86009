use Rattle.std.proofs.Common.{reverse, sym, ap, ◌∙◌, subst}
use Rattle.level_terms.specs.Valid.{IsValid}
use Rattle.search_moves.specs.declared.frame.Frame.{Frame}
use Rattle.search_moves.specs.World.{IsContextAt}
use Rattle.search_moves.specs.Machine.{alternatives_of}
use Rattle.search_moves.proofs.SavedLemmas.{all-kept, all-read-kept}
use Rattle.search_moves.proofs.MachineLemmas.{push-keeps, push-fine}
use Rattle.search_moves.proofs.machine.Machine.put.Goals as goal

pub invariant_of-self-2 : goal.invariant_of-self-2
invariant_of-self-2 c =
    let w = c.self.inside.stage in
    let f : Frame = record { depth = c.args.goal.depth; barrier = c.args.goal.barrier; term = c.args.goal.term; next = c.self.inside.first; context = c.args.goal.context } in
    let valid = subst (λ m. IsValid m.world.heap c.args.goal.term.index c.args.goal.depth) (sym c.self.view_is) c.requires.term in
    let context = subst (λ m. IsContextAt m.world.heap c.args.goal.depth c.args.goal.context) (sym c.self.view_is) c.requires.context in
    let made = c.in_ok-self-inside.ensures.ok in
    record {
      fine = push-fine w c.push.new.self f c.in_ok-self-inside.field-0 made.1 made.0 c.self.invariant.fine valid context;
      saved = all-kept w c.push.new.self (reverse c.self.inside.choices) c.self.invariant.saved (push-keeps w c.push.new.self f (reverse c.self.inside.choices) made.1 c.self.invariant.saved);
    }

pub returns-clause-alternatives : goal.returns-clause-alternatives
returns-clause-alternatives c = λ p.
    let w = c.self.inside.stage in
    let f : Frame = record { depth = c.args.goal.depth; barrier = c.args.goal.barrier; term = c.args.goal.term; next = c.self.inside.first; context = c.args.goal.context } in
    let made = c.in_ok-self-inside.ensures.ok in
    all-read-kept p w c.push.new.self (reverse c.self.inside.choices) c.self.invariant.saved (push-keeps w c.push.new.self f (reverse c.self.inside.choices) made.1 c.self.invariant.saved)
    ∙ ap (alternatives_of p) c.self.view_is
