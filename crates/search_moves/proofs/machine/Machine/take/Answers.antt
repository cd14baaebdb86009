use Rattle.std.proofs.Common.{◌≤◌, length, reverse, sym, ap, ◌∙◌, arith}
use Rattle.ref_terms.specs.search.Branch.{with_goals}
use Rattle.search_moves.specs.Saved.{newest_frames}
use Rattle.search_moves.specs.Machine.{alternatives_of, branch_of, rest_of}
use Rattle.search_moves.proofs.SavedLemmas.{all-kept, all-read-kept}
use Rattle.search_moves.proofs.MachineLemmas.{cut-keeps, cut-fine, cut-reads, newest-within}
use Rattle.search_moves.proofs.machine.Machine.take.Goals as goal

pub invariant_of-self : goal.invariant_of-self
invariant_of-self c =
    let w = c.self.inside.stage in
    let n = c.args.goal.now.next in
    let saved = reverse c.self.inside.choices in
    let low : newest_frames saved ≤ n = omega (arith, c.protected-protected.ensures, ap (λ m. newest_frames m.saved) c.self.view_is, c.if-protected-goal.true) in
    let high : n ≤ length w.frames = omega (arith, c.requires.later, ap (λ m. m.first) c.self.view_is, c.self.invariant.fine.there) in
    record {
      fine = cut-fine w c.cut.new.self n c.self.inside.first n c.cut.ensures (omega arith) high c.self.invariant.fine;
      saved = all-kept w c.cut.new.self saved c.self.invariant.saved (cut-keeps w c.cut.new.self n saved c.cut.ensures low high c.self.invariant.saved);
    }

pub invariant_of-self-else-protected-goal : goal.invariant_of-self-else-protected-goal
invariant_of-self-else-protected-goal c =
    let w = c.self.inside.stage in
    let n = c.protected-protected.result in
    let saved = reverse c.self.inside.choices in
    let is = c.protected-protected.ensures ∙ ap (λ m. newest_frames m.saved) (sym c.self.view_is) in
    let high : n ≤ length w.frames = omega (arith, is, newest-within w saved c.self.invariant.saved) in
    record {
      fine = cut-fine w c.cut-else-protected-goal.new.self n c.self.inside.first c.args.goal.now.next c.cut-else-protected-goal.ensures c.if-protected-goal.false high c.self.invariant.fine;
      saved = all-kept w c.cut-else-protected-goal.new.self saved c.self.invariant.saved (cut-keeps w c.cut-else-protected-goal.new.self n saved c.cut-else-protected-goal.ensures (omega (arith, is)) high c.self.invariant.saved);
    }

pub returns-then-protected-goal-clause-branch : goal.returns-then-protected-goal-clause-branch
returns-then-protected-goal-clause-branch c =
    let w = c.self.inside.stage in
    let n = c.args.goal.now.next in
    let high : n ≤ length w.frames = omega (arith, c.requires.later, ap (λ m. m.first) c.self.view_is, c.self.invariant.fine.there) in
    cut-reads w c.cut.new.self n c.self.inside.first n c.cut.ensures (omega arith) high
    ∙ ap (λ m. with_goals (rest_of m c.args.goal.now) (branch_of m)) c.self.view_is

pub returns-then-protected-goal-clause-alternatives : goal.returns-then-protected-goal-clause-alternatives
returns-then-protected-goal-clause-alternatives c = λ p.
    let w = c.self.inside.stage in
    let n = c.args.goal.now.next in
    let saved = reverse c.self.inside.choices in
    let low : newest_frames saved ≤ n = omega (arith, c.protected-protected.ensures, ap (λ m. newest_frames m.saved) c.self.view_is, c.if-protected-goal.true) in
    let high : n ≤ length w.frames = omega (arith, c.requires.later, ap (λ m. m.first) c.self.view_is, c.self.invariant.fine.there) in
    all-read-kept p w c.cut.new.self saved c.self.invariant.saved (cut-keeps w c.cut.new.self n saved c.cut.ensures low high c.self.invariant.saved)
    ∙ ap (alternatives_of p) c.self.view_is

pub returns-else-protected-goal-clause-branch : goal.returns-else-protected-goal-clause-branch
returns-else-protected-goal-clause-branch c =
    let w = c.self.inside.stage in
    let n = c.protected-protected.result in
    let saved = reverse c.self.inside.choices in
    let is = c.protected-protected.ensures ∙ ap (λ m. newest_frames m.saved) (sym c.self.view_is) in
    let high : n ≤ length w.frames = omega (arith, is, newest-within w saved c.self.invariant.saved) in
    cut-reads w c.cut-else-protected-goal.new.self n c.self.inside.first c.args.goal.now.next c.cut-else-protected-goal.ensures c.if-protected-goal.false high
    ∙ ap (λ m. with_goals (rest_of m c.args.goal.now) (branch_of m)) c.self.view_is

pub returns-else-protected-goal-clause-alternatives : goal.returns-else-protected-goal-clause-alternatives
returns-else-protected-goal-clause-alternatives c = λ p.
    let w = c.self.inside.stage in
    let n = c.protected-protected.result in
    let saved = reverse c.self.inside.choices in
    let is = c.protected-protected.ensures ∙ ap (λ m. newest_frames m.saved) (sym c.self.view_is) in
    let high : n ≤ length w.frames = omega (arith, is, newest-within w saved c.self.invariant.saved) in
    all-read-kept p w c.cut-else-protected-goal.new.self saved c.self.invariant.saved (cut-keeps w c.cut-else-protected-goal.new.self n saved c.cut-else-protected-goal.ensures (omega (arith, is)) high c.self.invariant.saved)
    ∙ ap (alternatives_of p) c.self.view_is
