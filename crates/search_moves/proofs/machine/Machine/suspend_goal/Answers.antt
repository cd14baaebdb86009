use Rattle.std.proofs.Common.{List, reverse, sym, ap, ◌∙◌, subst}
use Rattle.level_terms.specs.Valid.{IsValid}
use Rattle.beta_fragment.specs.HeadForm.{AllValidAt}
use Rattle.hyp_clause.specs.declared.hyp.Hyp.{Hyp}
use Rattle.suspend.specs.declared.constraint.Constraint.{Constraint}
use Rattle.suspend.specs.Store.{joins}
use Rattle.search_moves.specs.World.{IsContextAt, IsConstraintAt}
use Rattle.search_moves.specs.Machine.{Machine, alternatives_of}
use Rattle.search_moves.proofs.SavedLemmas.{all-kept, all-read-kept}
use Rattle.search_moves.proofs.StoreLemmas.{log-keeps, join-fine, join-reads, suspended}
use Rattle.search_moves.proofs.machine.Machine.suspend_goal.Goals as goal

pub invariant_of-self-2 : goal.invariant_of-self-2
invariant_of-self-2 c =
    let w = c.self.inside.stage in
    let w' = c.suspend_goal.new.self in
    let saved = reverse c.self.inside.choices in
    let x : Constraint (List Hyp) = record { names = c.args.goal.now.depth; context = c.in_ok-context.context; goal = c.args.t; keys = c.args.keys } in
    let is = c.in_ok-suspend_goal.ensures.ok in
    let valid : IsConstraintAt w.heap x = record {
      goal = subst (λ m. IsValid m.world.heap c.args.t.index c.args.goal.now.depth) (sym c.self.view_is) c.requires.suspended;
      keys = subst (λ m. AllValidAt m.world.heap c.args.keys c.args.goal.now.depth) (sym c.self.view_is) c.requires.keys;
      context = subst (IsContextAt w.heap c.args.goal.now.depth) (sym c.in_ok-context.ensures) (subst (λ m. IsContextAt m.world.heap c.args.goal.now.depth c.args.goal.now.context) (sym c.self.view_is) c.requires.context);
    } in
    record {
      fine = join-fine w w' x c.self.inside.first is valid c.self.invariant.fine;
      saved = all-kept w w' saved c.self.invariant.saved (log-keeps w w' (joins x) saved is c.self.invariant.saved);
    }

pub returns-clause-branch : goal.returns-clause-branch
returns-clause-branch c =
    let w = c.self.inside.stage in
    let w' = c.suspend_goal.new.self in
    let x : Constraint (List Hyp) = record { names = c.args.goal.now.depth; context = c.in_ok-context.context; goal = c.args.t; keys = c.args.keys } in
    let m : Machine = record { world = w; first = c.self.inside.first; saved = reverse c.self.inside.choices; phase = c.self.inside.phase } in
    join-reads w w' x c.self.inside.first c.in_ok-suspend_goal.ensures.ok
    ∙ ap (λ hs. suspended m c.args.goal.now.depth hs c.args.t c.args.keys) c.in_ok-context.ensures
    ∙ ap (λ z. suspended z c.args.goal.now.depth c.args.goal.now.context c.args.t c.args.keys) c.self.view_is

pub returns-clause-alternatives : goal.returns-clause-alternatives
returns-clause-alternatives c = λ p.
    let w = c.self.inside.stage in
    let w' = c.suspend_goal.new.self in
    let saved = reverse c.self.inside.choices in
    let x : Constraint (List Hyp) = record { names = c.args.goal.now.depth; context = c.in_ok-context.context; goal = c.args.t; keys = c.args.keys } in
    all-read-kept p w w' saved c.self.invariant.saved (log-keeps w w' (joins x) saved c.in_ok-suspend_goal.ensures.ok c.self.invariant.saved)
    ∙ ap (alternatives_of p) c.self.view_is
