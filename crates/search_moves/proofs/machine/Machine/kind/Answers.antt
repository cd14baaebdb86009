use Rattle.std.proofs.Common.{sym, ap, subst}
use Rattle.level_terms.specs.Reading.{read}
use Rattle.beta_fragment.specs.Names.{names}
use Rattle.goal_form.specs.Kinds.{IsKindOf}
use Rattle.search_moves.proofs.machine.Machine.kind.Goals as goal

pub returns-clause-kind : goal.returns-clause-kind
returns-clause-kind c =
    subst (λ u. IsKindOf c.whnf.new.self.world.heap c.args.goal.now.depth u c.kind_of_form.result) (sym (ap (λ g. g.term) (c.whnf.ensures.goal c.args.goal.now c.requires)))
    (c.kind_of_form.ensures c.whnf.new.self.world.heap c.args.goal.now.depth (read c.args.self.now.world.heap c.args.goal.now.term.index names) c.in_ok-form.ensures.form)
