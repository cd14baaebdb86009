use Rattle.std.proofs.Common.{◌∙◌, ap}
use Rattle.level_terms.specs.Reading.{read}
use Rattle.beta_fragment.specs.Names.{names}
use Rattle.ref_terms.specs.unification.Spine.{args_of}
use Rattle.search_moves.proofs.machine.Machine.arguments.Goals as goal

pub constant_arguments-requires : goal.constant_arguments-requires
constant_arguments-requires c = (c.whnf.new.self.world.heap, c.args.goal.now.depth, read c.args.self.now.world.heap c.args.goal.now.term.index names, c.requires.head.0, c.in_ok-form.ensures.form, c.requires.head.1)

pub returns-clause-valid : goal.returns-clause-valid
returns-clause-valid c = (c.constant_arguments.ensures _ _ _ c.in_ok-form.ensures.form).0

pub returns-clause-arguments : goal.returns-clause-arguments
returns-clause-arguments c = ap (λ x. args_of x.term) (c.whnf.ensures.goal c.args.goal.now c.requires.first) ∙ (c.constant_arguments.ensures _ _ _ c.in_ok-form.ensures.form).1
