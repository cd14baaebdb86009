use Rattle.std.proofs.Common.{◌≡◌, ℕ, List, [], Option, Some, None, ◌∙◌, sym, subst, option_map, IfOk}
use Rattle.level_terms.specs.Reading.{read}
use Rattle.level_terms.proofs.GrowthLemmas.{grows-trans}
use Rattle.beta_fragment.specs.Names.{names}
use Rattle.eigen_align.specs.inside.Spines.{spine_read}
use Rattle.eigen_align.proofs.FormLemmas.{argument-valid, argument-spine}
use Rattle.eigen_align.proofs.spine.spine_at.Goals as goal

pub spine_of-requires : goal.spine_of-requires
spine_of-requires c = argument-valid c.whnf.new.heap c.args.s.depth (read c.args.heap.now c.args.s.goal.index names) c.in_ok-form.form c.args.argument c.in-Some.t c.in_ok-form.ensures.form (sym c.in-Some.is ∙ c.argument_of.ensures)

pub returns-in-Some-clause-spine : goal.returns-in-Some-clause-spine
returns-in-Some-clause-spine c =
    subst (λ (z : Option (ℕ × List ℕ)). IfOk c.spine_of.result (λ o. option_map spine_read o ≡ z))
    (sym (argument-spine c.args.heap.now c.whnf.new.heap c.args.s c.in_ok-form.form c.args.argument (Some c.in-Some.t) c.in_ok-form.ensures.form (sym c.in-Some.is ∙ c.argument_of.ensures))) c.spine_of.ensures.spine

pub returns-in-Some-clause-grows : goal.returns-in-Some-clause-grows
returns-in-Some-clause-grows c = grows-trans c.args.heap.now c.whnf.new.heap c.spine_of.new.heap [] [] [] c.whnf.ensures.grows c.spine_of.ensures.grows

pub returns-clause-spine : goal.returns-clause-spine
returns-clause-spine c = sym (argument-spine c.args.heap.now c.whnf.new.heap c.args.s c.in_ok-form.form c.args.argument None c.in_ok-form.ensures.form (sym c.in-None.is ∙ c.argument_of.ensures))
