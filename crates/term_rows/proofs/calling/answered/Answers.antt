use Rattle.std.proofs.Common.{List, sym, subst}
use Rattle.level_terms.specs.declared.node.TermId.{TermId}
use Rattle.level_terms.specs.Reading.{read}
use Rattle.beta_fragment.specs.HeadForm.{AllValidAt}
use Rattle.beta_fragment.specs.Names.{names}
use Rattle.goal_form.specs.Kinds.{IsKindOf}
use Rattle.pattern_unify.proofs.KeptLemmas.{grows-after}
use Rattle.term_rows.proofs.calling.answered.Goals as goal

pub call_builtin-requires : goal.call_builtin-requires
call_builtin-requires c =
    let kind = subst (IsKindOf c.goal_kind_of.new.heap c.args.depth (read c.args.heap.now c.args.goal.index names)) c.in-Builtin.is c.in_ok-kind.ensures.kind in
    subst (λ (ts : List TermId). AllValidAt c.goal_kind_of.new.heap ts c.args.depth) (sym c.as_slice.ensures) kind.1.0

pub returns-in-Builtin : goal.returns-in-Builtin
returns-in-Builtin c = record { grows = grows-after c.args.heap.now c.goal_kind_of.new.heap c.call_builtin.new.heap c.args.trail.now.entries c.call_builtin.new.trail.entries c.goal_kind_of.ensures.grows c.call_builtin.ensures.grows }
