use Rattle.std.proofs.Common.{List, sym, ◌∙◌, subst}
use Rattle.level_terms.specs.declared.node.Change.{Change}
use Rattle.level_terms.specs.Growth.{Grows}
use Rattle.level_terms.specs.Valid.{IsValid}
use Rattle.level_terms.proofs.GrowthLemmas.{grows-trans, grows-notes}
use Rattle.beta_fragment.proofs.MoveLemmas.{assigned-before}
use Rattle.level_terms.proofs.ReadLemmas.{valid-below}
use Rattle.pattern_unify.proofs.KeptLemmas.{others-grown}
use Rattle.pattern_unify.proofs.ClosedNodes.{alike-binds, leaves-others, same-depth}
use Rattle.pattern_unify.proofs.assigning.assign_over.Goals as goal

pub returns-in_err-value-clause-others : goal.returns-in_err-value-clause-others
returns-in_err-value-clause-others c = others-grown c.args.heap.now c.moved_to.new.heap c.args.v.index c.moved_to.ensures.grows

pub returns-in_err-value-clause-grows : goal.returns-in_err-value-clause-grows
returns-in_err-value-clause-grows c = grows-notes c.args.heap.now c.moved_to.new.heap c.args.trail.now.entries c.moved_to.ensures.grows

pub returns-in_err-reserve-clause-others : goal.returns-in_err-reserve-clause-others
returns-in_err-reserve-clause-others c = others-grown c.args.heap.now c.moved_to.new.heap c.args.v.index c.moved_to.ensures.grows

pub returns-in_err-reserve-clause-grows : goal.returns-in_err-reserve-clause-grows
returns-in_err-reserve-clause-grows c =
    subst (λ (t : List Change). Grows c.args.heap.now c.moved_to.new.heap c.args.trail.now.entries t) (sym c.reserve.ensures.entries)
    (grows-notes c.args.heap.now c.moved_to.new.heap c.args.trail.now.entries c.moved_to.ensures.grows)

pub assign-requires-clause-value : goal.assign-requires-clause-value
assign-requires-clause-value c = valid-below c.moved_to.new.heap c.in_ok-value.value.index c.var_depth-depth.result c.in_ok-value.ensures.alike.valid

pub assign-requires-clause-free : goal.assign-requires-clause-free
assign-requires-clause-free c = assigned-before c.args.heap.now c.moved_to.new.heap c.moved_to.ensures.grows c.args.v.index ∙ c.requires.variable.free

pub assign-requires-clause-valid : goal.assign-requires-clause-valid
assign-requires-clause-valid c =
    subst (IsValid c.moved_to.new.heap c.in_ok-value.value.index)
    (sym (same-depth c.args.heap.now c.moved_to.new.heap c.args.v.index c.var_depth-depth.result c.moved_to.ensures.variables c.var_depth-depth.ensures))
    c.in_ok-value.ensures.alike.valid

pub assign-requires-clause-unreached : goal.assign-requires-clause-unreached
assign-requires-clause-unreached c = c.in_ok-value.ensures.alike.unreached c.args.v.index c.requires.unreached

pub returns-clause-bound : goal.returns-clause-bound
returns-clause-bound c =
    alike-binds c.args.heap.now c.moved_to.new.heap c.assign.new.self c.args.v.index c.var_depth-depth.result c.args.count c.args.body.index c.in_ok-value.value.index c.is_sound.ensures c.is_sound-2.ensures c.moved_to.ensures.grows
    (same-depth c.args.heap.now c.moved_to.new.heap c.args.v.index c.var_depth-depth.result c.moved_to.ensures.variables c.var_depth-depth.ensures)
    c.in_ok-value.ensures.alike c.assign.ensures.heap

pub returns-clause-others : goal.returns-clause-others
returns-clause-others c = leaves-others c.args.heap.now c.moved_to.new.heap c.assign.new.self c.args.v.index c.in_ok-value.value.index c.moved_to.ensures.grows c.assign.ensures.heap

pub returns-clause-grows : goal.returns-clause-grows
returns-clause-grows c =
    grows-trans c.args.heap.now c.moved_to.new.heap c.assign.new.self c.args.trail.now.entries c.reserve.new.self.entries c.assign.new.trail.entries
    (subst (λ (t : List Change). Grows c.args.heap.now c.moved_to.new.heap c.args.trail.now.entries t) (sym c.reserve.ensures.entries)
    (grows-notes c.args.heap.now c.moved_to.new.heap c.args.trail.now.entries c.moved_to.ensures.grows))
    c.assign.ensures.grows
