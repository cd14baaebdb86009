use Rattle.std.proofs.Common.{[]}
use Rattle.level_terms.specs.Reading.{read}
use Rattle.level_terms.proofs.GrowthLemmas.{grows-trans, grows-notes}
use Rattle.level_terms.proofs.ValidLemmas.{growth_keeps_readings, growth_keeps_valid}
use Rattle.ref_terms.specs.search.BranchMove.{applied_whole}
use Rattle.beta_fragment.specs.Names.{names}
use Rattle.level_terms.proofs.ReadLemmas.{valid-below}
use Rattle.builtins.proofs.CallLemmas.{ok-each, err-each, equated-answer, equated-stops}
use Rattle.builtins.proofs.calling.beta.Goals as goal

pub unify-requires-clause-right : goal.unify-requires-clause-right
unify-requires-clause-right c = growth_keeps_valid c.args.heap.now c.apply_whole.new.heap [] [] c.args.r.index c.args.depth c.is_sound.ensures c.apply_whole.ensures.grows (valid-below c.args.heap.now c.args.r.index c.args.depth c.requires.result) c.requires.result

pub returns-clause-answer : goal.returns-clause-answer
returns-clause-answer c =
    ok-each _ _ c.unify.result
    (λ b w. equated-answer c.args.heap.now c.apply_whole.new.heap c.args.depth (applied_whole (read c.args.heap.now c.args.f.index names) (read c.args.heap.now c.args.a.index names)) (read c.args.heap.now c.args.r.index names) c.in_ok-whole.whole.index c.args.r.index c.apply_whole.ensures.variables c.in_ok-whole.ensures.reads
    (growth_keeps_readings c.args.heap.now c.apply_whole.new.heap c.args.r.index names c.is_sound.ensures c.apply_whole.ensures.grows (valid-below c.args.heap.now c.args.r.index c.args.depth c.requires.result))
    c.unify.new.heap b c.is_sound.ensures c.apply_whole.ensures.grows w) c.unify.ensures.answer

pub returns-clause-stops : goal.returns-clause-stops
returns-clause-stops c =
    err-each _ _ c.unify.result
    (λ stop w. equated-stops c.args.heap.now c.apply_whole.new.heap c.args.depth (applied_whole (read c.args.heap.now c.args.f.index names) (read c.args.heap.now c.args.a.index names)) (read c.args.heap.now c.args.r.index names) c.in_ok-whole.whole.index c.args.r.index c.apply_whole.ensures.variables c.in_ok-whole.ensures.reads
    (growth_keeps_readings c.args.heap.now c.apply_whole.new.heap c.args.r.index names c.is_sound.ensures c.apply_whole.ensures.grows (valid-below c.args.heap.now c.args.r.index c.args.depth c.requires.result)) stop w) c.unify.ensures.stops

pub returns-clause-grows : goal.returns-clause-grows
returns-clause-grows c =
    grows-trans c.args.heap.now c.apply_whole.new.heap c.unify.new.heap c.args.trail.now.entries c.args.trail.now.entries c.unify.new.trail.entries
    (grows-notes c.args.heap.now c.apply_whole.new.heap c.args.trail.now.entries c.apply_whole.ensures.grows) c.unify.ensures.grows
