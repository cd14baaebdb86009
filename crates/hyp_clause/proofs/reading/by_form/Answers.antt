use Rattle.std.proofs.Common.{◌∙◌, ◌+◌, [], sym}
use Rattle.level_terms.proofs.GrowthLemmas.{grows-refl}
use Rattle.hyp_clause.specs.inside.Parts.{task_of}
use Rattle.hyp_clause.proofs.PartLemmas.{turn-failed, form-failed}
use Rattle.hyp_clause.proofs.reading.by_form.Goals as goal

pub returns-in-Some-clause-turn : goal.returns-in-Some-clause-turn
returns-in-Some-clause-turn c =
    turn-failed c.args.heap.now c.args.heap.now c.args.depth (task_of c.args.part.now) c.in-Some.fault
    (form-failed c.args.heap.now c.args.depth (c.args.depth + c.args.part.now.pis) (task_of c.args.part.now) c.args.form.now c.in-Some.fault c.requires.form (sym c.form_fault_of.ensures ∙ c.in-Some.is))

pub returns-in-Some-clause-grows : goal.returns-in-Some-clause-grows
returns-in-Some-clause-grows c = grows-refl c.args.heap.now []
