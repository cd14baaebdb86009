use Rattle.std.proofs.Common.{◌∷◌, [], length, ap, ap₂, ◌∙◌, arith, length-append}
use Rattle.level_terms.proofs.GrowthLemmas.{grows-trans}
use Rattle.level_terms.proofs.MakeLemmas.{new-var}
use Rattle.level_terms.proofs.ReadLemmas.{valid-below}
use Rattle.level_terms.proofs.ValidLemmas.{growth_keeps_readings}
use Rattle.level_terms.specs.Values.{value_of}
use Rattle.ref_terms.specs.search.BranchMove.{applied_whole}
use Rattle.beta_fragment.specs.Names.{names}
use Rattle.search_moves.proofs.FrameLemmas.{valid-grown}
use Rattle.search_moves.proofs.VariableLemmas.{variable-reads}
use Rattle.search_moves.proofs.opening.applied_to_variable.Goals as goal

pub var-requires : goal.var-requires
var-requires c = omega (arith, c.in_ok-v.ensures.ok.0, ap (λ g. length g.depths) c.in_ok-v.ensures.ok.1, length-append c.args.heap.now.depths (c.args.depth ∷ []))

pub apply_whole-requires-clause-function : goal.apply_whole-requires-clause-function
apply_whole-requires-clause-function c =
    valid-grown c.args.heap.now c.var.new.self [] [] c.args.f.index c.args.depth c.is_sound.ensures
    (grows-trans c.args.heap.now c.fresh_var.new.self c.var.new.self [] [] [] c.fresh_var.ensures.grows c.var.ensures.grows) c.requires

pub apply_whole-requires-clause-argument : goal.apply_whole-requires-clause-argument
apply_whole-requires-clause-argument c =
    (new-var c.args.heap.now c.fresh_var.new.self c.var.new.self c.in_ok-v.v c.in_ok-a.a c.args.depth c.is_sound.ensures c.is_sound-3.ensures
    c.in_ok-v.ensures.ok.0 c.in_ok-v.ensures.ok.1 c.in_ok-a.ensures.ok.0 c.in_ok-a.ensures.ok.1).holds c.args.depth (omega arith)

pub returns-clause-reads : goal.returns-clause-reads
returns-clause-reads c =
    let grown = grows-trans c.args.heap.now c.fresh_var.new.self c.var.new.self [] [] [] c.fresh_var.ensures.grows c.var.ensures.grows in
    let made = new-var c.args.heap.now c.fresh_var.new.self c.var.new.self c.in_ok-v.v c.in_ok-a.a c.args.depth c.is_sound.ensures c.is_sound-3.ensures
    c.in_ok-v.ensures.ok.0 c.in_ok-v.ensures.ok.1 c.in_ok-a.ensures.ok.0 c.in_ok-a.ensures.ok.1 in
    c.in_ok-r.ensures.reads
    ∙ ap₂ applied_whole (growth_keeps_readings c.args.heap.now c.var.new.self c.args.f.index names c.is_sound.ensures grown (valid-below c.args.heap.now c.args.f.index c.args.depth c.requires))
    (variable-reads c.args.depth (length c.args.heap.now.depths) (value_of c.var.new.self c.in_ok-a.a) made)

pub returns-clause-variables : goal.returns-clause-variables
returns-clause-variables c = c.apply_whole.ensures.variables ∙ ap (λ g. g.depths) c.in_ok-a.ensures.ok.1 ∙ ap (λ g. g.depths) c.in_ok-v.ensures.ok.1

pub returns-clause-grows : goal.returns-clause-grows
returns-clause-grows c =
    grows-trans c.args.heap.now c.var.new.self c.apply_whole.new.heap [] [] []
    (grows-trans c.args.heap.now c.fresh_var.new.self c.var.new.self [] [] [] c.fresh_var.ensures.grows c.var.ensures.grows) c.apply_whole.ensures.grows

pub returns-in_err-r-clause-grows : goal.returns-in_err-r-clause-grows
returns-in_err-r-clause-grows c =
    grows-trans c.args.heap.now c.var.new.self c.apply_whole.new.heap [] [] []
    (grows-trans c.args.heap.now c.fresh_var.new.self c.var.new.self [] [] [] c.fresh_var.ensures.grows c.var.ensures.grows) c.apply_whole.ensures.grows

pub returns-in_err-a-clause-grows : goal.returns-in_err-a-clause-grows
returns-in_err-a-clause-grows c = grows-trans c.args.heap.now c.fresh_var.new.self c.var.new.self [] [] [] c.fresh_var.ensures.grows c.var.ensures.grows
