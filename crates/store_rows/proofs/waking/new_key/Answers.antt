use Rattle.std.proofs.Common.{◌∷◌, [], length, ap, ◌∙◌, arith, length-append}
use Rattle.level_terms.proofs.GrowthLemmas.{grows-trans}
use Rattle.level_terms.proofs.MakeLemmas.{new-var}
use Rattle.store_rows.proofs.waking.new_key.Goals as goal

pub var-requires : goal.var-requires
var-requires c = omega (arith, c.in_ok-v.ensures.ok.0, ap (λ g. length g.depths) c.in_ok-v.ensures.ok.1, length-append c.args.heap.now.depths (0 ∷ []))

pub returns-clause-valid : goal.returns-clause-valid
returns-clause-valid c =
    (new-var c.args.heap.now c.fresh_var.new.self c.var.new.self c.in_ok-v.v c.in_ok-t.t 0 c.is_sound.ensures c.is_sound-3.ensures
    c.in_ok-v.ensures.ok.0 c.in_ok-v.ensures.ok.1 c.in_ok-t.ensures.ok.0 c.in_ok-t.ensures.ok.1).holds 0 (omega arith)

pub returns-clause-grows : goal.returns-clause-grows
returns-clause-grows c = grows-trans c.args.heap.now c.fresh_var.new.self c.var.new.self [] [] [] c.fresh_var.ensures.grows c.var.ensures.grows

pub returns-in_err-t-clause-grows : goal.returns-in_err-t-clause-grows
returns-in_err-t-clause-grows c = grows-trans c.args.heap.now c.fresh_var.new.self c.var.new.self [] [] [] c.fresh_var.ensures.grows c.var.ensures.grows
