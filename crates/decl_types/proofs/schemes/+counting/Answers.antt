use Rattle.decl_types.proofs.SchemeLemmas.{counted-more}
use Rattle.decl_types.proofs.schemes.+counting.Goals as goal

pub most_variables-loop-ty-preserved : goal.most_variables-loop-ty-preserved
most_variables-loop-ty-preserved t c =
    counted-more c.loop-ty.most c.max-most.result c.in_ok-variables_of.field-0 c.args.types.now c.loop-ty.ty-index c.ty-item.result c.loop-ty-test.true c.ty-item.is
    c.loop-ty.invariant c.in_ok-variables_of.ensures c.max-most.ensures
