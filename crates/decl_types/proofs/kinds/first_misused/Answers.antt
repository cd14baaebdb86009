use Rattle.std.proofs.Common.{nat_eq}
use Rattle.indexmap.specs.IndexMap.{get}
use Rattle.decl_types.specs.TypeRules.{breaches_of_words}
use Rattle.decl_types.proofs.Firsts.{next-first}
use Rattle.decl_types.proofs.kinds.first_misused.Goals as goal

pub loop-decl-preserved : goal.loop-decl-preserved
loop-decl-preserved c =
    next-first (breaches_of_words (get nat_eq c.args.kinds.now)) c.args.decls.now c.loop-decl.decl-index c.decl-item.result c.loop-decl.found c.first_in_decl.result c.earlier-found.result
    c.loop-decl-test.true c.decl-item.is c.loop-decl.invariant c.first_in_decl.ensures c.earlier-found.ensures
