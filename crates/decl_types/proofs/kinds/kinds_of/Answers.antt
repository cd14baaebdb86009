use Rattle.std.proofs.Common.{take, flat_map}
use Rattle.decl_types.specs.TypeRules.{kinds_in}
use Rattle.decl_types.proofs.KindMaps.{kinds-in-more}
use Rattle.decl_types.proofs.kinds.kinds_of.Goals as goal

pub loop-decl-preserved : goal.loop-decl-preserved
loop-decl-preserved c =
    kinds-in-more c.put_kinds_of.new.kinds c.args.decls.now c.loop-decl.decl-index c.decl-item.result c.loop-decl-test.true c.decl-item.is
    (c.in_ok-put_kinds_of.ensures (flat_map kinds_in (take c.loop-decl.decl-index c.args.decls.now)) c.loop-decl.invariant)
