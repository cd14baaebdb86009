use Rattle.decl_types.proofs.Tables.{gains-decls}
use Rattle.decl_types.proofs.table.declare_each.Goals as goal

pub loop-decl-preserved : goal.loop-decl-preserved
loop-decl-preserved c =
    gains-decls c.args.table.now.items c.loop-decl.table.items c.declare_in.new.table.items c.args.decls.now c.loop-decl.decl-index c.decl-item.result c.loop-decl-test.true c.decl-item.is
    c.loop-decl.invariant c.in_ok-declare_in.ensures
