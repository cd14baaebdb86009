use Rattle.decl_types.specs.TypeRules.{kind_names}
use Rattle.decl_types.proofs.Lists.{flat-more}
use Rattle.decl_types.proofs.names.kind_names.Goals as goal

pub loop-decl-preserved : goal.loop-decl-preserved
loop-decl-preserved c =
    flat-more (kind_names c.args.symbols.now) c.loop-decl.names.items c.push_kinds_of.new.names.items c.args.decls.now c.loop-decl.decl-index c.decl-item.result c.loop-decl-test.true c.decl-item.is
    c.loop-decl.invariant c.in_ok-push_kinds_of.ensures
