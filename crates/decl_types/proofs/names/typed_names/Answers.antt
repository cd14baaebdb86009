use Rattle.decl_types.specs.TypeRules.{typed_names}
use Rattle.decl_types.proofs.Lists.{flat-more}
use Rattle.decl_types.proofs.names.typed_names.Goals as goal

pub loop-decl-preserved : goal.loop-decl-preserved
loop-decl-preserved c =
    flat-more typed_names c.loop-decl.names.items c.push_types_of.new.names.items c.args.decls.now c.loop-decl.decl-index c.decl-item.result c.loop-decl-test.true c.decl-item.is
    c.loop-decl.invariant c.in_ok-push_types_of.ensures
