use Rattle.std.proofs.Common.{get_or, refl}
use Rattle.std.proofs.lemmas.List.{get_or_default}
use Rattle.decl_types.specs.TypeRules.{type_name}
use Rattle.decl_types.proofs.Lists.{no-name, mapped-more}
use Rattle.decl_types.proofs.names.push_types.Goals as goal

pub loop-name-preserved : goal.loop-name-preserved
loop-name-preserved c =
    let i = c.loop-name.name-index in
    let x = get_or c.args.declared.now i no-name in
    mapped-more type_name c.args.names.now.items c.loop-name.names.items c.push.new.self.items c.args.declared.now i x
    (type_name x) c.loop-name-test.true (get_or_default c.args.declared.now i no-name x c.loop-name-test.true) refl c.loop-name.invariant c.in_ok-push.ensures.items
