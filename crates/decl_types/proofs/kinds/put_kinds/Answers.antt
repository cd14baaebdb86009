use Rattle.std.proofs.Common.{◌++◌, map, take, get_or}
use Rattle.std.proofs.lemmas.List.{get_or_default}
use Rattle.decl_types.specs.TypeRules.{kind_of}
use Rattle.decl_types.proofs.Lists.{no-name}
use Rattle.decl_types.proofs.KindMaps.{kinds-more}
use Rattle.decl_types.proofs.kinds.put_kinds.Goals as goal

pub loop-name-preserved : goal.loop-name-preserved
loop-name-preserved c before are =
    let i = c.loop-name.name-index in
    let x = get_or c.args.names.now i no-name in
    kinds-more c.put_kind.new.kinds before c.args.arity c.args.names.now i x c.loop-name-test.true (get_or_default c.args.names.now i no-name x c.loop-name-test.true)
    (c.in_ok-put_kind.ensures (before ++ map (kind_of c.args.arity) (take i c.args.names.now)) (c.loop-name.invariant before are))
