use Rattle.std.proofs.Common.{sym}
use Rattle.decl_types.proofs.KindMaps.{kind-known, kind-new}
use Rattle.decl_types.proofs.kinds.put_kind.Goals as goal

pub returns-in-Some : goal.returns-in-Some
returns-in-Some c before are = kind-known c.args.kinds.now before c.args.name c.args.arity _ are (sym c.in-Some.ensures.value)

pub returns : goal.returns
returns c before are = kind-new c.args.kinds.now c.insert.new.self before c.args.name c.args.arity are (sym c.in_default.ensures.value) (λ q. c.in_ok-insert.ensures.updates.0 q)
