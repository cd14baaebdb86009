use Rattle.std.proofs.Common.{◌≡◌, map, take, fold}
use Rattle.type_terms.specs.declared.scheme.Scheme.TheVariants.{Apply}
use Rattle.decl_types.specs.DeclaredTypes.{scheme_of}
use Rattle.decl_types.proofs.schemes.+schemes.Given as goal

abbrev pub invariant-apply_all-loop-arg : goal.invariant-apply_all-loop-arg
invariant-apply_all-loop-arg l = l.scheme ≡ fold Apply l.fn.function (map scheme_of (take l.arg-index l.args))
