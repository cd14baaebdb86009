use Rattle.std.proofs.Common.{◌≡◌, [], map, take, flat_map}
use Rattle.lp_resolve.specs.Symbols.{interned_all}
use Rattle.decl_read.specs.DeclReading.{variables_in}
use Rattle.decl_read.proofs.variables.variables_of_args.Given as goal

abbrev pub invariant-loop-arg : goal.invariant-loop-arg
invariant-loop-arg l = map (λ it. it.items) l.variables.keys ≡ interned_all [] (flat_map (λ a. variables_in a.ty) (take l.arg-index l.args))
