use Rattle.std.proofs.Common.{◌≡◌, ◌&&◌, nat_lt, is_none, take, filter}
use Rattle.type_terms.specs.Read.{declared_of}
use Rattle.type_texts.proofs.shown.undeclared_of.Given as goal

abbrev pub invariant-loop-constant : goal.invariant-loop-constant
invariant-loop-constant l = l.found.items ≡ filter (λ c. nat_lt c l.count && is_none (declared_of l.declared c)) (take l.constant-index l.constants)
