use Rattle.std.proofs.Common.{◌≡◌, ℕ, length, None, nat_lt}
use Rattle.std.specs.Prelude.{if◌then◌else◌}
use Rattle.type_terms.specs.Read.{declared_of}
use Rattle.decl_types.specs.DeclaredTypes.{reserved_polytype}
use Rattle.decl_types.proofs.table.reserved_table.Given as goal

abbrev pub invariant-loop-constant : goal.invariant-loop-constant
invariant-loop-constant l = record {
  length : length l.table.items ≡ l.constant;
  types : (c : ℕ) → declared_of l.table.items c ≡ (if nat_lt c l.constant then reserved_polytype c else None);
}
