-- Why a program isn't admitted.
use Rattle.std.specs.Prelude.{◌≡◌, Some}
use Rattle.lp_resolve.specs.declared.program.Program.{Program}
use Rattle.lp_resolve.specs.StaticRules.{first_breach}
use Rattle.mode_check.specs.declared.error.StaticError.{StaticError}
use Rattle.mode_check.specs.declared.error.StaticError.TheVariants.{Broken, Memory}

-- a broken rule with its place is the first one; want of memory may come at any time
abbrev pub IsCause : Program → StaticError → Type 0
IsCause p (Broken rule place) = first_breach p ≡ Some (record { rule = rule; place = place })
IsCause p Memory = Unit {0}
