use Rattle.std.proofs.Common.{◌≡◌, ◌<◌, ◌^◌, drop}
use Rattle.std.specs.List.{list_all}
use Rattle.std.specs.Char.{is_ascii_digit}
use Rattle.std.specs.Str.Parse.{digits_value, digits_value_after}
use Rattle.elpi_cli.proofs.words.number_of.Given as goal

-- the digits so far have this value, and those that are left decide
abbrev pub invariant-loop-i : goal.invariant-loop-i
invariant-loop-i l = (l.value < 10 ^ l.i)
    × (digits_value_after 10 l.value (drop l.i l.word) ≡ digits_value 10 l.word)
    × (list_all is_ascii_digit (drop l.i l.word) ≡ list_all is_ascii_digit l.word)
