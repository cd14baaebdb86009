-- The numbers of the statuses.
use Rattle.std.specs.Prelude.{ℕ}
use Rattle.elpi_cli.specs.declared.status.Status.{Status}
use Rattle.elpi_cli.specs.declared.status.Status.TheVariants.{Done, NoAnswer, Words, Refused, Fault, Budget, Missing, TooLong, ReadFault, WriteFault, Memory}

-- the number that the program ends with
abbrev pub exit_number : Status → ℕ
exit_number Done = 0
exit_number NoAnswer = 1
exit_number Words = 2
exit_number Refused = 3
exit_number Fault = 4
exit_number Budget = 5
exit_number Missing = 6
exit_number TooLong = 7
exit_number ReadFault = 8
exit_number WriteFault = 9
exit_number Memory = 10
