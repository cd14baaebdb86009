-- What a run that searches does, by what files and sink tell before and after it.
use Rattle.std.specs.Prelude.{◌≡◌, ℕ, List, IfSome, IsErr}
use Rattle.std.specs.declared.option.Option.{Option}
use Rattle.lam_io.specs.declared.byte_text.FileEntry.{FileEntry}
use Rattle.lam_io.specs.Writes.{Appended}
use Rattle.elpi_cli.specs.declared.status.Status.{Status}
use Rattle.elpi_cli.specs.declared.status.Status.TheVariants.{Done, NoAnswer, Words, Refused, Fault, Budget, Missing, TooLong, ReadFault, WriteFault}
use Rattle.elpi_cli.specs.Words.{command}
use Rattle.elpi_cli.specs.Top.{output, known_files, IsRunOf, IsStatusOf}
use Rattle.elpi_cli.specs.Causes.{ComesBy, ComesExactlyBy, IsComplete, IsDone, IsNoAnswer, IsBadWord, IsRefused, IsFault, IsOutOfSteps, IsMissing, IsTooLong}

-- a status comes exactly by its cause, where the files are told
abbrev pub HasCauseOf : List (List ℕ) → Option (List FileEntry) → (cause : List FileEntry → List ℕ → Type 0) → (status result : Status) → Type 0
HasCauseOf words told cause status result = IfSome (known_files words told) (λ files. ComesBy (cause files) (output words files) status result)

-- The run of these words over the files that are told, in which a read or a write may have failed, and which found these
-- bytes in the sink and left those.
pub record IsSearchRun (words : List (List ℕ)) (told : Option (List FileEntry)) (read_failed write_failed : Type 0) (before after : Option (List ℕ)) (result : Status) : Type 0 where
  -- Unless memory, a read or a write failed, the status is the reference's, and so are the bytes.
  pub status : IfSome (known_files words told) (λ files. IsStatusOf words files result)
  pub bytes : IfSome (known_files words told) (λ files. Appended before after (IsRunOf words files read_failed result))
  pub complete : IfSome (known_files words told) (λ files. ¬ read_failed → ¬ write_failed → IsComplete (output words files) before after result)
  -- What each status comes of.
  pub read_fault : result ≡ ReadFault → read_failed
  pub write_fault : result ≡ WriteFault → write_failed
  pub words_are_bad : ComesExactlyBy (IsErr (command words)) Words result
  pub done : HasCauseOf words told (IsDone words) Done result
  pub no_answer : HasCauseOf words told (IsNoAnswer words) NoAnswer result
  pub bad_word : HasCauseOf words told (λ files. IsBadWord words) Words result
  pub refused : HasCauseOf words told (IsRefused words) Refused result
  pub fault : HasCauseOf words told (IsFault words) Fault result
  pub budget : HasCauseOf words told (IsOutOfSteps words) Budget result
  pub missing : HasCauseOf words told (IsMissing words) Missing result
  pub too_long : HasCauseOf words told (IsTooLong words) TooLong result
