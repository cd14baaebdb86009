-- What reading a file by its name answers.
use Rattle.std.specs.Prelude.{◌≡◌, ℕ, ◌<◌, List, [], ◌∷◌, length, None, Some, Ok, Err, if◌then◌else◌, IsSome, IsSomeAnd}
use Rattle.std.specs.Str.{bytes_eq}
use Rattle.std.specs.declared.option.Option.{Option}
use Rattle.std.specs.declared.result.Result.{Result}
use Rattle.lam_io.specs.declared.byte_text.FileEntry.{FileEntry}
use Rattle.lam_io.specs.declared.files.FileFail.{FileFail}
use Rattle.lam_io.specs.declared.files.FileFail.TheVariants.{Missing, Failed, TooLong, Memory}

-- the bytes of the first file of that name
abbrev pub bytes_of : List FileEntry → List ℕ → Option (List ℕ)
bytes_of [] name = None
bytes_of (file ∷ files) name =
    if bytes_eq file.name name then Some file.bytes else bytes_of files name

-- what a read of that name may answer, where the files are told
abbrev pub IsReading : List FileEntry → List ℕ → ℕ → Result (List ℕ) FileFail → Type 0
IsReading files name limit (Ok bytes) = bytes_of files name ≡ Some bytes
IsReading files name limit (Err Missing) = bytes_of files name ≡ None
IsReading files name limit (Err Failed) = IsSome (bytes_of files name)
IsReading files name limit (Err TooLong) =
    IsSomeAnd (bytes_of files name) (λ bytes. limit < length bytes)
IsReading files name limit (Err Memory) = Unit {0}
