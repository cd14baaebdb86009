-- The program that comes with the interpreter, which `gen` runs.
use Rattle.std.specs.Prelude.{ℕ, List, [], ◌∷◌, codes}
use Rattle.lam_io.specs.declared.byte_text.FileEntry.{FileEntry}
use Rattle.lp_samples.specs.Chain.{chain_text}

-- the files of a size: the one program, under the name `gen`
abbrev pub sample_files : (size : ℕ) → List FileEntry
sample_files size = record { name = codes "gen"; bytes = chain_text size } ∷ []

-- the query over it, which is asked for one answer
abbrev pub sample_query : List ℕ
sample_query = codes "main T"
