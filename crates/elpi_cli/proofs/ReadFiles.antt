-- Files that are read one after another.
use Rattle.std.proofs.Common.{◌≡◌, ℕ, zero, suc, ◌+◌, ◌<◌, ◌≤◌, nat_lt, false, List, [], ◌∷◌, ◌++◌, length, take, drop, get_or, None, Some, Ok, Err, IfSome, IsSomeAnd, refl, ap, sym, subst, ◌∙◌, add-one, append_assoc, le-ltb, arith}
use Rattle.std.proofs.Math.Seq.{take-suc, drop-cons}
use Rattle.std.proofs.lemmas.List.{map-append, append-nil, drop_all}
use Rattle.std.specs.Prelude.{slice_get}
use Rattle.std.specs.String.{string_bytes}
use Rattle.std.specs.declared.option.Option.{Option}
use Rattle.std.specs.declared.result.Result.{Result}
use Rattle.lam_io.specs.declared.byte_text.FileEntry.{FileEntry}
use Rattle.lam_io.specs.Reads.{bytes_of}
use Rattle.elpi_cli.specs.declared.sources.Source.{Source}
use Rattle.elpi_cli.specs.declared.sources.FileStop.{FileStop}
use Rattle.elpi_cli.specs.declared.sources.FileStop.TheVariants as unread
use Rattle.elpi_cli.specs.declared.status.Status.TheVariants.{ReadFault}
use Rattle.elpi_cli.specs.Output.{Output, line_only}
use Rattle.elpi_cli.specs.Static.{no_file, file_with}
use Rattle.elpi_cli.specs.Texts.{file_limit, before_files, with_file, files_read}
use Rattle.elpi_cli.specs.Top.{AreWithin, files_for}
use Rattle.elpi_cli.specs.inside.Sources.{entry_of, entries_of, StopsAtFile, IsSourceOf, ReadsSource, StopsAtFiles}
use Rattle.elpi_cli.proofs.CausesTexts.{within-files}

-- the files that were read, before those that are read after them
abbrev pub behind : List FileEntry → Result (List FileEntry) Output → Result (List FileEntry) Output
behind files (Ok later) = Ok (files ++ later)
behind files (Err refusal) = Err refusal

-- one more
behind-one : (files : List FileEntry) (file : FileEntry) (later : Result (List FileEntry) Output) → behind files (before_files file later) ≡ behind (files ++ file ∷ []) later
behind-one files file (Ok later) = ap Ok (sym (append_assoc files (file ∷ []) later))
behind-one files file (Err refusal) = refl

-- nothing is left
pub behind-nothing : (files : List FileEntry) → behind files (Ok []) ≡ Ok files
behind-nothing files = ap Ok (append-nil files)

-- none was read
pub behind-none : (later : Result (List FileEntry) Output) → later ≡ behind [] later
behind-none (Ok later) = refl
behind-none (Err refusal) = refl

-- one more file within the limit
within-more : (told : List FileEntry) (before : List (List ℕ)) (name : List ℕ) → AreWithin told before → IsSomeAnd (bytes_of told name) (λ bytes. length bytes ≤ file_limit) → AreWithin told (before ++ name ∷ [])
within-more told [] name all one = (one, tt)
within-more told (first ∷ before) name all one = (all.0, within-more told before name all.1 one)

-- a file that was read is within the limit
source-within : (name : List ℕ) (found : Option (List ℕ)) (source : Source) → IsSourceOf name found source → IsSomeAnd found (λ bytes. length bytes ≤ file_limit)
source-within name found source is = subst (λ (f : Option (List ℕ)). IsSomeAnd f (λ bytes. length bytes ≤ file_limit)) (sym is.text_is) is.within

-- and stands before the later ones
source-before : (name : List ℕ) (found : Option (List ℕ)) (source : Source) (later : Result (List FileEntry) Output) → IsSourceOf name found source → with_file name found later ≡ before_files (entry_of source) later
source-before name found source later is =
    let short : nat_lt file_limit (length source.text) ≡ false = le-ltb file_limit (length source.text) is.within in
    rw (is.text_is, ← is.name_is, short) refl

-- what was read so far, of these names
pub record Stands (names : List (List ℕ)) (count : ℕ) (sources : List Source) (told : List FileEntry) : Type 0 where
  pub read : files_read told names ≡ behind (entries_of sources) (files_read told (drop count names))
  pub within : AreWithin told (take count names)

-- the names, split at one
split-at : (names : List (List ℕ)) (count : ℕ) → count < length names → names ≡ take count names ++ get_or names count [] ∷ drop (suc count) names
split-at [] count less = absurd (omega arith)
split-at (name ∷ names) zero less = refl
split-at (name ∷ names) (suc count) less = ap (λ (ns : List (List ℕ)). name ∷ ns) (split-at names count (omega arith))

-- nothing was read
stands-first : (names : List (List ℕ)) (told : List FileEntry) → Stands names 0 [] told
stands-first names told = record { read = behind-none (files_read told names); within = tt }

-- one more was read
stands-next : (names : List (List ℕ)) (count : ℕ) (sources : List Source) (source : Source) (told : List FileEntry) → count < length names → IsSourceOf (get_or names count []) (bytes_of told (get_or names count [])) source
    → Stands names count sources told → Stands names (count + 1) (sources ++ source ∷ []) told
stands-next names count sources source told less is stands =
    let name = get_or names count [] in
    let rest : drop count names ≡ name ∷ drop (count + 1) names = drop-cons names count [] less ∙ ap (λ (n : ℕ). name ∷ drop n names) (sym (add-one count)) in
    let first : take (count + 1) names ≡ take count names ++ name ∷ [] = ap (λ (n : ℕ). take n names) (add-one count) ∙ take-suc names count [] less in
    record {
      read = stands.read
          ∙ ap (λ (ns : List (List ℕ)). behind (entries_of sources) (files_read told ns)) rest
          ∙ ap (behind (entries_of sources)) (source-before name (bytes_of told name) source (files_read told (drop (count + 1) names)) is)
          ∙ behind-one (entries_of sources) (entry_of source) (files_read told (drop (count + 1) names))
          ∙ ap (λ (es : List FileEntry). behind es (files_read told (drop (count + 1) names))) (sym (map-append entry_of sources (source ∷ [])));
      within = subst (AreWithin told) (sym first) (within-more told (take count names) name stands.within (source-within name (bytes_of told name) source is));
    }

-- all were read
stands-last : (names : List (List ℕ)) (count : ℕ) (sources : List Source) (told : List FileEntry) → length names ≤ count → Stands names count sources told → files_read told names ≡ Ok (entries_of sources)
stands-last names count sources told all stands =
    stands.read ∙ ap (λ (ns : List (List ℕ)). behind (entries_of sources) (files_read told ns)) (drop_all count names all) ∙ behind-nothing (entries_of sources)

-- a file that isn't read stops the others
stands-stopped : (told : List FileEntry) (names before after : List (List ℕ)) (name : List ℕ) (stop : FileStop) → names ≡ before ++ name ∷ after → AreWithin told before → StopsAtFile name (bytes_of told name) stop → StopsAtFiles told names stop
stands-stopped told names before after name (unread.Unread line ReadFault) split within stops = (name, (before, after, split, within), stops.0, stops.1)
stands-stopped told names before after name (unread.Unread line status) split within stops =
    ap (files_read told) split ∙ within-files told before (name ∷ after) (line_only (string_bytes line) status) within (stops (files_read told after))
stands-stopped told names before after name unread.Memory split within stops = tt

-- where a name is left, the files are told
known-named : (names : List (List ℕ)) (count : ℕ) (known : Option (List FileEntry)) → count < length names → files_for names known ≡ known
known-named [] count known less = absurd (omega arith)
known-named (name ∷ names) count known less = refl

-- nothing was read, whatever is told
pub sources-first : (names : List (List ℕ)) (known : Option (List FileEntry)) → IfSome (files_for names known) (Stands names 0 [])
sources-first names known = go (files_for names known)
  where
    go : (told : Option (List FileEntry)) → IfSome told (Stands names 0 [])
    go None = tt
    go (Some told) = stands-first names told

-- one more was read, whatever is told
pub sources-next : (names : List (List ℕ)) (count : ℕ) (sources : List Source) (source : Source) (name : List ℕ) (known now : Option (List FileEntry)) → count < length names → get_or names count [] ≡ name → now ≡ known
    → IfSome now (λ told. ReadsSource name (bytes_of told name) (Ok source)) → IfSome (files_for names known) (Stands names count sources) → IfSome (files_for names known) (Stands names (count + 1) (sources ++ source ∷ []))
sources-next names count sources source name known now less named same reads stands =
    rw (known-named names count known less) (go known (rw (known-named names count known less) at stands) (rw (same, ← named) at reads))
  where
    go : (told : Option (List FileEntry)) → IfSome told (Stands names count sources) → IfSome told (λ t. IsSourceOf (get_or names count []) (bytes_of t (get_or names count [])) source) → IfSome told (Stands names (count + 1) (sources ++ source ∷ []))
    go None before is = tt
    go (Some told) before is = stands-next names count sources source told less is before

-- all were read, whatever is told
pub sources-last : (names : List (List ℕ)) (count : ℕ) (sources : List Source) (known : Option (List FileEntry)) → length names ≤ count → IfSome (files_for names known) (Stands names count sources) → IfSome (files_for names known) (λ told. files_read told names ≡ Ok (entries_of sources))
sources-last names count sources known all stands = go (files_for names known) stands
  where
    go : (told : Option (List FileEntry)) → IfSome told (Stands names count sources) → IfSome told (λ t. files_read t names ≡ Ok (entries_of sources))
    go None before = tt
    go (Some told) before = stands-last names count sources told all before

-- one isn't read, whatever is told
pub sources-stopped : (names : List (List ℕ)) (count : ℕ) (sources : List Source) (stop : FileStop) (name : List ℕ) (known now : Option (List FileEntry)) → count < length names → get_or names count [] ≡ name → now ≡ known
    → IfSome now (λ told. StopsAtFile name (bytes_of told name) stop) → IfSome (files_for names known) (Stands names count sources) → IfSome (files_for names known) (λ told. StopsAtFiles told names stop)
sources-stopped names count sources stop name known now less named same stops stands =
    rw (known-named names count known less) (go known (rw (known-named names count known less) at stands) (rw (same, ← named) at stops))
  where
    go : (told : Option (List FileEntry)) → IfSome told (Stands names count sources) → IfSome told (λ t. StopsAtFile (get_or names count []) (bytes_of t (get_or names count [])) stop) → IfSome told (λ t. StopsAtFiles t names stop)
    go None before at_name = tt
    go (Some told) before at_name = stands-stopped told names (take count names) (drop (suc count) names) (get_or names count []) stop (split-at names count less) before.within at_name

-- the file with a number, where it was read
pub entry-at : (sources : List Source) (number : ℕ) (source : Source) → slice_get sources number ≡ Some source → file_with (entries_of sources) number ≡ entry_of source
entry-at [] number source is = absurd (cc)
entry-at (first ∷ sources) zero source is = let same : first ≡ source = cc in ap entry_of same
entry-at (first ∷ sources) (suc number) source is = entry-at sources number source is

-- where there is none
pub no-entry : (sources : List Source) (number : ℕ) → slice_get sources number ≡ None → file_with (entries_of sources) number ≡ no_file
no-entry [] number none = refl
no-entry (first ∷ sources) zero none = absurd (cc)
no-entry (first ∷ sources) (suc number) none = no-entry sources number none
