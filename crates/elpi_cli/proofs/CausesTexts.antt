-- What reading the files and their texts comes to, and why.
use Rattle.std.proofs.Common.{◌≡◌, ℕ, ◌+◌, ◌<◌, ◌≤◌, Bool, true, false, nat_lt, codes, List, [], ◌∷◌, ◌++◌, length, ◌⊎◌, inl, inr, refl, ap, sym, subst, ◌∙◌, arith, None, Some, Ok, Err, IsOk, IsSomeAnd, add-zero, lt-ltb, ltb-true, ltb-false, le-ltb}
use Rattle.std.specs.declared.option.Option.{Option}
use Rattle.std.specs.declared.result.Result.{Result}
use Rattle.lam_io.specs.declared.byte_text.FileEntry.{FileEntry}
use Rattle.lam_io.specs.Reads.{bytes_of}
use Rattle.lp_parser.specs.declared.ast.Item.{Item}
use Rattle.elpi_cli.specs.declared.status.Status.TheVariants.{Refused, Missing, TooLong}
use Rattle.elpi_cli.specs.Output.{Output, line, line_only}
use Rattle.elpi_cli.specs.Texts.{file_limit, before_files, with_file, files_read, items_of, FileItems, with_items, items_read}
use Rattle.elpi_cli.specs.Top.{AreWithin, IsReached}
use Rattle.elpi_cli.specs.Causes.{AreAccepted}

-- the line of a file that isn't there
abbrev pub missing_line : List ℕ → List ℕ
missing_line name = codes "missing: " ++ line name

-- the line of a file that is too long
abbrev pub too_long_line : List ℕ → List ℕ
too_long_line name = codes "too long: " ++ line name

-- a file within the limit leaves the refusal of a later one
within-file : (name : List ℕ) (found : Option (List ℕ)) (later : Result (List FileEntry) Output) (refusal : Output) → IsSomeAnd found (λ bytes. length bytes ≤ file_limit) → later ≡ Err refusal → with_file name found later ≡ Err refusal
within-file name None later refusal within is = absurd within
within-file name (Some bytes) later refusal within is = rw (le-ltb file_limit (length bytes) within, is) refl

-- so do all files within the limit
pub within-files : (told : List FileEntry) (before rest : List (List ℕ)) (refusal : Output) → AreWithin told before → files_read told rest ≡ Err refusal → files_read told (before ++ rest) ≡ Err refusal
within-files told [] rest refusal within is = is
within-files told (name ∷ before) rest refusal within is =
    within-file name (bytes_of told name) (files_read told (before ++ rest)) refusal within.0 (within-files told before rest refusal within.1 is)

-- a file that isn't there is refused
pub missing-file : (name : List ℕ) (found : Option (List ℕ)) (later : Result (List FileEntry) Output) → found ≡ None → with_file name found later ≡ Err (line_only (missing_line name) Missing)
missing-file name found later is = ap (λ (f : Option (List ℕ)). with_file name f later) is

-- so is one that passes the limit
pub long-file : (name : List ℕ) (found : Option (List ℕ)) (later : Result (List FileEntry) Output) → IsSomeAnd found (λ bytes. file_limit < length bytes) → with_file name found later ≡ Err (line_only (too_long_line name) TooLong)
long-file name None later long = absurd long
long-file name (Some bytes) later long = rw (lt-ltb file_limit (length bytes) long) refl

-- why a file is refused
abbrev pub IsFileRefusal : Option (List ℕ) → List ℕ → Output → Type 0
IsFileRefusal found name refusal =
    ((found ≡ None) × (refusal ≡ line_only (missing_line name) Missing))
    ⊎ (IsSomeAnd found (λ bytes. file_limit < length bytes) × (refusal ≡ line_only (too_long_line name) TooLong))

-- a file that is reached is refused
abbrev pub HasFileRefusal : List FileEntry → List (List ℕ) → Output → Type 0
HasFileRefusal told names refusal = (name : List ℕ) × IsReached told names name × IsFileRefusal (bytes_of told name) name refusal

-- the first file is reached
first-reached : (told : List FileEntry) (name : List ℕ) (names : List (List ℕ)) (refusal : Output) → IsFileRefusal (bytes_of told name) name refusal → HasFileRefusal told (name ∷ names) refusal
first-reached told name names refusal why = (name, ([], names, refl, tt), why)

-- a later file is reached behind one within the limit
later-reached : (told : List FileEntry) (name : List ℕ) (names : List (List ℕ)) (refusal : Output) → IsSomeAnd (bytes_of told name) (λ bytes. length bytes ≤ file_limit) → HasFileRefusal told names refusal → HasFileRefusal told (name ∷ names) refusal
later-reached told name names refusal within h =
    (h.0, (name ∷ h.1.0, h.1.1, ap (λ (ns : List (List ℕ)). name ∷ ns) h.1.2, (within, h.1.3)), h.2)

-- a refusal behind a file is that of a later one
refused-later : (file : FileEntry) (later : Result (List FileEntry) Output) (refusal : Output) → before_files file later ≡ Err refusal → later ≡ Err refusal
refused-later file (Ok files) refusal is = absurd (cc)
refused-later file (Err other) refusal is = cc

-- the refusal of a file that is there, or of a later one
by-length : (told : List FileEntry) (name : List ℕ) (names : List (List ℕ)) (refusal : Output) (bytes : List ℕ) (test : Bool) → nat_lt file_limit (length bytes) ≡ test → bytes_of told name ≡ Some bytes
    → ((r : Output) → files_read told names ≡ Err r → HasFileRefusal told names r) → with_file name (Some bytes) (files_read told names) ≡ Err refusal → HasFileRefusal told (name ∷ names) refusal
by-length told name names refusal bytes true long is go refused =
    let why : line_only (too_long_line name) TooLong ≡ refusal = let e = rw long at refused in cc in
    first-reached told name names refusal (inr (subst (λ (f : Option (List ℕ)). IsSomeAnd f (λ b. file_limit < length b)) (sym is) (ltb-true file_limit (length bytes) long), sym why))
by-length told name names refusal bytes false short is go refused =
    later-reached told name names refusal (subst (λ (f : Option (List ℕ)). IsSomeAnd f (λ b. length b ≤ file_limit)) (sym is) (ltb-false file_limit (length bytes) short))
    (go refusal (refused-later (record { name = name; bytes = bytes }) (files_read told names) refusal (rw short at refused)))

-- the refusal of a file, or of a later one
by-bytes : (told : List FileEntry) (name : List ℕ) (names : List (List ℕ)) (refusal : Output) (found : Option (List ℕ)) → bytes_of told name ≡ found
    → ((r : Output) → files_read told names ≡ Err r → HasFileRefusal told names r) → with_file name found (files_read told names) ≡ Err refusal → HasFileRefusal told (name ∷ names) refusal
by-bytes told name names refusal None is go refused =
    let why : line_only (missing_line name) Missing ≡ refusal = cc in
    first-reached told name names refusal (inl (is, sym why))
by-bytes told name names refusal (Some bytes) is go refused = by-length told name names refusal bytes (nat_lt file_limit (length bytes)) refl is go refused

-- the first refused file is reached
pub refused-file : (told : List FileEntry) (names : List (List ℕ)) (refusal : Output) → files_read told names ≡ Err refusal → HasFileRefusal told names refusal
refused-file told [] refusal is = absurd (cc)
refused-file told (name ∷ names) refusal is = by-bytes told name names refusal (bytes_of told name) refl (refused-file told names) is

-- a text that is accepted leaves the refusal of a later one
accepted-file : (name : List ℕ) (found : Result (List Item) (List ℕ)) (later : Result (List FileItems) Output) (refusal : Output) → IsOk found → later ≡ Err refusal → with_items name found later ≡ Err refusal
accepted-file name (Err last) later refusal ok is = absurd (let no : false ≡ true = ok in cc)
accepted-file name (Ok items) later refusal ok is = ap (with_items name (Ok items)) is

-- one more file before the others
add-file : {A : Type 0} (file : ℕ) (f : A) (fs : List A) → file + 1 + length fs ≡ file + length (f ∷ fs)
add-file file f fs = omega arith

-- texts that are accepted leave the refusal of the next
pub refused-file-text : (file : ℕ) (before : List FileEntry) (f : FileEntry) (after : List FileEntry) (last : List ℕ) → AreAccepted file before → items_of f.name (file + length before) f.bytes ≡ Err last → items_read file (before ++ f ∷ after) ≡ Err (line_only last Refused)
refused-file-text file [] f after last accepted is =
    let none : items_of f.name file f.bytes ≡ Err last = subst (λ (n : ℕ). items_of f.name n f.bytes ≡ Err last) (add-zero file) is in
    ap (λ (r : Result (List Item) (List ℕ)). with_items f.name r (items_read (file + 1) after)) none
refused-file-text file (g ∷ before) f after last accepted is =
    accepted-file g.name (items_of g.name file g.bytes) (items_read (file + 1) (before ++ f ∷ after)) (line_only last Refused) accepted.0
    (refused-file-text (file + 1) before f after last accepted.1 (subst (λ (n : ℕ). items_of f.name n f.bytes ≡ Err last) (sym (add-file file g before)) is))

-- a file's text is refused with a line, and those before it are accepted
abbrev pub HasTextRefusal : (file : ℕ) → List FileEntry → Output → Type 0
HasTextRefusal file files refusal =
    (before : List FileEntry) × (f : FileEntry) × (after : List FileEntry) × (last : List ℕ) × (files ≡ before ++ f ∷ after)
    × AreAccepted file before × (items_of f.name (file + length before) f.bytes ≡ Err last) × (refusal ≡ line_only last Refused)

-- a later text is refused behind one that is accepted
later-text : (file : ℕ) (f : FileEntry) (fs : List FileEntry) (refusal : Output) → IsOk (items_of f.name file f.bytes) → HasTextRefusal (file + 1) fs refusal → HasTextRefusal file (f ∷ fs) refusal
later-text file f fs refusal ok h =
    (f ∷ h.0, h.1, h.2, h.3, ap (λ (gs : List FileEntry). f ∷ gs) h.4, (ok, h.5), subst (λ (n : ℕ). items_of h.1.name n h.1.bytes ≡ Err h.3) (add-file file f h.0) h.6, h.7)

-- the refusal of a text behind one that is accepted
by-later : (file : ℕ) (f : FileEntry) (fs : List FileEntry) (refusal : Output) (items : List Item) (later : Result (List FileItems) Output) → items_read (file + 1) fs ≡ later → items_of f.name file f.bytes ≡ Ok items
    → ((r : Output) → items_read (file + 1) fs ≡ Err r → HasTextRefusal (file + 1) fs r) → with_items f.name (Ok items) later ≡ Err refusal → HasTextRefusal file (f ∷ fs) refusal
by-later file f fs refusal items (Ok more) is found go refused = absurd (cc)
by-later file f fs refusal items (Err other) is found go refused =
    let same : other ≡ refusal = cc in
    later-text file f fs refusal (subst IsOk (sym found) refl) (go refusal (is ∙ ap (λ (o : Output). Err o) same))

-- the refusal of a text, or of a later one
by-items : (file : ℕ) (f : FileEntry) (fs : List FileEntry) (refusal : Output) (found : Result (List Item) (List ℕ)) → items_of f.name file f.bytes ≡ found
    → ((r : Output) → items_read (file + 1) fs ≡ Err r → HasTextRefusal (file + 1) fs r) → with_items f.name found (items_read (file + 1) fs) ≡ Err refusal → HasTextRefusal file (f ∷ fs) refusal
by-items file f fs refusal (Err last) is go refused =
    let why : line_only last Refused ≡ refusal = cc in
    ([], f, fs, last, refl, tt, subst (λ (n : ℕ). items_of f.name n f.bytes ≡ Err last) (sym (add-zero file)) is, sym why)
by-items file f fs refusal (Ok items) is go refused = by-later file f fs refusal items (items_read (file + 1) fs) refl is go refused

-- the first text that is refused
pub refused-text : (file : ℕ) (files : List FileEntry) (refusal : Output) → items_read file files ≡ Err refusal → HasTextRefusal file files refusal
refused-text file [] refusal is = absurd (cc)
refused-text file (f ∷ fs) refusal is = by-items file f fs refusal (items_of f.name file f.bytes) refl (refused-text (file + 1) fs) is
