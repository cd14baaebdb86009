-- Texts of files that are read one after another.
use Rattle.std.proofs.Common.{◌≡◌, ℕ, ◌+◌, ◌<◌, ◌≤◌, List, [], ◌∷◌, ◌++◌, length, drop, get_or, Ok, Err, refl, ap, sym, ◌∙◌, add-one, append_assoc}
use Rattle.std.proofs.Math.Seq.{drop-cons}
use Rattle.std.proofs.lemmas.List.{append-nil, drop_all}
use Rattle.std.proofs.lemmas.Grind.{flat_map-append}
use Rattle.std.specs.declared.result.Result.{Result}
use Rattle.lam_io.specs.declared.byte_text.FileEntry.{FileEntry}
use Rattle.lp_parser.specs.declared.ast.Item.{Item}
use Rattle.elpi_cli.specs.declared.texts.TextStop.{TextStop}
use Rattle.elpi_cli.specs.declared.texts.TextStop.TheVariants.{Refused, Memory}
use Rattle.elpi_cli.specs.Output.{Output}
use Rattle.elpi_cli.specs.Texts.{items_of, FileItems, file_of, all_items, with_items, items_read}
use Rattle.elpi_cli.specs.Static.{no_file}
use Rattle.elpi_cli.specs.Begins.{StopsAt, ReadsProgram}

-- the items that were read, before those that are read after them
abbrev pub behind : List FileItems → Result (List FileItems) Output → Result (List FileItems) Output
behind items (Ok later) = Ok (items ++ later)
behind items (Err refusal) = Err refusal

-- one more
behind-one : (items : List FileItems) (name : List ℕ) (more : List Item) (later : Result (List FileItems) Output) → behind items (with_items name (Ok more) later) ≡ behind (items ++ file_of name more ∷ []) later
behind-one items name more (Ok later) = ap Ok (sym (append_assoc items (file_of name more ∷ []) later))
behind-one items name more (Err refusal) = refl

-- nothing was read
behind-none : (later : Result (List FileItems) Output) → later ≡ behind [] later
behind-none (Ok later) = refl
behind-none (Err refusal) = refl

-- what was read so far of these files
pub record Stands (files : List FileEntry) (count : ℕ) (ast : List Item) : Type 0 where
  pub items : List FileItems
  pub read : items_read 0 files ≡ behind items (items_read count (drop count files))
  pub text : ast ≡ all_items items

-- nothing was read
pub stands-first : (files : List FileEntry) → Stands files 0 []
stands-first files = record { items = []; read = behind-none (items_read 0 files); text = refl }

-- the files that are left begin with the next
rest-is : (files : List FileEntry) (count : ℕ) (f : FileEntry) → count < length files → get_or files count no_file ≡ f → drop count files ≡ f ∷ drop (count + 1) files
rest-is files count f less is =
    drop-cons files count no_file less ∙ ap (λ (n : ℕ). get_or files count no_file ∷ drop n files) (sym (add-one count)) ∙ ap (λ (g : FileEntry). g ∷ drop (count + 1) files) is

-- one more was read
pub stands-next : (files : List FileEntry) (count : ℕ) (f : FileEntry) (more ast now : List Item) → count < length files → get_or files count no_file ≡ f → items_of f.name count f.bytes ≡ Ok more
    → now ≡ ast ++ more → Stands files count ast → Stands files (count + 1) now
stands-next files count f more ast now less is read now_is stands =
    let rest = drop (count + 1) files in
    record {
      items = stands.items ++ file_of f.name more ∷ [];
      read = stands.read
          ∙ ap (λ (fs : List FileEntry). behind stands.items (items_read count fs)) (rest-is files count f less is)
          ∙ ap (λ (r : Result (List Item) (List ℕ)). behind stands.items (with_items f.name r (items_read (count + 1) rest))) read
          ∙ behind-one stands.items f.name more (items_read (count + 1) rest);
      text = now_is ∙ ap (λ (is : List Item). is ++ more) stands.text
          ∙ ap (λ (is : List Item). all_items stands.items ++ is) (sym (append-nil more))
          ∙ sym (flat_map-append (λ (g : FileItems). g.items) stands.items (file_of f.name more ∷ []));
    }

-- all were read
pub stands-last : (files : List FileEntry) (count : ℕ) (ast : List Item) → length files ≤ count → Stands files count ast → ReadsProgram files (Ok ast)
stands-last files count ast all stands = (
  stands.items,
  stands.read ∙ ap (λ (fs : List FileEntry). behind stands.items (items_read count fs)) (drop_all count files all) ∙ ap Ok (append-nil stands.items),
  stands.text,
)

-- a text is refused
pub stands-refused : (files : List FileEntry) (count : ℕ) (f : FileEntry) (stop : TextStop) (ast : List Item) → count < length files → get_or files count no_file ≡ f → StopsAt (items_of f.name count f.bytes) stop
    → Stands files count ast → ReadsProgram files (Err stop)
stands-refused files count f (Refused last) ast less is refused stands =
    stands.read
    ∙ ap (λ (fs : List FileEntry). behind stands.items (items_read count fs)) (rest-is files count f less is)
    ∙ ap (λ (r : Result (List Item) (List ℕ)). behind stands.items (with_items f.name r (items_read (count + 1) (drop (count + 1) files)))) refused
stands-refused files count f Memory ast less is refused stands = tt
