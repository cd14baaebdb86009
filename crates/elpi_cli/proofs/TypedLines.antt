-- Lines of types that are written one after another.
use Rattle.std.proofs.Common.{◌≡◌, ◌∙◌, ℕ, suc, ◌+◌, ◌<◌, ◌≤◌, List, [], ◌∷◌, Vec, Global, drop, length, get_or, codes, ap, ap₂, sym, subst, arith}
use Rattle.std.proofs.Math.Seq.{drop-cons}
use Rattle.std.proofs.lemmas.List.{drop_all}
use Rattle.std.specs.declared.option.Option.{Option}
use Rattle.elpi_cli.specs.declared.status.Status.{Status}
use Rattle.elpi_cli.specs.declared.status.Status.TheVariants.{Done, WriteFault}
use Rattle.elpi_cli.specs.Output.{Output, line, line_only, preceded}
use Rattle.elpi_cli.specs.Written.{Emits, Progress, all_of}
use Rattle.elpi_cli.specs.Typed.{typed_output}
use Rattle.elpi_cli.specs.inside.Typing.{bytes_of_lines}
use Rattle.elpi_cli.proofs.Progress.{finishes, goes_on}

-- what is written of the lines from an index on
abbrev pub left_output : List (Vec ℕ Global) → ℕ → Output
left_output lines i = typed_output (bytes_of_lines (drop i lines))

line-next : (lines : List (Vec ℕ Global)) (i : ℕ) (x : Vec ℕ Global) → i < length lines → x ≡ get_or lines i x → left_output lines i ≡ preceded (x.items ∷ []) (left_output lines (i + 1))
line-next lines i x h e =
    let one : suc i ≡ i + 1 = omega arith in
    ap (λ (ls : List (Vec ℕ Global)). typed_output (bytes_of_lines ls))
    (drop-cons lines i x h ∙ ap₂ (λ (y : Vec ℕ Global) (ys : List (Vec ℕ Global)). y ∷ ys) (sym e) (ap (λ (k : ℕ). drop k lines) one))

module _ {S : Type 0} (told : S → Option (List ℕ)) (faults : S → ℕ) (stopped : S → Option (List ℕ)) (lines : List (Vec ℕ Global)) (i : ℕ) (x : Vec ℕ Global) (h : i < length lines) (e : x ≡ get_or lines i x) where
  -- one line more
  pub line-written : (a b c : S) → Progress told faults stopped a b (left_output lines i) (typed_output (bytes_of_lines lines)) → Emits told faults stopped b c (all_of (x.items ∷ [])) Done
      → Progress told faults stopped a c (left_output lines (i + 1)) (typed_output (bytes_of_lines lines))
  line-written a b c before one =
      goes_on told faults stopped a b c (left_output lines (i + 1)) (left_output lines i) (typed_output (bytes_of_lines lines)) before
      (record { pieces = x.items ∷ []; emitted = one; whole_is = sym (line-next lines i x h e) })

  -- its write failed
  pub line-failed-write : (a b c : S) → Progress told faults stopped a b (left_output lines i) (typed_output (bytes_of_lines lines)) → ((rest : Output) → Emits told faults stopped b c (preceded (x.items ∷ []) rest) WriteFault)
      → Emits told faults stopped a c (typed_output (bytes_of_lines lines)) WriteFault
  line-failed-write a b c before failed =
      finishes told faults stopped a b c (left_output lines i) (typed_output (bytes_of_lines lines)) WriteFault before
      (subst (λ (o : Output). Emits told faults stopped b c o WriteFault) (sym (line-next lines i x h e)) (failed (left_output lines (i + 1))))

-- all lines, and then the last one
pub lines-written : {S : Type 0} (told : S → Option (List ℕ)) (faults : S → ℕ) (stopped : S → Option (List ℕ)) (lines : List (Vec ℕ Global)) (i : ℕ) (a b c : S) (status : Status) → length lines ≤ i
    → Progress told faults stopped a b (left_output lines i) (typed_output (bytes_of_lines lines)) → Emits told faults stopped b c (line_only (line (codes "typed")) Done) status → Emits told faults stopped a c (typed_output (bytes_of_lines lines)) status
lines-written told faults stopped lines i a b c status h before last =
    finishes told faults stopped a b c (left_output lines i) (typed_output (bytes_of_lines lines)) status before
    (subst (λ (ls : List (Vec ℕ Global)). Emits told faults stopped b c (typed_output (bytes_of_lines ls)) status) (sym (drop_all i lines h)) last)
