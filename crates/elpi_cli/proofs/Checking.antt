-- What checking a resolved program says of the items.
use Rattle.std.proofs.Common.{◌≡◌, ℕ, List, None, Some, ap, sym, ◌∙◌}
use Rattle.lam_io.specs.declared.byte_text.FileEntry.{FileEntry}
use Rattle.lp_parser.specs.declared.ast.Place.{Place}
use Rattle.lp_parser.specs.declared.ast.Item.{Item}
use Rattle.lp_resolve.specs.declared.program.Program.{Program}
use Rattle.lp_resolve.specs.declared.static_rule.StaticRule.{StaticRule}
use Rattle.lp_resolve.specs.Symbols.{reserved_names, interned_all}
use Rattle.lp_resolve.specs.ProgramTexts.{program_texts}
use Rattle.lp_resolve.specs.ProgramReading.{program_of}
use Rattle.lp_resolve.specs.StaticRules.{first_breach}
use Rattle.elpi_cli.specs.declared.texts.TextStop.{TextStop}
use Rattle.elpi_cli.specs.declared.texts.TextStop.TheVariants.{Refused, Memory}
use Rattle.elpi_cli.specs.Resolved.{program_table, resolved_program}
use Rattle.elpi_cli.specs.Static.{breach_at, breach_line}
use Rattle.elpi_cli.specs.Begins.{IsRefusal, IsCheckedOf, IsBroken}

-- the table of a program that was resolved
whole-table : (items : List Item) (before table : List (List ℕ)) → before ≡ reserved_names → table ≡ interned_all before (program_texts items) → table ≡ program_table items
whole-table items before table begins tables = tables ∙ ap (λ (t : List (List ℕ)). interned_all t (program_texts items)) begins

-- its program
whole-program : (items : List Item) (before table : List (List ℕ)) (program : Program) → before ≡ reserved_names → table ≡ interned_all before (program_texts items) → program ≡ program_of table items → program ≡ resolved_program items
whole-program items before table program begins tables is = is ∙ ap (λ (t : List (List ℕ)). program_of t items) (whole-table items before table begins tables)

-- a program that breaks a static rule
pub broken-of : (files : List FileEntry) (items : List Item) (before table : List (List ℕ)) (program : Program) (rule : StaticRule) (place : Place) (stop : TextStop) → before ≡ reserved_names → table ≡ interned_all before (program_texts items)
    → program ≡ program_of table items → first_breach program ≡ Some (breach_at rule place) → IsRefusal (breach_line files (breach_at rule place)) stop → IsBroken files items stop
broken-of files items before table program rule place (Refused last) begins tables is broken refusal =
    (breach_at rule place, ap first_breach (sym (whole-program items before table program begins tables is)) ∙ broken, refusal)
broken-of files items before table program rule place Memory begins tables is broken refusal = tt

-- one that breaks none
pub checked-of : (items : List Item) (before table : List (List ℕ)) (program checked : Program) → before ≡ reserved_names → table ≡ interned_all before (program_texts items)
    → program ≡ program_of table items → checked ≡ program → first_breach program ≡ None → IsCheckedOf items table checked
checked-of items before table program checked begins tables is same unbroken =
    let whole = whole-program items before table program begins tables is in
    record { table_is = whole-table items before table begins tables; program_is = same ∙ whole; unbroken = ap first_breach (sym whole) ∙ unbroken }
