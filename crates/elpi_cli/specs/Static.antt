-- The line of a program that breaks a static rule.
use Rattle.std.specs.Prelude.{ℕ, List, [], codes, slice_index_or}
use Rattle.lam_io.specs.declared.byte_text.FileEntry.{FileEntry}
use Rattle.lp_parser.specs.declared.ast.Place.{Place}
use Rattle.lp_resolve.specs.declared.static_rule.StaticRule.{StaticRule}
use Rattle.lp_resolve.specs.declared.static_rule.StaticRule.TheVariants.{S1, S2, S3, S4, S5, S6, S7, S8}
use Rattle.lp_resolve.specs.StaticRules.{Breach}
use Rattle.elpi_cli.specs.Texts.{refused_line}

-- the name of a static rule
abbrev pub static_name : StaticRule → List ℕ
static_name S1 = codes "S1"
static_name S2 = codes "S2"
static_name S3 = codes "S3"
static_name S4 = codes "S4"
static_name S5 = codes "S5"
static_name S6 = codes "S6"
static_name S7 = codes "S7"
static_name S8 = codes "S8"

-- a file of this name
abbrev pub file_entry : (name text : List ℕ) → FileEntry
file_entry name text = record { name = name; bytes = text }

-- a breach of a rule at a place
abbrev pub breach_at : StaticRule → Place → Breach
breach_at rule place = record { rule = rule; place = place }

-- no file
abbrev pub no_file : FileEntry
no_file = record { name = []; bytes = [] }

-- the file with a number, counted from 0 in word order
abbrev pub file_with : List FileEntry → (number : ℕ) → FileEntry
file_with files number = slice_index_or files number no_file

-- the line of a breach in these files
abbrev pub breach_line : List FileEntry → Breach → List ℕ
breach_line files breach =
    refused_line (file_with files breach.place.file).name (file_with files breach.place.file).bytes breach.place.at (static_name breach.rule)
