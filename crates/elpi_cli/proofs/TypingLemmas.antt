-- What typing the texts of files comes to.
use Rattle.std.proofs.Common.{◌≡◌, ◌∙◌, ℕ, List, None, Some, Ok, Err, Vec, Global, refl, sym, ap, subst, inl, inr}
use Rattle.std.specs.declared.result.Result.{Result}
use Rattle.std.specs.String.{string_bytes}
use Rattle.lam_io.specs.declared.byte_text.FileEntry.{FileEntry}
use Rattle.lp_parser.specs.declared.ast.Place.{Place}
use Rattle.lp_parser.specs.declared.ast.Item.{Item}
use Rattle.lp_resolve.specs.declared.program.Program.{Program}
use Rattle.lp_resolve.specs.Symbols.{interned_all}
use Rattle.lp_resolve.specs.StaticRules.{first_breach}
use Rattle.decl_trees.specs.declared.rule.TypeRule.{TypeRule}
use Rattle.decl_trees.specs.declared.trees.DeclTree.{DeclTree}
use Rattle.decl_read.specs.DeclReading.{declarations_of, declared_texts}
use Rattle.type_check.specs.declared.error.TypeError.TheVariants.{Broken}
use Rattle.type_check.specs.Inference.{IsCause}
use Rattle.type_texts.specs.TypeLines.{AreTypeLines}
use Rattle.elpi_cli.specs.declared.texts.TextStop.{TextStop}
use Rattle.elpi_cli.specs.declared.texts.TextStop.TheVariants.{Refused, Memory}
use Rattle.elpi_cli.specs.declared.status.Status.TheVariants as Status
use Rattle.elpi_cli.specs.Output.{Output, line_only}
use Rattle.elpi_cli.specs.Resolved.{program_table, resolved_program}
use Rattle.elpi_cli.specs.Texts.{FileItems, all_items}
use Rattle.elpi_cli.specs.Begins.{IsRefusal, IsBroken, ReadsProgram}
use Rattle.elpi_cli.specs.Typed.{broken_line, typed_table, type_declarations, typed_output, IsTypesOutput, IsCheckedOutput, IsTextsOutput, IsFilesOutput}
use Rattle.elpi_cli.specs.inside.Typing.{Answers, bytes_of_lines}

-- an answer for one output is one for each output that it stands for
pub answers-weaker : (P Q : Output → Type 0) (r : Result (Vec (Vec ℕ Global) Global) TextStop) → ((whole : Output) → P whole → Q whole) → Answers P r → Answers Q r
answers-weaker P Q (Ok lines) weaker p = weaker (typed_output (bytes_of_lines lines.items)) p
answers-weaker P Q (Err (Refused last)) weaker p = weaker (line_only (string_bytes last) Status.Refused) p
answers-weaker P Q (Err Memory) weaker p = tt

-- a refusal by a line
pub refusal-answers : (P : Output → Type 0) (last : List ℕ) (stop : TextStop) → IsRefusal last stop → P (line_only last Status.Refused) → Answers P (Err stop)
refusal-answers P last (Refused text) is p = subst (λ (bytes : List ℕ). P (line_only bytes Status.Refused)) (sym is) p
refusal-answers P last Memory is p = tt

-- what is known over the table and the declarations as they were read
pub over-read : (P : List (List ℕ) → List DeclTree → Program → Type 0) (items : List Item) (before table : List (List ℕ)) (decls : List DeclTree) (program : Program) → before ≡ program_table items → table ≡ interned_all before (declared_texts items)
    → decls ≡ declarations_of table items → program ≡ resolved_program items → P table decls program → P (typed_table items) (type_declarations items) (resolved_program items)
over-read P items before table decls program begins tables is resolved p =
    let same : table ≡ typed_table items = tables ∙ ap (λ (t : List (List ℕ)). interned_all t (declared_texts items)) begins in
    subst (λ (t : List (List ℕ)). P t (declarations_of t items) (resolved_program items)) same
    (subst (λ (d : List DeclTree). P table d (resolved_program items)) is (subst (P table decls) resolved p))

-- a broken rule of types
pub types-broken : (files : List FileEntry) (items : List Item) (rule : TypeRule) (place : Place) (stop : TextStop) → IsCause (typed_table items) (type_declarations items) (resolved_program items) (Broken rule place)
    → IsRefusal (broken_line files rule place) stop → Answers (IsTypesOutput files items) (Err stop)
types-broken files items rule place stop cause refusal = refusal-answers (IsTypesOutput files items) (broken_line files rule place) stop refusal (inl (rule, place, cause, refl))

-- principal types
pub types-found : (files : List FileEntry) (items : List Item) (lines : Vec (Vec ℕ Global) Global) → AreTypeLines (typed_table items) (type_declarations items) (resolved_program items) (bytes_of_lines lines.items)
    → Answers (IsTypesOutput files items) (Ok lines)
types-found files items lines are = inr (bytes_of_lines lines.items, are, refl)

-- a text that tokens or grammar refuse
pub texts-refused : (files : List FileEntry) (stop : TextStop) → ReadsProgram files (Err stop) → Answers (IsFilesOutput (Ok files)) (Err stop)
texts-refused files (Refused last) read = subst (λ (r : Result (List FileItems) Output). IsTextsOutput files r (line_only (string_bytes last) Status.Refused)) (sym read) refl
texts-refused files Memory read = tt

-- a static rule that is broken
pub texts-broken : (files : List FileEntry) (ast : List Item) (stop : TextStop) → ReadsProgram files (Ok ast) → IsBroken files ast stop → Answers (IsFilesOutput (Ok files)) (Err stop)
texts-broken files ast (Refused last) read broken =
    let whole = line_only (string_bytes last) Status.Refused in
    let items = read.0 in
    let breach = broken.0 in
    let first : first_breach (resolved_program (all_items items)) ≡ Some breach = ap (λ (all : List Item). first_breach (resolved_program all)) (sym read.2) ∙ broken.1 in
    subst (λ (r : Result (List FileItems) Output). IsTextsOutput files r whole) (sym read.1)
    (subst (λ b. IsCheckedOutput files (all_items items) b whole) (sym first) (ap (λ (bytes : List ℕ). line_only bytes Status.Refused) broken.2))
texts-broken files ast Memory read broken = tt

-- a program that breaks none
pub texts-checked : (files : List FileEntry) (ast : List Item) (r : Result (Vec (Vec ℕ Global) Global) TextStop) → ReadsProgram files (Ok ast) → first_breach (resolved_program ast) ≡ None
    → Answers (IsTypesOutput files ast) r → Answers (IsFilesOutput (Ok files)) r
texts-checked files ast r read unbroken answers =
    let items = read.0 in
    let first : first_breach (resolved_program (all_items items)) ≡ None = ap (λ (all : List Item). first_breach (resolved_program all)) (sym read.2) ∙ unbroken in
    answers-weaker (IsTypesOutput files ast) (IsFilesOutput (Ok files)) r (λ whole is.
    subst (λ (q : Result (List FileItems) Output). IsTextsOutput files q whole) (sym read.1)
    (subst (λ b. IsCheckedOutput files (all_items items) b whole) (sym first) (subst (λ (all : List Item). IsTypesOutput files all whole) read.2 is))) answers
