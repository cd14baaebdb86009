-- From what the texts are read as to the output of the run.
use Rattle.std.proofs.Common.{◌≡◌, ℕ, List, map, None, Ok, Err, IfOk, IsErr, refl, ap, sym, subst, ◌∙◌}
use Rattle.std.specs.String.{string_bytes}
use Rattle.std.specs.declared.result.Result.{Result}
use Rattle.lam_io.specs.declared.byte_text.FileEntry.{FileEntry}
use Rattle.lp_parser.specs.declared.ast.AstGoal.{AstGoal}
use Rattle.lp_parser.specs.declared.ast.AstTerm.{AstTerm}
use Rattle.lp_parser.specs.declared.ast.Item.{Item}
use Rattle.lp_resolve.specs.declared.program.Program.{Program}
use Rattle.lp_resolve.specs.declared.query.Query.{Query}
use Rattle.lp_resolve.specs.Symbols.{interned_all}
use Rattle.lp_resolve.specs.Texts.{texts_of}
use Rattle.lp_resolve.specs.Queries.{query_of}
use Rattle.lp_resolve.specs.StaticRules.{first_breach}
use Rattle.lp_resolve.specs.declared.query.QueryVar.{QueryVar}
use Rattle.lp_resolve.specs.Plain.{plain_variable}
use Rattle.ref_terms.specs.unification.Unification.{unify}
use Rattle.ref_terms.specs.search.State.{Event, State}
use Rattle.ref_terms.specs.search.Events.{events}
use Rattle.goal_run.specs.Machine.{state_of}
use Rattle.elpi_cli.specs.declared.status.Status.TheVariants as Status
use Rattle.elpi_cli.specs.declared.top.Prepared.{Prepared}
use Rattle.elpi_cli.specs.inside.Prepared.{IsOutputOf}
use Rattle.elpi_cli.specs.inside.Searching.{HasOutput}
use Rattle.ref_terms.specs.search.Strip.{IsCounted}
use Rattle.ref_terms.proofs.search.CountedMoves.{first-counted}
use Rattle.elpi_cli.specs.declared.built.Engine.{Engine}
use Rattle.elpi_cli.specs.declared.texts.TextStop.{TextStop}
use Rattle.elpi_cli.specs.declared.texts.TextStop.TheVariants.{Refused, Memory}
use Rattle.elpi_cli.specs.Output.{Output, line_only, written, searched}
use Rattle.elpi_cli.specs.Resolved.{program_table, resolved_program, query_table, resolved_query, searched_program, searched_query}
use Rattle.elpi_cli.specs.Texts.{FileItems, all_items, goal_of}
use Rattle.elpi_cli.specs.Top.{query_output, checked_output, texts_output, files_output}
use Rattle.elpi_cli.specs.Begins.{IsRefusal, StopsAt, IsBroken, IsEngineFor, IsEngineOf, ReadsProgram, BeginsRun}

-- the search of an engine is that of its program and query
engine-search : (items : List Item) (goal : AstTerm) (engine : Engine) → IsEngineFor (resolved_program items) (resolved_query items goal) (query_table items goal) engine → (steps limit : ℕ)
    → HasOutput engine.symbols engine.machine steps limit (searched (searched_program items goal) (searched_query items goal) steps limit)
engine-search items goal engine is steps limit =
    let program = searched_program items goal in
    let shown : State → List Event = λ s. events unify program steps s in
    record {
      program = program;
      runs = is.runs;
      symbols = sym is.symbols;
      counted = subst IsCounted (sym is.begins) (first-counted (searched_query items goal));
      output = sym (ap (λ (t : List (List ℕ)). written t (map plain_variable engine.machine.variables) limit 0 (shown (state_of program engine.machine))) is.symbols
          ∙ ap (λ (vs : List QueryVar). written (query_table items goal) (map plain_variable vs) limit 0 (shown (state_of program engine.machine))) is.variables
          ∙ ap (λ (s : State). written (query_table items goal) (map plain_variable (resolved_query items goal).vars) limit 0 (shown s)) is.begins);
    }

-- the table of a query that was resolved behind a program
pub resolved-table : (items : List Item) (goal : AstTerm) (before table : List (List ℕ)) → before ≡ program_table items → table ≡ interned_all before (texts_of goal) → table ≡ query_table items goal
resolved-table items goal before table begins tables = tables ∙ ap (λ (t : List (List ℕ)). interned_all t (texts_of goal)) begins

-- the query of a goal that was resolved behind a program
pub resolved-goal : (items : List Item) (goal : AstGoal) (before table : List (List ℕ)) (query : Query) → before ≡ program_table items → table ≡ interned_all before (texts_of goal.term) → query ≡ query_of table goal
    → query ≡ resolved_query items goal.term
resolved-goal items goal before table query begins tables is =
    is ∙ ap (λ (t : List (List ℕ)). query_of t goal) (tables ∙ ap (λ (t : List (List ℕ)). interned_all t (texts_of goal.term)) begins)

-- the engine for what the items and the goal are resolved to
pub builds-engine : (items : List Item) (goal : AstTerm) (program : Program) (query : Query) (table : List (List ℕ)) (engine : Engine) → program ≡ resolved_program items → query ≡ resolved_query items goal → table ≡ query_table items goal
    → IsEngineFor program query table engine → IsEngineOf items goal engine
builds-engine items goal program query table engine program_is query_is table_is of = rw (sym program_is, sym query_is, sym table_is) of

-- what is read of all files breaks no static rule
unbroken-items : (items : List FileItems) (ast : List Item) → ast ≡ all_items items → first_breach (resolved_program ast) ≡ None → first_breach (resolved_program (all_items items)) ≡ None
unbroken-items items ast text none = ap (λ (is : List Item). first_breach (resolved_program is)) (sym text) ∙ none

-- the run over files whose program breaks no static rule
unbroken-output : (steps limit : ℕ) (query : List ℕ) (files : List FileEntry) (items : List FileItems) (ast : List Item) → ast ≡ all_items items → first_breach (resolved_program ast) ≡ None
    → texts_output steps limit query files (Ok items) ≡ query_output steps limit items (goal_of query)
unbroken-output steps limit query files items ast text none = ap (checked_output steps limit query files items) (unbroken-items items ast text none)

-- a program that breaks a static rule
pub begins-broken : (files : List FileEntry) (items : List FileItems) (ast : List Item) (query : List ℕ) (stop : TextStop) → ast ≡ all_items items → IsBroken files ast stop → BeginsRun files items query (Err stop)
begins-broken files items ast query (Refused last) text is = λ steps limit.
    ap (λ (is : List Item). checked_output steps limit query files items (first_breach (resolved_program is))) (sym text)
    ∙ ap (checked_output steps limit query files items) is.1 ∙ ap (λ (l : List ℕ). line_only l Status.Refused) (sym is.2)
begins-broken files items ast query Memory text is = tt

-- a query that is refused
pub begins-refused : (files : List FileEntry) (items : List FileItems) (ast : List Item) (query : List ℕ) (goal : Result AstTerm (List ℕ)) (stop : TextStop) → ast ≡ all_items items → first_breach (resolved_program ast) ≡ None → goal_of query ≡ goal → StopsAt goal stop
    → BeginsRun files items query (Err stop)
begins-refused files items ast query goal (Refused last) text none same is = λ steps limit.
    unbroken-output steps limit query files items ast text none ∙ ap (query_output steps limit items) (same ∙ is)
begins-refused files items ast query goal Memory text none same is = tt

-- the search, where the program and the query are accepted
pub begins-search : (files : List FileEntry) (items : List FileItems) (ast : List Item) (query : List ℕ) (goal : AstTerm) (engine : Engine) → ast ≡ all_items items → first_breach (resolved_program ast) ≡ None → goal_of query ≡ Ok goal
    → IsEngineOf ast goal engine → BeginsRun files items query (Ok engine)
begins-search files items ast query goal engine text none same is = λ steps limit.
    let whole : texts_output steps limit query files (Ok items) ≡ searched (searched_program (all_items items) goal) (searched_query (all_items items) goal) steps limit =
    unbroken-output steps limit query files items ast text none ∙ ap (query_output steps limit items) same in
    let of : IsEngineOf (all_items items) goal engine = subst (λ (is : List Item). IsEngineOf is goal engine) text is in
    subst (HasOutput engine.symbols engine.machine steps limit) (sym whole) (engine-search (all_items items) goal engine of steps limit)

-- what is prepared has this output
abbrev pub Writes : {E : Type 0} → Output → Result Prepared E → Type 0
Writes whole r = IfOk r (IsOutputOf whole)

-- the refusal is what is prepared
abbrev pub Prepares : {E : Type 0} → TextStop → Result Prepared E → Type 0
Prepares stop r = IfOk r (λ p. (last : List ℕ) → IsRefusal last stop → IsOutputOf (line_only last Status.Refused) p)

-- a refusal with this line is written where it is the whole output
line-writes : {E : Type 0} (whole : Output) (stop : TextStop) (last : List ℕ) (r : Result Prepared E) → IsRefusal last stop → whole ≡ line_only last Status.Refused → Prepares stop r → Writes whole r
line-writes whole stop last (Err e) refusal is prepares = tt
line-writes whole stop last (Ok p) refusal is prepares = subst (λ (o : Output). IsOutputOf o p) (sym is) (prepares last refusal)

-- nothing is prepared of want of memory
memory-writes : {E : Type 0} (whole : Output) (r : Result Prepared E) → IsErr r → Writes whole r
memory-writes whole (Err e) none = tt
memory-writes whole (Ok p) none = absurd (let no = none in cc)

-- the output where the text of a file is refused
pub refused-text : {E : Type 0} (steps answers : ℕ) (query : List ℕ) (files : List FileEntry) (stop : TextStop) (r : Result Prepared E) → ReadsProgram files (Err stop) → Prepares stop r → (stop ≡ Memory → IsErr r)
    → Writes (files_output steps answers query (Ok files)) r
refused-text steps answers query files (Refused text) r is prepares none =
    line-writes _ (Refused text) (string_bytes text) r refl (ap (texts_output steps answers query files) is) prepares
refused-text steps answers query files Memory r is prepares none = memory-writes _ r (none refl)

-- what is read of all files has this output, whatever the items are
abbrev pub Begins : List FileEntry → (query : List ℕ) → List Item → Result Engine TextStop → Type 0
Begins files query ast r = (items : List FileItems) → ast ≡ all_items items → BeginsRun files items query r

-- the output where all texts of files are accepted
accepted-texts : (steps answers : ℕ) (query : List ℕ) (files : List FileEntry) (program : List Item) (read : ReadsProgram files (Ok program))
    → files_output steps answers query (Ok files) ≡ texts_output steps answers query files (Ok read.0)
accepted-texts steps answers query files program read = ap (texts_output steps answers query files) read.1

-- and something behind them is refused
pub refused-later : {E : Type 0} (steps answers : ℕ) (query : List ℕ) (files : List FileEntry) (program : List Item) (stop : TextStop) (r : Result Prepared E) → ReadsProgram files (Ok program) → Begins files query program (Err stop) → Prepares stop r → (stop ≡ Memory → IsErr r)
    → Writes (files_output steps answers query (Ok files)) r
refused-later steps answers query files program (Refused text) r read begins prepares none =
    line-writes _ (Refused text) (string_bytes text) r refl (accepted-texts steps answers query files program read ∙ begins read.0 read.2 steps answers) prepares
refused-later steps answers query files program Memory r read begins prepares none = memory-writes _ r (none refl)

-- or nothing is
pub begun : (steps answers : ℕ) (query : List ℕ) (files : List FileEntry) (program : List Item) (engine : Engine) → ReadsProgram files (Ok program) → Begins files query program (Ok engine)
    → HasOutput engine.symbols engine.machine steps answers (files_output steps answers query (Ok files))
begun steps answers query files program engine read begins =
    subst (HasOutput engine.symbols engine.machine steps answers) (sym (accepted-texts steps answers query files program read)) (begins read.0 read.2 steps answers)
