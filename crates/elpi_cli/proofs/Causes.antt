-- The causes of a run's statuses.
use Rattle.std.proofs.Common.{◌≡◌, ℕ, true, false, List, [], ◌∷◌, ◌++◌, ◌⊎◌, map, length, inl, inr, refl, ap, sym, subst, ◌∙◌, zero-add, None, Some, Ok, Err, IfSome, IsErr, codes}
use Rattle.std.specs.Fmt.{decimal}
use Rattle.std.specs.declared.option.Option.{Option}
use Rattle.std.specs.declared.result.Result.{Result}
use Rattle.lam_io.specs.declared.byte_text.FileEntry.{FileEntry}
use Rattle.lam_io.specs.Reads.{bytes_of}
use Rattle.lam_io.specs.Writes.{Appended}
use Rattle.lp_parser.specs.declared.ast.AstTerm.{AstTerm}
use Rattle.ref_terms.specs.unification.Unification.{unify}
use Rattle.ref_terms.specs.search.Program.{Program, Query}
use Rattle.ref_terms.specs.search.State.{Event}
use Rattle.ref_terms.specs.search.Events.{events, first_state}
use Rattle.elpi_cli.specs.declared.words.Command.{Command}
use Rattle.elpi_cli.specs.declared.words.Command.TheVariants.{Run, Gen}
use Rattle.elpi_cli.specs.declared.status.Status.{Status}
use Rattle.elpi_cli.specs.declared.status.Status.TheVariants.{Done, NoAnswer, Words, Refused, Fault, Budget, Missing, TooLong, ReadFault, WriteFault, Memory}
use Rattle.elpi_cli.specs.Words.{usual_steps, command}
use Rattle.elpi_cli.specs.Samples.{sample_files, sample_query}
use Rattle.elpi_cli.specs.Output.{Output, line, written, searched}
use Rattle.lp_resolve.specs.StaticRules.{Breach, first_breach}
use Rattle.elpi_cli.specs.Resolved.{resolved_program, searched_program, searched_query}
use Rattle.elpi_cli.specs.Static.{breach_line}
use Rattle.elpi_cli.specs.Texts.{files_read, items_of, FileItems, all_items, items_read, goal_of}
use Rattle.elpi_cli.specs.Top.{output, task_of, task_output, command_output, files_output, texts_output, checked_output, query_output, word_at, file_names, files_for, known_files, IsReached, IsStatusOf, IsRunOf}
use Rattle.elpi_cli.specs.Causes.{EndsWith, IsFailure, ComesBy, ComesExactlyBy, IsComplete, IsBadWord, IsMissing, IsTooLong, IsReady, IsRefusedFile, AreChecked, IsRefusedProgram, IsRefusedQuery, IsRefused, Searches, Shows, IsFault, IsOutOfSteps, IsNoAnswer, IsDone}
use Rattle.elpi_cli.proofs.CausesSearch.{SearchCause, search-cause, search-status}
use Rattle.elpi_cli.proofs.CausesTexts.{IsFileRefusal, within-files, missing-file, long-file, refused-file, refused-file-text, refused-text, missing_line, too_long_line}

-- the cause of a run's status
abbrev pub CauseOf : List (List ℕ) → List FileEntry → Status → List ℕ → Type 0
CauseOf words told Done last = IsDone words told last
CauseOf words told NoAnswer last = IsNoAnswer words told last
CauseOf words told Words last = IsBadWord words last
CauseOf words told Refused last = IsRefused words told last
CauseOf words told Fault last = IsFault words told last
CauseOf words told Budget last = IsOutOfSteps words told last
CauseOf words told Missing last = IsMissing words told last
CauseOf words told TooLong last = IsTooLong words told last
CauseOf words told status last = ⊥

-- an output has the cause of its status
abbrev pub HasCauseIn : List (List ℕ) → List FileEntry → Output → Type 0
HasCauseIn words told out = (last : List ℕ) × CauseOf words told out.status last × EndsWith out last

-- the cause of a search is one of the run
of-search : (words : List (List ℕ)) (told : List FileEntry) (limit : ℕ) (shown : List Event) → Shows words told limit shown → (status : Status) (last : List ℕ) → SearchCause status limit shown last → CauseOf words told status last
of-search words told limit shown shows Done last h = (limit, shown, shows, h)
of-search words told limit shown shows NoAnswer last h = (limit, shown, shows, h)
of-search words told limit shown shows Fault last h = (limit, shown, shows, h)
of-search words told limit shown shows Budget last h = (limit, shown, shows, h)
of-search words told limit shown shows status last h = absurd h

-- the cause, where all texts are accepted
by-search : (words : List (List ℕ)) (told : List FileEntry) (steps answers : ℕ) (query : List ℕ) (files : List FileEntry) (items : List FileItems) (goal : AstTerm) → IsReady words told steps answers query files → AreChecked files items → goal_of query ≡ Ok goal
    → HasCauseIn words told (query_output steps answers items (Ok goal))
by-search words told steps answers query files items goal ready checked goal_is =
    let p = searched_program (all_items items) goal in
    let q = searched_query (all_items items) goal in
    let shown = events unify p steps (first_state q) in
    let searches : Searches words told p q steps answers = record { text = query; files = files; items = items; goal = goal; ready = ready; checked = checked; goal_is = goal_is; program_is = refl; query_is = refl } in
    let found = search-cause p.symbols q.variables answers shown in
    (found.0, of-search words told answers shown (p, q, steps, searches, refl) (written p.symbols q.variables answers 0 shown).status found.0 found.1, found.2)

-- the cause, where the texts of all files are accepted and break no static rule
by-goal : (words : List (List ℕ)) (told : List FileEntry) (steps answers : ℕ) (query : List ℕ) (files : List FileEntry) (items : List FileItems) (goal : Result AstTerm (List ℕ)) → IsReady words told steps answers query files → AreChecked files items → goal_of query ≡ goal
    → HasCauseIn words told (query_output steps answers items goal)
by-goal words told steps answers query files items (Err last) ready checked is =
    (last, (steps, answers, query, files, ready, inr (inr (items, checked, is))), ([], refl))
by-goal words told steps answers query files items (Ok goal) ready checked is = by-search words told steps answers query files items goal ready checked is

-- the cause, where the texts of all files are accepted
by-breach : (words : List (List ℕ)) (told : List FileEntry) (steps answers : ℕ) (query : List ℕ) (files : List FileEntry) (items : List FileItems) (breach : Option Breach) → IsReady words told steps answers query files → items_read 0 files ≡ Ok items → first_breach (resolved_program (all_items items)) ≡ breach
    → HasCauseIn words told (checked_output steps answers query files items breach)
by-breach words told steps answers query files items (Some breach) ready read is =
    (breach_line files breach, (steps, answers, query, files, ready, inr (inl (items, read, breach, is, refl))), ([], refl))
by-breach words told steps answers query files items None ready read is = by-goal words told steps answers query files items (goal_of query) ready (read, is) refl

-- the cause, where all files are read
by-items : (words : List (List ℕ)) (told : List FileEntry) (steps answers : ℕ) (query : List ℕ) (files : List FileEntry) (r : Result (List FileItems) Output) → IsReady words told steps answers query files → items_read 0 files ≡ r
    → HasCauseIn words told (texts_output steps answers query files r)
by-items words told steps answers query files (Err refusal) ready is =
    let h = refused-text 0 files refusal is in
    let refused : IsRefusedFile files h.3 = (h.0, h.1, h.2, h.4, h.5, subst (λ (n : ℕ). items_of h.1.name n h.1.bytes ≡ Err h.3) (zero-add (length h.0)) h.6) in
    subst (HasCauseIn words told) (sym h.7) (h.3, (steps, answers, query, files, ready, inl refused), ([], refl))
by-items words told steps answers query files (Ok items) ready is = by-breach words told steps answers query files items (first_breach (resolved_program (all_items items))) ready is refl

-- why a file is refused, for the command that names it
by-refusal : (words : List (List ℕ)) (told : List FileEntry) (name : List ℕ) (refusal : Output) → IsReached told (file_names words (command words)) name → IsFileRefusal (bytes_of told name) name refusal → HasCauseIn words told refusal
by-refusal words told name refusal reached (inl why) = subst (HasCauseIn words told) (sym why.1) (missing_line name, (name, reached, why.0, refl), ([], refl))
by-refusal words told name refusal reached (inr why) = subst (HasCauseIn words told) (sym why.1) (too_long_line name, (name, reached, why.0, refl), ([], refl))

-- the cause, where the words are a command that names files
by-files : (words : List (List ℕ)) (told : List FileEntry) (steps answers query : ℕ) (indices : List ℕ) (r : Result (List FileEntry) Output) → command words ≡ Ok (Run steps answers query indices) → files_read told (map (word_at words) indices) ≡ r
    → HasCauseIn words told (files_output steps answers (word_at words query) r)
by-files words told steps answers query indices (Err refusal) asked is =
    let h = refused-file told (map (word_at words) indices) refusal is in
    by-refusal words told h.0 refusal (subst (λ (c : Result Command ℕ). IsReached told (file_names words c) h.0) (sym asked) h.1) h.2
by-files words told steps answers query indices (Ok files) asked is =
    let task : task_of words told (Run steps answers query indices) ≡ record { steps = steps; answers = answers; query = word_at words query; files = Ok files } =
    ap (λ (r : Result (List FileEntry) Output). record { steps = steps; answers = answers; query = word_at words query; files = r }) is in
    by-items words told steps answers (word_at words query) files (items_read 0 files) (record { asked = Run steps answers query indices; command_is = asked; task_is = task }) refl

-- the cause, by the words
by-command : (words : List (List ℕ)) (told : List FileEntry) (c : Result Command ℕ) → command words ≡ c → HasCauseIn words told (command_output words told c)
by-command words told (Err index) is = (codes "words: bad word at " ++ line (decimal index), (index, is, refl), ([], refl))
by-command words told (Ok (Run steps answers query indices)) is = by-files words told steps answers query indices (files_read told (map (word_at words) indices)) is refl
by-command words told (Ok (Gen size)) is =
    by-items words told usual_steps 1 sample_query (sample_files size) (items_read 0 (sample_files size)) (record { asked = Gen size; command_is = is; task_is = refl }) refl

-- the output of a run has the cause of its status
pub run-cause : (words : List (List ℕ)) (told : List FileEntry) → HasCauseIn words told (output words told)
run-cause words told = by-command words told (command words) refl

-- no name stands among none
not-among : (before after : List (List ℕ)) (name : List ℕ) → [] ≡ before ++ name ∷ after → ⊥
not-among [] after name is = cc
not-among (first ∷ before) after name is = cc

-- no file is reached where none is named
not-reached : (told : List FileEntry) (name : List ℕ) → IsReached told [] name → ⊥
not-reached told name reached = not-among reached.0 reached.1 name reached.2

-- a file that is reached and refused decides
refused-reached : (words : List (List ℕ)) (told : List FileEntry) (name : List ℕ) (refusal : Output) (c : Result Command ℕ) → IsReached told (file_names words c) name
    → ((after : List (List ℕ)) → files_read told (name ∷ after) ≡ Err refusal) → command_output words told c ≡ refusal
refused-reached words told name refusal (Err index) reached refused = absurd (not-reached told name reached)
refused-reached words told name refusal (Ok (Run steps answers query indices)) reached refused =
    let read : files_read told (map (word_at words) indices) ≡ Err refusal =
    ap (files_read told) reached.2 ∙ within-files told reached.0 (name ∷ reached.1) refusal reached.3 (refused reached.1) in
    ap (files_output steps answers (word_at words query)) read
refused-reached words told name refusal (Ok (Gen size)) reached refused = absurd (not-reached told name reached)

-- the output of a command whose files are read
ready-output : (words : List (List ℕ)) (told : List FileEntry) (steps answers : ℕ) (query : List ℕ) (files : List FileEntry) → IsReady words told steps answers query files → output words told ≡ texts_output steps answers query files (items_read 0 files)
ready-output words told steps answers query files ready =
    ap (command_output words told) ready.command_is ∙ ap task_output ready.task_is

-- the output over files that are accepted
read-output : (steps answers : ℕ) (query : List ℕ) (files : List FileEntry) (items : List FileItems) → items_read 0 files ≡ Ok items
    → texts_output steps answers query files (items_read 0 files) ≡ checked_output steps answers query files items (first_breach (resolved_program (all_items items)))
read-output steps answers query files items read = ap (texts_output steps answers query files) read

-- the output over files that are accepted and break no static rule
unbroken-output : (steps answers : ℕ) (query : List ℕ) (files : List FileEntry) (items : List FileItems) → AreChecked files items
    → texts_output steps answers query files (items_read 0 files) ≡ query_output steps answers items (goal_of query)
unbroken-output steps answers query files items checked = read-output steps answers query files items checked.0 ∙ ap (checked_output steps answers query files items) checked.1

-- a text that has a cause to be refused is refused
refused-output : (words : List (List ℕ)) (told : List FileEntry) (steps answers : ℕ) (query : List ℕ) (files : List FileEntry) (last : List ℕ)
    → IsRefusedFile files last ⊎ (IsRefusedProgram files last ⊎ IsRefusedQuery files query last) → (texts_output steps answers query files (items_read 0 files)).status ≡ Refused
refused-output words told steps answers query files last (inl h) =
    let none = subst (λ (n : ℕ). items_of h.1.name n h.1.bytes ≡ Err last) (sym (zero-add (length h.0))) h.5 in
    ap (λ (r : Result (List FileItems) Output). (texts_output steps answers query files r).status) (ap (items_read 0) h.3 ∙ refused-file-text 0 h.0 h.1 h.2 last h.4 none)
refused-output words told steps answers query files last (inr (inl h)) =
    ap (λ (o : Output). o.status) (read-output steps answers query files h.0 h.1 ∙ ap (checked_output steps answers query files h.0) h.3)
refused-output words told steps answers query files last (inr (inr h)) =
    ap (λ (o : Output). o.status) (unbroken-output steps answers query files h.0 h.1 ∙ ap (query_output steps answers h.0) h.2)

-- the output of a search that is asked for
search-output : (words : List (List ℕ)) (told : List FileEntry) (program : Program) (query : Query) (steps answers : ℕ) → Searches words told program query steps answers → output words told ≡ searched program query steps answers
search-output words told program query steps answers s =
    ready-output words told steps answers s.text s.files s.ready
    ∙ unbroken-output steps answers s.text s.files s.items s.checked
    ∙ ap (query_output steps answers s.items) s.goal_is
    ∙ ap (λ (p : Program). searched p (searched_query (all_items s.items) s.goal) steps answers) (sym s.program_is)
    ∙ ap (λ (q : Query). searched program q steps answers) (sym s.query_is)

-- a search with this cause decides
shown-status : (words : List (List ℕ)) (told : List FileEntry) (limit : ℕ) (shown : List Event) (last : List ℕ) (status : Status) → Shows words told limit shown → SearchCause status limit shown last → (output words told).status ≡ status
shown-status words told limit shown last status shows h =
    ap (λ (o : Output). o.status) (search-output words told shows.0 shows.1 shows.2 limit shows.3)
    ∙ ap (λ (es : List Event). (written shows.0.symbols shows.1.variables limit 0 es).status) (sym shows.4)
    ∙ search-status shows.0.symbols shows.1.variables limit shown last status h

-- a run with this cause has its status
pub run-status : (words : List (List ℕ)) (told : List FileEntry) (status : Status) (last : List ℕ) → CauseOf words told status last → (output words told).status ≡ status
run-status words told Done last h = shown-status words told h.0 h.1 last Done h.2 h.3
run-status words told NoAnswer last h = shown-status words told h.0 h.1 last NoAnswer h.2 h.3
run-status words told Words last h = ap (λ (c : Result Command ℕ). (command_output words told c).status) h.1
run-status words told Refused last h =
    ap (λ (o : Output). o.status) (ready-output words told h.0 h.1 h.2 h.3 h.4) ∙ refused-output words told h.0 h.1 h.2 h.3 last h.5
run-status words told Fault last h = shown-status words told h.0 h.1 last Fault h.2 h.3
run-status words told Budget last h = shown-status words told h.0 h.1 last Budget h.2 h.3
run-status words told Missing last h =
    ap (λ (o : Output). o.status) (refused-reached words told h.0 _ (command words) h.1 (λ after. missing-file h.0 (bytes_of told h.0) (files_read told after) h.2))
run-status words told TooLong last h =
    ap (λ (o : Output). o.status) (refused-reached words told h.0 _ (command words) h.1 (λ after. long-file h.0 (bytes_of told h.0) (files_read told after) h.2))
run-status words told status last h = absurd h

-- a status that may be answered is the reference's, unless memory, a read or a write failed
one-status : (words : List (List ℕ)) (told : List FileEntry) (result : Status) → IsStatusOf words told result → IsFailure result ⊎ (result ≡ (output words told).status)
one-status words told Memory is = inl tt
one-status words told WriteFault is = inl tt
one-status words told ReadFault is = inl tt
one-status words told status is = inr is

-- an answer that is no failure is the reference's status
no-failure : (words : List (List ℕ)) (told : List FileEntry) (result status : Status) → (IsFailure status → ⊥) → result ≡ status → IsFailure result ⊎ (result ≡ (output words told).status) → (output words told).status ≡ status
no-failure words told result status none same (inl failure) = absurd (none (subst IsFailure same failure))
no-failure words told result status none same (inr is) = sym is ∙ same

-- where the reference has this status, it is answered unless memory, a read or a write failed
or-status : (words : List (List ℕ)) (told : List FileEntry) (result status : Status) → (output words told).status ≡ status → IsFailure result ⊎ (result ≡ (output words told).status) → IsFailure result ⊎ (result ≡ status)
or-status words told result status same (inl failure) = inl failure
or-status words told result status same (inr is) = inr (is ∙ same)

-- a status comes exactly by its cause
comes : (words : List (List ℕ)) (told : List FileEntry) (result status : Status) → (IsFailure status → ⊥) → IsStatusOf words told result → ComesBy (CauseOf words told status) (output words told) status result
comes words told result status none is =
    let one = one-status words told result is in
    let found = run-cause words told in (
      λ same. (found.0, subst (λ (s : Status). CauseOf words told s found.0) (no-failure words told result status none same one) found.1, found.2),
      λ last h. or-status words told result status (run-status words told status last h) one,
    )

-- each status comes by its cause
pub whole-cause : (known : Option (List FileEntry)) (words : List (List ℕ)) (result status : Status) → (IsFailure status → ⊥) → IfSome known (λ told. IsStatusOf words told result)
    → IfSome known (λ told. ComesBy (CauseOf words told status) (output words told) status result)
whole-cause None words result status none is = tt
whole-cause (Some told) words result status none is = comes words told result status none is

-- bad words name no file
no-read-of : (words : List (List ℕ)) (told : List FileEntry) (name : List ℕ) (index : ℕ) → command words ≡ Err index → IsReached told (file_names words (command words)) name → ⊥
no-read-of words told name index bad reached = not-reached told name (subst (λ (c : Result Command ℕ). IsReached told (file_names words c) name) bad reached)

-- bad words have their status, unless memory or a write failed
words-only : (words : List (List ℕ)) (told : List FileEntry) (result : Status) (index : ℕ) → command words ≡ Err index → IsStatusOf words told result → (result ≡ Memory) ⊎ ((result ≡ WriteFault) ⊎ (result ≡ Words))
words-only words told Memory index bad is = inl refl
words-only words told WriteFault index bad is = inr (inl refl)
words-only words told ReadFault index bad is = absurd (no-read-of words told is.0 index bad is.1.0)
words-only words told status index bad is = inr (inr (is ∙ ap (λ (c : Result Command ℕ). (command_output words told c).status) bad))

-- the same by what the words are, whatever is told of files
by-words : (files : Option (List FileEntry)) (words : List (List ℕ)) (result : Status) (c : Result Command ℕ) → command words ≡ c → IsErr c → IfSome (known_files words files) (λ told. IsStatusOf words told result)
    → (result ≡ Memory) ⊎ ((result ≡ WriteFault) ⊎ (result ≡ Words))
by-words files words result (Ok found) is bad status = absurd (let no : false ≡ true = bad in cc)
by-words files words result (Err index) is bad status =
    words-only words [] result index is (subst (λ (c : Result Command ℕ). IfSome (files_for (file_names words c) files) (λ told. IsStatusOf words told result)) is status)

-- bad words have their status, whatever is told of files
pub whole-words : (files : Option (List FileEntry)) (words : List (List ℕ)) (result : Status) → (result ≡ Words → IsErr (command words)) → IfSome (known_files words files) (λ told. IsStatusOf words told result)
    → ComesExactlyBy (IsErr (command words)) Words result
whole-words files words result only status = (only, λ bad. by-words files words result (command words) refl bad status)

-- memory was wanting, or all was written, where files are told and no read and no write failed
all-or-memory : (words : List (List ℕ)) (told : List FileEntry) (before after : Option (List ℕ)) (read wrote : Type 0) (result : Status) → (result ≡ ReadFault → read) → (result ≡ WriteFault → wrote) → IsStatusOf words told result → Appended before after (IsRunOf words told read result)
    → (read → ⊥) → (wrote → ⊥) → IsComplete (output words told) before after result
all-or-memory words told before after read wrote Memory reads writes status bytes no_read no_write = inl refl
all-or-memory words told before after read wrote WriteFault reads writes status bytes no_read no_write = absurd (no_write (writes refl))
all-or-memory words told before after read wrote ReadFault reads writes status bytes no_read no_write = absurd (no_read (reads refl))
all-or-memory words told before after read wrote result reads writes status bytes no_read no_write = inr (status, bytes)

-- where no read and no write failed, memory was wanting or all was written
pub whole-complete : (known : Option (List FileEntry)) (words : List (List ℕ)) (before after : Option (List ℕ)) (read wrote : Type 0) (result : Status) → (result ≡ ReadFault → read) → (result ≡ WriteFault → wrote)
    → IfSome known (λ told. IsStatusOf words told result) → IfSome known (λ told. Appended before after (IsRunOf words told read result))
    → IfSome known (λ told. (read → ⊥) → (wrote → ⊥) → IsComplete (output words told) before after result)
whole-complete None words before after read wrote result reads writes status bytes = tt
whole-complete (Some told) words before after read wrote result reads writes status bytes = all-or-memory words told before after read wrote result reads writes status bytes
