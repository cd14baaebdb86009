-- From what a part wrote to what the whole run wrote.
use Rattle.std.proofs.Common.{◌≡◌, ◌≢◌, ℕ, zero, suc, List, [], ◌∷◌, map, None, Some, Ok, Err, IfSome, IfOk, IsOkAnd, refl, ap, sym, ◌∙◌, subst, inl, inr, nat_eq, cond, true, false, Bool, ◌⊎◌, IsSome, codes}
use Rattle.std.proofs.lemmas.List.{append-nil}
use Rattle.std.specs.List.{concat}
use Rattle.std.specs.declared.option.Option.{Option}
use Rattle.lam_io.specs.declared.byte_text.FileEntry.{FileEntry}
use Rattle.lam_io.specs.Writes.{Appended, IsFront}
use Rattle.ref_terms.specs.unification.Unification.{unify}
use Rattle.ref_terms.specs.search.Program.{QueryVar}
use Rattle.ref_terms.specs.search.Events.{events}
use Rattle.lp_resolve.specs.Plain.{plain_variable}
use Rattle.goal_run.specs.Machine.{state_of}
use Rattle.ref_terms.specs.search.State.{Event, Moved, Printed, Answered, Failure, Faulted}
use Rattle.ref_terms.specs.texts.Answer.{answer_block}
use Rattle.elpi_cli.specs.declared.status.Status.{Status}
use Rattle.elpi_cli.specs.declared.status.Status.TheVariants.{Done, NoAnswer, Words, Refused, Fault, Budget, Missing, TooLong, ReadFault, WriteFault, Memory}
use Rattle.elpi_cli.specs.Output.{Output, line, line_only, preceded, after_failure, written}
use Rattle.elpi_cli.specs.Written.{IsWritten, IsWholePieces}
use Rattle.std.specs.declared.result.Result.{Result}
use Rattle.elpi_cli.specs.declared.sources.FileStop.{FileStop}
use Rattle.elpi_cli.specs.declared.sources.FileStop.TheVariants as unread
use Rattle.elpi_cli.specs.declared.words.Command.{Command}
use Rattle.elpi_cli.specs.declared.words.Command.TheVariants.{Run, Gen}
use Rattle.elpi_cli.specs.Words.{usual_steps, command}
use Rattle.elpi_cli.specs.Texts.{files_read}
use Rattle.elpi_cli.specs.Samples.{sample_files, sample_query}
use Rattle.elpi_cli.specs.Top.{output, word_at, file_names, files_output, command_output, files_for, known_files, IsReached, IsRunOf, IsReadFault, IsStatusOf}
use Rattle.std.specs.Bool.{⊤}
use Rattle.std.specs.String.{string_bytes}
use Rattle.elpi_cli.specs.declared.top.Job.{Job}
use Rattle.elpi_cli.specs.declared.top.Prepared.{Prepared}
use Rattle.elpi_cli.specs.declared.top.Prepared.TheVariants.{Search, Line}
use Rattle.elpi_cli.specs.inside.Prepared.{Prepares, IsOutputOf, HasSomeOutput, IsLineOf, status_of, IsFileStatus, IsTextStatus}
use Rattle.elpi_cli.specs.inside.Sources.{IsFailedRead, IsFileStop, StopsAtFiles}

-- what the part was to write is the whole output
exact-run : (words : List (List ℕ)) (files : List FileEntry) (read_failed : Type 0) (out : Output) (status : Status) (bytes : List ℕ) → output words files ≡ out → status ≢ ReadFault → IsWritten out status bytes → IsRunOf words files read_failed status bytes
exact-run words files read_failed out Memory bytes same other part = subst (λ (o : Output). IsWholePieces o.pieces bytes) (sym same) part
exact-run words files read_failed out WriteFault bytes same other part = inl (subst (λ (o : Output). IsFront (concat o.pieces) bytes) (sym same) part)
exact-run words files read_failed out ReadFault bytes same other part = absurd (other refl)
exact-run words files read_failed out status bytes same other part = part ∙ ap (λ (o : Output). concat o.pieces) (sym same)

-- the part was to write the line of a failed read
read-run : (words : List (List ℕ)) (files : List FileEntry) (read_failed : Type 0) (text : List ℕ) (status : Status) (bytes : List ℕ) → IsReadFault words files text → read_failed → status ≢ Memory → (status ≢ Memory → status ≢ WriteFault → status ≡ ReadFault) → IsWritten (line_only text ReadFault) status bytes → IsRunOf words files read_failed status bytes
read-run words files read_failed text Memory bytes fault rose no_memory ends part = absurd (no_memory refl)
read-run words files read_failed text WriteFault bytes fault rose no_memory ends part = inr (rose, text, fault, subst (λ (whole : List ℕ). IsFront whole bytes) (append-nil text) part)
read-run words files read_failed text ReadFault bytes fault rose no_memory ends part = (fault.0, fault.1, part ∙ append-nil text ∙ fault.2)
read-run words files read_failed text status bytes fault rose no_memory ends part = absurd (let e = ends (λ m. cc) (λ w. cc) in cc)

-- a search ends in one of four statuses
abbrev pub IsSearchEnd : Status → Type 0
IsSearchEnd Done = ⊤
IsSearchEnd NoAnswer = ⊤
IsSearchEnd Fault = ⊤
IsSearchEnd Budget = ⊤
IsSearchEnd status = ⊥

either-ends : (test : Bool) (pieces : List (List ℕ)) (first second : Output) → IsSearchEnd first.status → IsSearchEnd second.status → IsSearchEnd (preceded pieces (cond test first second)).status
either-ends true pieces first second one two = one
either-ends false pieces first second one two = two

after-failure-ends : (count : ℕ) → IsSearchEnd (after_failure count).status
after-failure-ends zero = tt
after-failure-ends (suc count) = tt

pub written-ends : (table : List (List ℕ)) (variables : List QueryVar) (limit count : ℕ) (events : List Event) → IsSearchEnd (written table variables limit count events).status
written-ends table vs limit count [] = tt
written-ends table vs limit count (Moved ∷ events) = written-ends table vs limit count events
written-ends table vs limit count (Printed text ∷ events) = written-ends table vs limit count events
written-ends table vs limit count (Answered b ∷ events) =
    either-ends (nat_eq (suc count) limit) (answer_block table vs (suc count) b ∷ []) (line_only (line (codes "stopped")) Done) (written table vs limit (suc count) events) tt (written-ends table vs limit (suc count) events)
written-ends table vs limit count (Failure ∷ events) = after-failure-ends count
written-ends table vs limit count (Faulted name ∷ events) = tt

-- what a search writes ends as a search does
search-ends : (job : Job) (whole : Output) → IsOutputOf whole (Search job) → IsSearchEnd whole.status
search-ends job whole is = subst (λ (o : Output). IsSearchEnd o.status) (sym is.output) (written-ends job.symbols (map plain_variable job.machine.variables) job.answers 0 (events unify is.program job.steps (state_of is.program job.machine)))

pub not_read : (status : Status) → IsSearchEnd status → status ≢ ReadFault
not_read ReadFault ends same = ends
not_read status ends same = cc

pub not_words : (status : Status) → IsSearchEnd status → status ≢ Words
not_words Words ends same = ends
not_words status ends same = cc

-- the status of what was prepared, where neither memory nor a write failed
abbrev pub Ends : Prepared → Status → Type 0
Ends prepared result = (whole : Output) → IsOutputOf whole prepared → result ≢ Memory → result ≢ WriteFault → result ≡ whole.status

-- a status that is the search's, unless memory or a write failed, is not of a read or of words
search_result : (job : Job) (whole : Output) (status other : Status) → IsOutputOf whole (Search job) → Ends (Search job) status → (other ≡ ReadFault) ⊎ (other ≡ Words) → status ≡ other → ⊥
search_result job whole status other is ends (inl read) same = not_read _ (search-ends job whole is) (sym (ends whole is (λ m. cc) (λ w. cc)) ∙ same ∙ read)
search_result job whole status other is ends (inr words) same = not_words _ (search-ends job whole is) (sym (ends whole is (λ m. cc) (λ w. cc)) ∙ same ∙ words)

appended-weaker : (t₀ t₁ : Option (List ℕ)) (P Q : List ℕ → Type 0) → ((a : List ℕ) → P a → Q a) → Appended t₀ t₁ P → Appended t₀ t₁ Q
appended-weaker None t₁ P Q weaker p = tt
appended-weaker (Some old) t₁ P Q weaker p = (p.0, p.1, weaker p.0 p.2)

-- what was prepared was written
abbrev pub WritesPrepared : Prepared → Status → (before after : Option (List ℕ)) → Type 0
WritesPrepared prepared result t₀ t₁ = (whole : Output) → IsOutputOf whole prepared → Appended t₀ t₁ (IsWritten whole result)

-- what was prepared was written, so the run's output was
pub whole-run : (known : Option (List FileEntry)) (words : List (List ℕ)) (read_failed : Type 0) (prepared : Prepared) (result : Status) (t₀ t₁ : Option (List ℕ)) → IfSome known (λ files. Prepares words files prepared) → (status_of prepared ≡ Some ReadFault → read_failed) → (IsSome (status_of prepared) → result ≢ Memory) → Ends prepared result → WritesPrepared prepared result t₀ t₁ → IfSome known (λ files. Appended t₀ t₁ (IsRunOf words files read_failed result))
whole-run None words read_failed prepared result t₀ t₁ prepares rose no_memory ends part = tt
whole-run (Some files) words read_failed (Search job) result t₀ t₁ prepares rose no_memory ends part =
    appended-weaker t₀ t₁ _ _ (λ bytes. exact-run words files read_failed (output words files) result bytes refl (λ read. search_result job (output words files) result ReadFault prepares ends (inl refl) read)) (part (output words files) prepares)
whole-run (Some files) words read_failed (Line text ReadFault) result t₀ t₁ prepares rose no_memory ends part =
    appended-weaker t₀ t₁ _ _ (λ bytes. read-run words files read_failed (string_bytes text) result bytes prepares (rose refl) (no_memory refl) (ends (line_only (string_bytes text) ReadFault) refl)) (part (line_only (string_bytes text) ReadFault) refl)
whole-run (Some files) words read_failed (Line text status) result t₀ t₁ prepares rose no_memory ends part =
    appended-weaker t₀ t₁ _ _ (λ bytes. exact-run words files read_failed (line_only (string_bytes text) status) result bytes prepares (λ read. absurd (let e = ends (line_only (string_bytes text) status) refl (no_memory refl) (λ w. cc) in cc))) (part (line_only (string_bytes text) status) refl)

-- only the line of a failed read, or of bad words, has that status
pub whole-fault : (prepared : Prepared) (result other : Status) → HasSomeOutput prepared → (other ≡ ReadFault) ⊎ (other ≡ Words) → Ends prepared result → result ≡ other → status_of prepared ≡ Some other
whole-fault (Search job) result other some which ends same = absurd (search_result job some.0 result other some.1 ends which same)
whole-fault (Line text status) result other some (inl read) ends same = let e = ends (line_only (string_bytes text) status) refl (λ m. cc) (λ w. cc) in cc
whole-fault (Line text status) result other some (inr words) ends same = let e = ends (line_only (string_bytes text) status) refl (λ m. cc) (λ w. cc) in cc

-- the status of what was prepared is one that the run may answer
status-of : (words : List (List ℕ)) (files : List FileEntry) (prepared : Prepared) (result : Status) → Prepares words files prepared → Ends prepared result → IsStatusOf words files result
status-of words files prepared Memory prepares ends = tt
status-of words files prepared WriteFault prepares ends = tt
status-of words files (Search job) ReadFault prepares ends = absurd (search_result job (output words files) ReadFault ReadFault prepares ends (inl refl) refl)
status-of words files (Search job) status prepares ends = ends (output words files) prepares (λ m. cc) (λ w. cc)
status-of words files (Line text ReadFault) ReadFault prepares ends = (prepares.0, prepares.1)
status-of words files (Line text ReadFault) status prepares ends = absurd (let e = ends (line_only (string_bytes text) ReadFault) refl (λ m. cc) (λ w. cc) in cc)
status-of words files (Line text line_status) ReadFault prepares ends = absurd (let e = ends (line_only (string_bytes text) line_status) refl (λ m. cc) (λ w. cc) in cc)
status-of words files (Line text line_status) status prepares ends = ends (output words files) prepares (λ m. cc) (λ w. cc)

pub whole-status : (known : Option (List FileEntry)) (words : List (List ℕ)) (prepared : Prepared) (result : Status) → IfSome known (λ files. Prepares words files prepared) → Ends prepared result → IfSome known (λ files. IsStatusOf words files result)
whole-status None words prepared result prepares ends = tt
whole-status (Some files) words prepared result prepares ends = status-of words files prepared result prepares ends

-- the output of a run, which no failed read ends
of-output : (words : List (List ℕ)) (told : List FileEntry) (prepared : Prepared) → IsTextStatus (status_of prepared) → IsOutputOf (output words told) prepared → Prepares words told prepared
of-output words told (Search job) status is = is
of-output words told (Line text ReadFault) status is = absurd status
of-output words told (Line text other) status is = is

-- what is prepared, for all files that may be told, where the words are this command
for-command : (words : List (List ℕ)) (known : Option (List FileEntry)) (c : Command) (prepared : Prepared) → command words ≡ Ok c → IfSome (files_for (file_names words (Ok c)) known) (λ told. Prepares words told prepared)
    → IfSome (known_files words known) (λ told. Prepares words told prepared)
for-command words known c prepared is prepares =
    subst (λ (r : Result Command ℕ). IfSome (files_for (file_names words r) known) (λ told. Prepares words told prepared)) (sym is) prepares

-- the same from what holds of all files that may be told
for-each : (words : List (List ℕ)) (known : Option (List FileEntry)) (c : Command) (P : List FileEntry → Type 0) (prepared : Prepared) → command words ≡ Ok c → IfSome (files_for (file_names words (Ok c)) known) P
    → ((told : List FileEntry) → P told → Prepares words told prepared) → IfSome (known_files words known) (λ told. Prepares words told prepared)
for-each words known c P prepared is holds prepares = for-command words known c prepared is (go (files_for (file_names words (Ok c)) known) holds)
  where
    go : (told : Option (List FileEntry)) → IfSome told P → IfSome told (λ t. Prepares words t prepared)
    go None none = tt
    go (Some told) some = prepares told some

-- a text's line is of no failed read
abbrev pub EndsAtText : {E : Type 0} → Result Prepared E → Type 0
EndsAtText r = IfOk r (λ prepared. IsTextStatus (status_of prepared))

-- what is prepared of files that are all read
pub files-prepare : {E : Type 0} (words : List (List ℕ)) (known : Option (List FileEntry)) (steps answers query : ℕ) (indices : List ℕ) (files : List FileEntry) (text : List ℕ) (r : Result Prepared E) → command words ≡ Ok (Run steps answers query indices) → text ≡ word_at words query
    → IfSome (files_for (map (word_at words) indices) known) (λ told. files_read told (map (word_at words) indices) ≡ Ok files) → IfOk r (IsOutputOf (files_output steps answers text (Ok files))) → EndsAtText r
    → IfOk r (λ prepared. IfSome (known_files words known) (λ told. Prepares words told prepared))
files-prepare words known steps answers query indices files text (Err e) is asked read writes ends = tt
files-prepare words known steps answers query indices files text (Ok prepared) is asked read writes ends =
    for-each words known (Run steps answers query indices) (λ (told : List FileEntry). files_read told (map (word_at words) indices) ≡ Ok files) prepared is read (λ told all.
    of-output words told prepared ends
    (subst (λ (o : Output). IsOutputOf o prepared) (sym (ap (command_output words told) is ∙ ap (files_output steps answers (word_at words query)) all ∙ ap (λ (q : List ℕ). files_output steps answers q (Ok files)) (sym asked))) writes))

-- what is prepared of the program that comes with the interpreter
pub sample-prepares : {E : Type 0} (words : List (List ℕ)) (known : Option (List FileEntry)) (size : ℕ) (r : Result Prepared E) → command words ≡ Ok (Gen size) → IfOk r (IsOutputOf (files_output usual_steps 1 sample_query (Ok (sample_files size)))) → EndsAtText r
    → IfOk r (λ prepared. IfSome (known_files words known) (λ told. Prepares words told prepared))
sample-prepares words known size (Err e) is writes ends = tt
sample-prepares words known size (Ok prepared) is writes ends =
    for-command words known (Gen size) prepared is (of-output words [] prepared ends (subst (λ (o : Output). IsOutputOf o prepared) (sym (ap (command_output words []) is)) writes))

-- the line of a file that isn't read
stop-prepares : (words : List (List ℕ)) (told : List FileEntry) (steps answers query : ℕ) (indices : List ℕ) (stop : FileStop) (prepared : Prepared) → command words ≡ Ok (Run steps answers query indices)
    → StopsAtFiles told (map (word_at words) indices) stop → IsLineOf stop prepared → Prepares words told prepared
stop-prepares words told steps answers query indices (unread.Unread line ReadFault) prepared is stops line_is =
    subst (Prepares words told) (sym line_is) (stops.0, (subst (λ (c : Result Command ℕ). IsReached told (file_names words c) stops.0) (sym is) stops.1, stops.2), stops.3)
stop-prepares words told steps answers query indices (unread.Unread line status) prepared is stops line_is =
    subst (Prepares words told) (sym line_is) (ap (command_output words told) is ∙ ap (files_output steps answers (word_at words query)) stops)
stop-prepares words told steps answers query indices unread.Memory prepared is stops line_is = absurd line_is

-- so for all files that may be told
pub stopped-prepares : {E : Type 0} (words : List (List ℕ)) (known : Option (List FileEntry)) (steps answers query : ℕ) (indices : List ℕ) (stop : FileStop) (r : Result Prepared E) → command words ≡ Ok (Run steps answers query indices)
    → IfSome (files_for (map (word_at words) indices) known) (λ told. StopsAtFiles told (map (word_at words) indices) stop) → IfOk r (IsLineOf stop) → IfOk r (λ prepared. IfSome (known_files words known) (λ told. Prepares words told prepared))
stopped-prepares words known steps answers query indices stop (Err e) is stops line_is = tt
stopped-prepares words known steps answers query indices stop (Ok prepared) is stops line_is =
    for-each words known (Run steps answers query indices) (λ (told : List FileEntry). StopsAtFiles told (map (word_at words) indices) stop) prepared is stops (λ told at_files. stop-prepares words told steps answers query indices stop prepared is at_files line_is)

-- that line is an output
pub line-output : {E : Type 0} (stop : FileStop) (r : Result Prepared E) → IfOk r (IsLineOf stop) → IfOk r HasSomeOutput
line-output stop (Err e) is = tt
line-output (unread.Unread line status) (Ok prepared) is = subst HasSomeOutput (sym is) (line_only (string_bytes line) status, refl)
line-output unread.Memory (Ok prepared) is = absurd is

-- it has the status of its file
pub line-status : {E : Type 0} (stop : FileStop) (r : Result Prepared E) → IsFileStop stop → IfOk r (IsLineOf stop) → IfOk r (λ prepared. IsFileStatus (status_of prepared))
line-status stop (Err e) status is = tt
line-status (unread.Unread line Missing) (Ok prepared) status is = subst (λ (p : Prepared). IsFileStatus (status_of p)) (sym is) tt
line-status (unread.Unread line TooLong) (Ok prepared) status is = subst (λ (p : Prepared). IsFileStatus (status_of p)) (sym is) tt
line-status (unread.Unread line ReadFault) (Ok prepared) status is = subst (λ (p : Prepared). IsFileStatus (status_of p)) (sym is) tt
line-status (unread.Unread line other) (Ok prepared) status is = absurd status
line-status unread.Memory (Ok prepared) status is = absurd is

-- and it is of a failed read only where one failed
pub line-failed : {E : Type 0} (stop : FileStop) (r : Result Prepared E) → IfOk r (IsLineOf stop) → IsOkAnd r (λ prepared. status_of prepared ≡ Some ReadFault) → IsFailedRead stop
line-failed stop (Err e) is failed = absurd failed
line-failed (unread.Unread line ReadFault) (Ok prepared) is failed = tt
line-failed (unread.Unread line status) (Ok prepared) is failed = absurd (let same : Some status ≡ Some ReadFault = ap status_of (sym is) ∙ failed in cc)
line-failed unread.Memory (Ok prepared) is failed = absurd is

-- a text is no failed read
pub text-not-failed : {E : Type 0} (r : Result Prepared E) → EndsAtText r → IsOkAnd r (λ prepared. status_of prepared ≡ Some ReadFault) → ⊥
text-not-failed (Err e) ends failed = failed
text-not-failed (Ok prepared) ends failed = subst IsTextStatus failed ends

-- the status of a text is one of a file's line
pub text-status : {E : Type 0} (r : Result Prepared E) → EndsAtText r → IfOk r (λ prepared. IsFileStatus (status_of prepared))
text-status (Err e) ends = tt
text-status (Ok (Search job)) ends = tt
text-status (Ok (Line text Refused)) ends = tt
text-status (Ok (Line text status)) ends = absurd ends

-- an output of what is prepared is some
pub some-output : {E : Type 0} (whole : Output) (r : Result Prepared E) → IfOk r (IsOutputOf whole) → IfOk r HasSomeOutput
some-output whole (Err e) is = tt
some-output whole (Ok prepared) is = (whole, is)
