use Rattle.std.proofs.Common.{◌≡◌, ◌∙◌, ◌<◌, ◌||◌, ℕ, List, [], length, nat_lt, sym, ap, arith}
use Rattle.std.proofs.lemmas.List.{length-map, get_or-map}
use Rattle.std.proofs.lemmas.Bool.{eqb-true, eqb-false}
use Rattle.std.specs.Vec.{vec_len}
use Rattle.std.specs.String.{string_bytes}
use Rattle.elpi_cli.specs.Words.{texts, is_option, most_files}
use Rattle.elpi_cli.specs.Top.{word_at}
use Rattle.elpi_cli.proofs.CheckWords.{reads-none, reads-bad, reads-next, reads-nothing, reads-all, positive}
use Rattle.elpi_cli.proofs.command_check.file_words.Goals as goal

pub loop-index-init : goal.loop-index-init
loop-index-init c = reads-none (texts c.args.words.now) c.new-indices.result.items c.new-indices.ensures.items

pub returns-then-is_bad : goal.returns-then-is_bad
returns-then-is_bad c =
    let ws = texts c.args.words.now in
    let i = c.loop-index.index in
    let h : i < length ws = omega (arith, c.loop-index-test.true, length-map c.args.words.now string_bytes) in
    let word : c.as_bytes.result.now ≡ word_at ws i = c.as_bytes.ensures.value ∙ ap string_bytes c.index-words-index.is ∙ sym (get_or-map string_bytes c.args.words.now i c.index-words-index.result [] (omega (arith, c.loop-index-test.true))) in
    reads-bad ws c.loop-index.indices.items i h (ap (λ (w : List ℕ). is_option w || nat_lt most_files i) (sym word) ∙ sym c.is_bad.ensures ∙ c.if-is_bad.true) c.loop-index.invariant

pub loop-index-preserved : goal.loop-index-preserved
loop-index-preserved c =
    let ws = texts c.args.words.now in
    let i = c.loop-index.index in
    let h : i < length ws = omega (arith, c.loop-index-test.true, length-map c.args.words.now string_bytes) in
    let word : c.as_bytes.result.now ≡ word_at ws i = c.as_bytes.ensures.value ∙ ap string_bytes c.index-words-index.is ∙ sym (get_or-map string_bytes c.args.words.now i c.index-words-index.result [] (omega (arith, c.loop-index-test.true))) in
    reads-next ws c.loop-index.indices.items c.push.new.self.items i h (ap (λ (w : List ℕ). is_option w || nat_lt most_files i) (sym word) ∙ sym c.is_bad.ensures ∙ c.if-is_bad.false) c.in_ok-push.ensures.items c.loop-index.invariant

pub returns-then-is_empty : goal.returns-then-is_empty
returns-then-is_empty c =
    let ws = texts c.args.words.now in
    let none : vec_len c.loop-index.indices ≡ 0 = eqb-true (vec_len c.loop-index.indices) 0 (sym c.is_empty.ensures ∙ c.if-is_empty.true) in
    reads-nothing ws c.loop-index.indices.items c.loop-index.index (omega (arith, c.loop-index-test.false, length-map c.args.words.now string_bytes)) (omega (arith, none, c.loop-index.indices.ok)) c.loop-index.invariant

pub returns : goal.returns
returns c =
    let ws = texts c.args.words.now in
    let some : 0 < vec_len c.loop-index.indices = positive (vec_len c.loop-index.indices) (eqb-false (vec_len c.loop-index.indices) 0 (sym c.is_empty.ensures ∙ c.if-is_empty.false)) in
    reads-all ws c.loop-index.indices.items c.loop-index.index (omega (arith, c.loop-index-test.false, length-map c.args.words.now string_bytes)) (omega (arith, some, c.loop-index.indices.ok)) c.loop-index.invariant
