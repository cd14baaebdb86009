use Rattle.std.proofs.Common.{◌∙◌, [], ◌∷◌, ◌++◌, ap, sym, map, take}
use Rattle.std.proofs.lemmas.List.{map-append}
use Rattle.lp_resolve.specs.Symbols.{interned_all}
use Rattle.lp_resolve.proofs.BeginsLemmas.{begins-trans}
use Rattle.lp_resolve.proofs.ReadsAsLemmas.{interned_all-more}
use Rattle.lp_resolve.proofs.PutLemmas.{taken-more, have_put-more}
use Rattle.decl_read.specs.DeclReading.{placed}
use Rattle.decl_read.proofs.declarations.read_names.Goals as goal

pub loop-word-preserved : goal.loop-word-preserved
loop-word-preserved c =
    let done = take c.loop-word.word-index c.args.words.now in
    let last = c.word-item.result ∷ [] in
    let more = taken-more c.args.words.now c.loop-word.word-index c.word-item.result c.loop-word-test.true c.word-item.is in
    record {
      begins = begins-trans c.loop-word.invariant.begins c.in_ok-name.ensures.begins;
      table =
          c.in_ok-name.ensures.table
          ∙ ap (λ t. interned_all t (map (λ w. w.text) last)) c.loop-word.invariant.table
          ∙ interned_all-more c.args.symbols.now (map (λ w. w.text) done) (map (λ w. w.text) last)
          ∙ ap (interned_all c.args.symbols.now) (sym (map-append (λ w. w.text) done last) ∙ ap (map (λ w. w.text)) more);
      names = have_put-more c.args.words.now c.loop-word.word-index c.word-item.result c.loop-word-test.true c.word-item.is
          (λ later. map (placed later)) c.loop-word.symbols c.read_name.new.symbols [] c.loop-word.names c.push.new.self
          (λ later. placed later c.word-item.result ∷ [])
          (λ later. map-append (placed later) done last)
          c.loop-word.invariant.names c.in_ok-name.ensures.begins
          (λ later b. c.in_ok-push.ensures.last ∙ ap (λ s. c.loop-word.names ++ s ∷ []) (c.in_ok-name.ensures.name later b));
    }
