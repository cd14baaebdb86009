use Rattle.std.proofs.Common.{◌≡◌, ◌+◌, ◌++◌, ◌∷◌, [], List, take, get_or, length, refl, sym, arith, ap, ap₂, ◌∙◌, subst}
use Rattle.std.proofs.lemmas.List.{take_more, take_all}
use Rattle.level_terms.specs.declared.node.TermId.{TermId}
use Rattle.level_terms.specs.Reading.{read}
use Rattle.level_terms.proofs.GrowthLemmas.{grows-refl, grows-trans}
use Rattle.level_terms.proofs.ValidLemmas.{growth_keeps_valid}
use Rattle.ref_terms.specs.terms.Term.{Term}
use Rattle.ref_terms.specs.terms.Apply.{fill}
use Rattle.ref_terms.specs.terms.Ready.{ready}
use Rattle.beta_fragment.specs.Names.{names}
use Rattle.beta_fragment.specs.Moves.{put_name}
use Rattle.beta_fragment.specs.inside.Standing.{ArePut}
use Rattle.level_terms.proofs.ReadLemmas.{valid-below, grown-reads}
use Rattle.beta_fragment.proofs.StandLemmas.{puts-reads, puts-valid, puts-grown, puts-last, valid-nth}
use Rattle.beta_fragment.proofs.standing.put_each.Goals as goal

pub loop-t-init : goal.loop-t-init
loop-t-init c = record {
  put = subst (λ (rs : List TermId). ArePut c.args.heap.now c.args.heap.now c.args.depth (read c.args.heap.now c.args.put.index names) [] rs) (sym c.new-list.ensures) tt;
  variables = refl;
  grows = grows-refl c.args.heap.now [];
}

pub put_name-requires-clause-put : goal.put_name-requires-clause-put
put_name-requires-clause-put c = growth_keeps_valid c.args.heap.now c.loop-t.heap [] [] c.args.put.index c.args.depth c.is_sound.ensures c.loop-t.invariant.grows (valid-below c.args.heap.now c.args.put.index c.args.depth c.requires.put) c.requires.put

pub put_name-requires-clause-taken : goal.put_name-requires-clause-taken
put_name-requires-clause-taken c = λ _.
    ap (λ f. ready (f names)) (grown-reads c.args.heap.now c.loop-t.heap c.is_sound.ensures c.loop-t.invariant.grows c.args.put.index (valid-below c.args.heap.now c.args.put.index c.args.depth c.requires.put)) ∙ c.requires.ready

pub put_name-requires-clause-valid : goal.put_name-requires-clause-valid
put_name-requires-clause-valid c =
    let t = get_or c.args.ts.now c.loop-t.t-index (record { index = 0 }) in
    let here = valid-nth c.args.heap.now (c.args.depth + 1) c.args.ts.now c.loop-t.t-index (record { index = 0 }) c.loop-t-test.true c.requires.valid in
    growth_keeps_valid c.args.heap.now c.loop-t.heap [] [] t.index (c.args.depth + 1) c.is_sound.ensures c.loop-t.invariant.grows (valid-below c.args.heap.now t.index (c.args.depth + 1) here) here

pub returns-in_err-r-clause-grows : goal.returns-in_err-r-clause-grows
returns-in_err-r-clause-grows c = grows-trans c.args.heap.now c.loop-t.heap c.put_name.new.heap [] [] [] c.loop-t.invariant.grows c.put_name.ensures.grows

pub returns-in_err-push-clause-grows : goal.returns-in_err-push-clause-grows
returns-in_err-push-clause-grows c = grows-trans c.args.heap.now c.loop-t.heap c.put_name.new.heap [] [] [] c.loop-t.invariant.grows c.put_name.ensures.grows

pub loop-t-preserved : goal.loop-t-preserved
loop-t-preserved c =
    let t = get_or c.args.ts.now c.loop-t.t-index (record { index = 0 }) in
    let here = valid-nth c.args.heap.now (c.args.depth + 1) c.args.ts.now c.loop-t.t-index (record { index = 0 }) c.loop-t-test.true c.requires.valid in
    let reads : read c.put_name.new.heap c.in_ok-r.r.index names ≡ fill (put_name c.args.depth (read c.args.heap.now c.args.put.index names)) (read c.args.heap.now t.index names) =
    c.in_ok-r.ensures.reads
    ∙ ap₂ (λ (s b : Term). fill (put_name c.args.depth s) b)
    (ap (λ f. f names) (grown-reads c.args.heap.now c.loop-t.heap c.is_sound.ensures c.loop-t.invariant.grows c.args.put.index (valid-below c.args.heap.now c.args.put.index c.args.depth c.requires.put)))
    (ap (λ f. f names) (grown-reads c.args.heap.now c.loop-t.heap c.is_sound.ensures c.loop-t.invariant.grows t.index (valid-below c.args.heap.now t.index (c.args.depth + 1) here))) in
    record {
      put =
          subst (λ (rs : List TermId). ArePut c.args.heap.now c.put_name.new.heap c.args.depth (read c.args.heap.now c.args.put.index names) (take (c.loop-t.t-index + 1) c.args.ts.now) rs) (sym c.in_ok-push.ensures.last)
          (subst (λ (us : List TermId). ArePut c.args.heap.now c.put_name.new.heap c.args.depth (read c.args.heap.now c.args.put.index names) us (c.loop-t.list ++ c.in_ok-r.r ∷ [])) (sym (take_more c.args.ts.now c.loop-t.t-index (record { index = 0 }) c.loop-t-test.true))
          (puts-last c.args.heap.now c.put_name.new.heap c.args.depth (read c.args.heap.now c.args.put.index names) (take c.loop-t.t-index c.args.ts.now) c.loop-t.list t c.in_ok-r.r
          (puts-grown c.args.heap.now c.loop-t.heap c.put_name.new.heap c.args.depth (read c.args.heap.now c.args.put.index names) c.is_sound-in-loop-t.ensures c.put_name.ensures.grows (take c.loop-t.t-index c.args.ts.now) c.loop-t.list c.loop-t.invariant.put)
          c.in_ok-r.ensures.valid reads));
      variables = c.put_name.ensures.variables ∙ c.loop-t.invariant.variables;
      grows = grows-trans c.args.heap.now c.loop-t.heap c.put_name.new.heap [] [] [] c.loop-t.invariant.grows c.put_name.ensures.grows;
    }

pub returns-clause-reads : goal.returns-clause-reads
returns-clause-reads c =
    let whole : take c.loop-t.t-index c.args.ts.now ≡ c.args.ts.now = take_all c.loop-t.t-index c.args.ts.now (grind (arith, c.loop-t-test.false)) in
    puts-reads c.args.heap.now c.loop-t.heap c.args.depth (read c.args.heap.now c.args.put.index names) c.args.ts.now c.loop-t.list
    (subst (λ (us : List TermId). ArePut c.args.heap.now c.loop-t.heap c.args.depth (read c.args.heap.now c.args.put.index names) us c.loop-t.list) whole c.loop-t.invariant.put)

pub returns-clause-valid : goal.returns-clause-valid
returns-clause-valid c = puts-valid c.args.heap.now c.loop-t.heap c.args.depth (read c.args.heap.now c.args.put.index names) (take c.loop-t.t-index c.args.ts.now) c.loop-t.list c.loop-t.invariant.put
