use Rattle.std.proofs.Common.{◌≡◌, ◌+◌, ◌-◌, [], length, reverse, refl, ◌∙◌, arith, subst, vec_len}
use Rattle.std.specs.Prelude.{MatchOption}
use Rattle.level_terms.proofs.GrowthLemmas.{grows-refl, grows-trans}
use Rattle.beta_fragment.proofs.SplitLemmas.{empty-list}
use Rattle.beta_fragment.proofs.StandLemmas.{found-split, found-next, found-last, puts-short}
use Rattle.beta_fragment.proofs.standing.placed.Goals as goal

pub loop-put-init : goal.loop-put-init
loop-put-init c = record {
  found = λ u k. k;
  long = c.requires.long;
  variables = refl;
  grows = grows-refl c.args.heap.now [];
}

pub with_put-requires-clause-put : goal.with_put-requires-clause-put
with_put-requires-clause-put c =
    let short = puts-short c.args.depth c.loop-put.to c.loop-put.puts.items c.pop.new.self.items c.in-Some.put c.loop-put.invariant.long c.in-Some.ensures.items in
    let u = c.requires.found.0 in
    (found-split c.loop-put.heap c.args.depth (c.loop-put.to - 1) c.loop-put.puts.items c.pop.new.self.items c.in-Some.put c.requires.found.0 c.loop-put.form c.in-Some.ensures.items short (c.loop-put.invariant.found c.requires.found.0 c.requires.found.1)).1

pub with_put-requires-clause-ready : goal.with_put-requires-clause-ready
with_put-requires-clause-ready c =
    let short = puts-short c.args.depth c.loop-put.to c.loop-put.puts.items c.pop.new.self.items c.in-Some.put c.loop-put.invariant.long c.in-Some.ensures.items in
    (found-split c.loop-put.heap c.args.depth (c.loop-put.to - 1) c.loop-put.puts.items c.pop.new.self.items c.in-Some.put c.requires.found.0 c.loop-put.form c.in-Some.ensures.items short (c.loop-put.invariant.found c.requires.found.0 c.requires.found.1)).2

pub with_put-requires-clause-form : goal.with_put-requires-clause-form
with_put-requires-clause-form c =
    let short = puts-short c.args.depth c.loop-put.to c.loop-put.puts.items c.pop.new.self.items c.in-Some.put c.loop-put.invariant.long c.in-Some.ensures.items in
    let parts = found-split c.loop-put.heap c.args.depth (c.loop-put.to - 1) c.loop-put.puts.items c.pop.new.self.items c.in-Some.put c.requires.found.0 c.loop-put.form c.in-Some.ensures.items short (c.loop-put.invariant.found c.requires.found.0 c.requires.found.1) in
    (parts.0, parts.4)

pub returns-in_err-form-clause-grows : goal.returns-in_err-form-clause-grows
returns-in_err-form-clause-grows c = grows-trans c.args.heap.now c.loop-put.heap c.with_put.new.heap [] [] [] c.loop-put.invariant.grows c.with_put.ensures.grows

pub loop-put-preserved : goal.loop-put-preserved
loop-put-preserved c =
    let short = puts-short c.args.depth c.loop-put.to c.loop-put.puts.items c.pop.new.self.items c.in-Some.put c.loop-put.invariant.long c.in-Some.ensures.items in
    record {
      found = λ u k. found-next c.loop-put.heap c.with_put.new.heap c.args.depth (c.loop-put.to - 1) c.loop-put.puts.items c.pop.new.self.items c.in-Some.put u c.loop-put.form c.in_ok-form.form c.is_sound-in-Some.ensures c.with_put.ensures.grows c.in-Some.ensures.items short c.in_ok-form.ensures.form (c.loop-put.invariant.found u k);
      long = short;
      variables = c.with_put.ensures.variables ∙ c.loop-put.invariant.variables;
      grows = grows-trans c.args.heap.now c.loop-put.heap c.with_put.new.heap [] [] [] c.loop-put.invariant.grows c.with_put.ensures.grows;
    }

pub returns-clause-form : goal.returns-clause-form
returns-clause-form c = λ u k.
    let z = subst (λ o. MatchOption o ((vec_len c.loop-put.puts ≡ 0) × (vec_len c.pop.new.self ≡ 0)) (λ _. vec_len c.pop.new.self + 1 ≡ vec_len c.loop-put.puts)) c.in_default.is c.pop.ensures.cases in
    found-last c.loop-put.heap c.args.depth c.loop-put.puts.items u c.loop-put.form (empty-list c.loop-put.puts.items (omega (arith, z, c.loop-put.puts.ok))) (c.loop-put.invariant.found u k)
