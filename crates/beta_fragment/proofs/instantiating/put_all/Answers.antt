use Rattle.std.proofs.Common.{◌≡◌, ℕ, ◌<◌, ◌+◌, ◌-◌, ◌≤◌, ◌*◌, suc, [], length, drop, get_or, refl, sym, ap, ap₂, ◌∙◌, subst, arith}
use Rattle.level_terms.specs.Reading.{read}
use Rattle.level_terms.specs.Valid.{IsValid}
use Rattle.level_terms.proofs.GrowthLemmas.{grows-refl, grows-trans}
use Rattle.level_terms.proofs.ValidLemmas.{growth_keeps_valid, valid_deeper}
use Rattle.ref_terms.specs.terms.Term.{Term}
use Rattle.ref_terms.specs.terms.Apply.{fill}
use Rattle.beta_fragment.specs.Names.{names}
use Rattle.beta_fragment.specs.Moves.{put_name}
use Rattle.beta_fragment.specs.HeadForm.{all_read}
use Rattle.beta_fragment.specs.Instantiation.{put_names}
use Rattle.level_terms.proofs.ReadLemmas.{valid-below, grown-reads, read-built}
use Rattle.beta_fragment.proofs.StandLemmas.{valid-nth}
use Rattle.beta_fragment.proofs.InstantLemmas.{drop-nothing, put-next}
use Rattle.beta_fragment.proofs.instantiating.put_all.Goals as goal

pub loop-i-init : goal.loop-i-init
loop-i-init c = record {
  within = omega arith;
  reads = drop-nothing c.args.heap.now (c.args.to + length c.args.puts.now) c.args.puts.now (read c.args.heap.now c.args.t.index names) (read-built c.args.heap.now c.args.t.index names);
  valid = c.requires.valid;
  variables = refl;
  grows = grows-refl c.args.heap.now [];
}

pub is_taken-taken-requires : goal.is_taken-taken-requires
is_taken-taken-requires c =
    let a = get_or c.args.puts.now (c.loop-i.i - 1) (record { index = 0 }) in
    let within = c.loop-i.invariant.within in
    let here = valid-nth c.args.heap.now c.args.to c.args.puts.now (c.loop-i.i - 1) (record { index = 0 }) (omega (arith, within, c.loop-i-test.true)) c.requires.puts in
    let level = c.in_ok-level.ensures in
    let deep = valid_deeper c.args.heap.now a.index c.args.to c.in_ok-level.level here (omega (arith, level)) in
    growth_keeps_valid c.args.heap.now c.loop-i.heap [] [] a.index c.in_ok-level.level c.is_sound.ensures c.loop-i.invariant.grows (valid-below c.args.heap.now a.index c.in_ok-level.level deep) deep

pub put_name-requires-clause-put : goal.put_name-requires-clause-put
put_name-requires-clause-put c =
    let a = get_or c.args.puts.now (c.loop-i.i - 1) (record { index = 0 }) in
    let within = c.loop-i.invariant.within in
    let here = valid-nth c.args.heap.now c.args.to c.args.puts.now (c.loop-i.i - 1) (record { index = 0 }) (omega (arith, within, c.loop-i-test.true)) c.requires.puts in
    let level = c.in_ok-level.ensures in
    let deep = valid_deeper c.args.heap.now a.index c.args.to c.in_ok-level.level here (omega (arith, level)) in
    growth_keeps_valid c.args.heap.now c.loop-i.heap [] [] a.index c.in_ok-level.level c.is_sound.ensures c.loop-i.invariant.grows (valid-below c.args.heap.now a.index c.in_ok-level.level deep) deep

pub put_name-requires-clause-valid : goal.put_name-requires-clause-valid
put_name-requires-clause-valid c =
    let level = c.in_ok-level.ensures in
    subst (IsValid c.loop-i.heap c.loop-i.node.index) (let q : c.args.to + c.loop-i.i ≡ c.in_ok-level.level + 1 = omega (arith, level, c.loop-i-test.true) in q) c.loop-i.invariant.valid

pub returns-in_err-node-clause-variables : goal.returns-in_err-node-clause-variables
returns-in_err-node-clause-variables c = c.put_name.ensures.variables ∙ c.loop-i.invariant.variables

pub returns-in_err-node-clause-grows : goal.returns-in_err-node-clause-grows
returns-in_err-node-clause-grows c = grows-trans c.args.heap.now c.loop-i.heap c.put_name.new.heap [] [] [] c.loop-i.invariant.grows c.put_name.ensures.grows

pub loop-i-preserved : goal.loop-i-preserved
loop-i-preserved c =
    let a = get_or c.args.puts.now (c.loop-i.i - 1) (record { index = 0 }) in
    let within = c.loop-i.invariant.within in
    let lt = (let q : c.loop-i.i - 1 < length c.args.puts.now = omega (arith, within, c.loop-i-test.true) in q) in
    let here = valid-nth c.args.heap.now c.args.to c.args.puts.now (c.loop-i.i - 1) (record { index = 0 }) lt c.requires.puts in
    let same = grown-reads c.args.heap.now c.loop-i.heap c.is_sound.ensures c.loop-i.invariant.grows a.index (valid-below c.args.heap.now a.index c.args.to here) in
    let before : read c.loop-i.heap c.loop-i.node.index names ≡ fill (put_names (c.args.to + suc (c.loop-i.i - 1)) (all_read c.args.heap.now (drop (suc (c.loop-i.i - 1)) c.args.puts.now))) (read c.args.heap.now c.args.t.index names) =
    c.loop-i.invariant.reads
    ∙ ap (λ n. fill (put_names (c.args.to + n) (all_read c.args.heap.now (drop n c.args.puts.now))) (read c.args.heap.now c.args.t.index names)) (let q : c.loop-i.i ≡ suc (c.loop-i.i - 1) = omega (arith, c.loop-i-test.true) in q) in
    record {
      within = omega (arith, within);
      reads = c.in_ok-node.ensures.reads
          ∙ ap₂ (λ (n : ℕ) (s : Term). fill (put_name n s) (read c.loop-i.heap c.loop-i.node.index names)) c.in_ok-level.ensures (ap (λ f. f names) same)
          ∙ put-next c.args.heap.now c.args.to (c.loop-i.i - 1) c.args.puts.now (record { index = 0 }) (read c.args.heap.now c.args.t.index names) (read c.loop-i.heap c.loop-i.node.index names) c.requires.puts c.requires.plain lt (read-built c.args.heap.now c.args.t.index names) before;
      valid = subst (IsValid c.put_name.new.heap c.in_ok-node.node.index) c.in_ok-level.ensures c.in_ok-node.ensures.valid;
      variables = c.put_name.ensures.variables ∙ c.loop-i.invariant.variables;
      grows = grows-trans c.args.heap.now c.loop-i.heap c.put_name.new.heap [] [] [] c.loop-i.invariant.grows c.put_name.ensures.grows;
    }

pub returns-clause-reads : goal.returns-clause-reads
returns-clause-reads c =
    c.loop-i.invariant.reads
    ∙ ap (λ n. fill (put_names n (all_read c.args.heap.now (drop c.loop-i.i c.args.puts.now))) (read c.args.heap.now c.args.t.index names)) (let q : c.args.to + c.loop-i.i ≡ c.args.to = omega (arith, c.loop-i-test.false) in q)
    ∙ ap (λ n. fill (put_names c.args.to (all_read c.args.heap.now (drop n c.args.puts.now))) (read c.args.heap.now c.args.t.index names)) (let q : c.loop-i.i ≡ 0 = omega (arith, c.loop-i-test.false) in q)

pub returns-clause-valid : goal.returns-clause-valid
returns-clause-valid c = subst (IsValid c.loop-i.heap c.loop-i.node.index) (let q : c.args.to + c.loop-i.i ≡ c.args.to = omega (arith, c.loop-i-test.false) in q) c.loop-i.invariant.valid
