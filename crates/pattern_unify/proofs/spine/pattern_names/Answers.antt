use Rattle.std.proofs.Common.{◌≡◌, ◌∙◌, sym, ap, ℕ, List, [], Some, None, map, reverse, cond, true, false, ◌-◌, arith, get_or, length, drop, refl}
use Rattle.level_terms.specs.declared.node.TermId.{TermId}
use Rattle.level_terms.specs.Reading.{read}
use Rattle.level_terms.proofs.GrowthLemmas.{grows-refl, grows-trans}
use Rattle.level_terms.proofs.ValidLemmas.{growth_keeps_valid}
use Rattle.ref_terms.specs.unification.Pattern.{of_name, pattern_of}
use Rattle.beta_fragment.specs.HeadForm.{all_read}
use Rattle.beta_fragment.specs.Names.{names}
use Rattle.level_terms.proofs.ReadLemmas.{valid-below, grown-reads}
use Rattle.pattern_unify.proofs.SpineNameLemmas.{arg-valid, pattern-more, pattern-front, pattern-end}
use Rattle.pattern_unify.proofs.spine.pattern_names.Goals as goal

pub loop-i-init : goal.loop-i-init
loop-i-init c = record {
  within = omega arith;
  pattern = pattern-end c.args.heap.now c.args.args.now (length c.args.args.now) refl ∙ ap (λ (ns : List ℕ). Some (map of_name (reverse ns))) (sym c.new-ns.ensures.items);
  below = λ i h. absurd (let none : length c.new-ns.result.items ≡ 0 = ap length c.new-ns.ensures.items in omega (arith, h, none));
  variables = refl;
  grows = grows-refl c.args.heap.now [];
}

pub add_name-requires : goal.add_name-requires
add_name-requires c =
    let within = c.loop-i.invariant.within in
    let valid = arg-valid c.args.heap.now c.args.depth c.args.args.now (c.loop-i.i - 1) (record { index = 0 }) (omega (arith, within, c.loop-i-test.true)) c.requires in
    let there = valid-below c.args.heap.now (get_or c.args.args.now (c.loop-i.i - 1) (record { index = 0 })).index c.args.depth valid in
    growth_keeps_valid c.args.heap.now c.loop-i.heap [] [] (get_or c.args.args.now (c.loop-i.i - 1) (record { index = 0 })).index c.args.depth c.is_sound.ensures c.loop-i.invariant.grows there valid

pub returns-in_err-added-clause-grows : goal.returns-in_err-added-clause-grows
returns-in_err-added-clause-grows c = grows-trans c.args.heap.now c.loop-i.heap c.add_name.new.heap [] [] [] c.loop-i.invariant.grows c.add_name.ensures.grows

pub returns-then-not-added-clause-pattern : goal.returns-then-not-added-clause-pattern
returns-then-not-added-clause-pattern c =
    let within = c.loop-i.invariant.within in
    let t : TermId = get_or c.args.args.now (c.loop-i.i - 1) (record { index = 0 }) in
    let valid = arg-valid c.args.heap.now c.args.depth c.args.args.now (c.loop-i.i - 1) (record { index = 0 }) (omega (arith, within, c.loop-i-test.true)) c.requires in
    let there = valid-below c.args.heap.now t.index c.args.depth valid in
    let refused : c.in_ok-added.added ≡ false = c.if-not-added.true in
    let reads : read c.loop-i.heap t.index names ≡ read c.args.heap.now t.index names = ap (λ r. r names) (grown-reads c.args.heap.now c.loop-i.heap c.is_sound.ensures c.loop-i.invariant.grows t.index there) in
    let none : None ≡ pattern_of (all_read c.args.heap.now (drop (c.loop-i.i - 1) c.args.args.now)) =
    pattern-more c.args.heap.now c.args.args.now c.loop-i.i (record { index = 0 }) c.loop-i.ns.items (read c.loop-i.heap t.index names) None c.loop-i-test.true within c.loop-i.invariant.pattern reads
    (sym (ap (λ b. cond b (Some (map of_name (reverse c.add_name.new.ns.items))) None) refused) ∙ c.in_ok-added.ensures.added) in
    sym (pattern-front c.args.heap.now c.args.args.now (c.loop-i.i - 1) (sym none))

pub returns-then-not-added-clause-grows : goal.returns-then-not-added-clause-grows
returns-then-not-added-clause-grows c = grows-trans c.args.heap.now c.loop-i.heap c.add_name.new.heap [] [] [] c.loop-i.invariant.grows c.add_name.ensures.grows

pub loop-i-preserved : goal.loop-i-preserved
loop-i-preserved c =
    let within = c.loop-i.invariant.within in
    let t : TermId = get_or c.args.args.now (c.loop-i.i - 1) (record { index = 0 }) in
    let valid = arg-valid c.args.heap.now c.args.depth c.args.args.now (c.loop-i.i - 1) (record { index = 0 }) (omega (arith, within, c.loop-i-test.true)) c.requires in
    let there = valid-below c.args.heap.now t.index c.args.depth valid in
    let put : c.in_ok-added.added ≡ true = c.if-not-added.false in
    let reads : read c.loop-i.heap t.index names ≡ read c.args.heap.now t.index names = ap (λ r. r names) (grown-reads c.args.heap.now c.loop-i.heap c.is_sound.ensures c.loop-i.invariant.grows t.index there) in
    record {
      within = omega (arith, within);
      pattern = sym
          (pattern-more c.args.heap.now c.args.args.now c.loop-i.i (record { index = 0 }) c.loop-i.ns.items (read c.loop-i.heap t.index names) (Some (map of_name (reverse c.add_name.new.ns.items))) c.loop-i-test.true within c.loop-i.invariant.pattern reads
          (sym (ap (λ b. cond b (Some (map of_name (reverse c.add_name.new.ns.items))) None) put) ∙ c.in_ok-added.ensures.added));
      below = c.in_ok-added.ensures.below c.loop-i.invariant.below;
      variables = c.add_name.ensures.variables ∙ c.loop-i.invariant.variables;
      grows = grows-trans c.args.heap.now c.loop-i.heap c.add_name.new.heap [] [] [] c.loop-i.invariant.grows c.add_name.ensures.grows;
    }
