use Rattle.std.proofs.Common.{◌≡◌, suc, ◌-◌, ◌++◌, ◌∷◌, [], List, length, map, drop, reverse, slice_get, ap, ap₂, sym, ◌∙◌, subst, arith, refl}
use Rattle.level_terms.specs.declared.node.TermId.{TermId}
use Rattle.level_terms.specs.Graph.{node_at}
use Rattle.level_terms.specs.Reading.{read}
use Rattle.level_terms.proofs.GrowthLemmas.{grows-refl, grows-trans}
use Rattle.level_terms.proofs.ValidLemmas.{growth_keeps_valid}
use Rattle.ref_terms.specs.terms.Term.{Term}
use Rattle.beta_fragment.specs.Names.{renamed, names}
use Rattle.level_terms.specs.Values.{value_of}
use Rattle.beta_fragment.specs.HeadForm.{AllValidAt, all_read}
use Rattle.beta_fragment.specs.inside.Spine.{args_in}
use Rattle.level_terms.proofs.ReadLemmas.{valid-below, grown-reads}
use Rattle.beta_fragment.proofs.MoveLemmas.{node-after}
use Rattle.beta_fragment.proofs.HeadLemmas.{renamed-node, renamed-valid, valid-each, valid-grown_all, read-grown_all, drop-get, drop-whole, newest-arg}
use Rattle.beta_fragment.proofs.head.push_args.Goals as goal

pub loop-i-init : goal.loop-i-init
loop-i-init c = record {
  within = (let k = c.requires.count in omega (arith, k));
  reads = sym (ap (λ (ts : List TermId). map (λ a. read c.args.heap.now a.index (renamed c.args.levels.now)) ts ++ all_read c.args.heap.now (reverse c.args.args.now.items))
      (ap (λ k. drop k (args_in (node_at c.args.heap.now.nodes c.args.t.index))) c.requires.count ∙ drop-whole (args_in (node_at c.args.heap.now.nodes c.args.t.index))));
  valid = c.requires.args;
  variables = refl;
  grows = grows-refl c.args.heap.now [];
}

pub arg_of-arg-requires-clause-within : goal.arg_of-arg-requires-clause-within
arg_of-arg-requires-clause-within c =
    let same = ap (λ o. length (args_in o)) (node-after c.args.heap.now c.loop-i.heap c.loop-i.invariant.grows c.args.t.index c.requires.there) in
    let within = c.loop-i.invariant.within in
    omega (arith, same, within, c.loop-i-test.true)

pub moved_node-requires-clause-valid : goal.moved_node-requires-clause-valid
moved_node-requires-clause-valid c =
    let same = ap args_in (node-after c.args.heap.now c.loop-i.heap c.loop-i.invariant.grows c.args.t.index c.requires.there) in
    let here = c.arg_of-arg.ensures ∙ ap (λ ts. slice_get ts (c.loop-i.i - 1)) same in
    let valid = valid-each c.args.heap.now (length c.args.levels.now) (args_in (node_at c.args.heap.now.nodes c.args.t.index)) (c.loop-i.i - 1) c.arg_of-arg.result c.requires.valid here in
    growth_keeps_valid c.args.heap.now c.loop-i.heap [] [] c.arg_of-arg.result.index (length c.args.levels.now) c.is_sound.ensures c.loop-i.invariant.grows (valid-below c.args.heap.now c.arg_of-arg.result.index (length c.args.levels.now) valid) valid

pub returns-in_err-r-clause-grows : goal.returns-in_err-r-clause-grows
returns-in_err-r-clause-grows c = grows-trans c.args.heap.now c.loop-i.heap c.moved_node.new.heap [] [] [] c.loop-i.invariant.grows c.moved_node.ensures.grows

pub returns-in_err-push-clause-grows : goal.returns-in_err-push-clause-grows
returns-in_err-push-clause-grows c = grows-trans c.args.heap.now c.loop-i.heap c.moved_node.new.heap [] [] [] c.loop-i.invariant.grows c.moved_node.ensures.grows

pub loop-i-preserved : goal.loop-i-preserved
loop-i-preserved c =
    let ts = args_in (node_at c.args.heap.now.nodes c.args.t.index) in
    let same = ap args_in (node-after c.args.heap.now c.loop-i.heap c.loop-i.invariant.grows c.args.t.index c.requires.there) in
    let here = c.arg_of-arg.ensures ∙ ap (λ us. slice_get us (c.loop-i.i - 1)) same in
    let valid = valid-each c.args.heap.now (length c.args.levels.now) (args_in (node_at c.args.heap.now.nodes c.args.t.index)) (c.loop-i.i - 1) c.arg_of-arg.result c.requires.valid here in
    let below = valid-below c.args.heap.now c.arg_of-arg.result.index (length c.args.levels.now) valid in
    let later = growth_keeps_valid c.args.heap.now c.loop-i.heap [] [] c.arg_of-arg.result.index (length c.args.levels.now) c.is_sound.ensures c.loop-i.invariant.grows below valid in
    let reads : read c.moved_node.new.heap c.in_ok-r.r.index names ≡ read c.args.heap.now c.arg_of-arg.result.index (renamed c.args.levels.now) =
    renamed-node c.loop-i.heap c.args.levels.now c.args.depth c.arg_of-arg.result.index (value_of c.moved_node.new.heap c.in_ok-r.r) later c.in_ok-r.ensures.moves
    ∙ ap (λ r. r (renamed c.args.levels.now)) (grown-reads c.args.heap.now c.loop-i.heap c.is_sound.ensures c.loop-i.invariant.grows c.arg_of-arg.result.index below) in
    let rest = read-grown_all c.loop-i.heap c.moved_node.new.heap c.args.depth c.is_sound-in-loop-i.ensures c.moved_node.ensures.grows (reverse c.loop-i.args.items) c.loop-i.invariant.valid ∙ c.loop-i.invariant.reads in
    let order = ap reverse c.in_ok-push.ensures.items ∙ newest-arg c.loop-i.args.items c.in_ok-r.r in
    let up : suc (c.loop-i.i - 1) ≡ c.loop-i.i = omega (arith, c.loop-i-test.true) in
    let dropped = drop-get (args_in (node_at c.args.heap.now.nodes c.args.t.index)) (c.loop-i.i - 1) c.arg_of-arg.result here ∙ ap (λ k. c.arg_of-arg.result ∷ drop k (args_in (node_at c.args.heap.now.nodes c.args.t.index))) up in
    record {
      within = (let within = c.loop-i.invariant.within in omega (arith, within));
      reads = ap (all_read c.moved_node.new.heap) order
          ∙ ap₂ (λ (x : Term) (xs : List Term). x ∷ xs) reads rest
          ∙ sym (ap (λ (us : List TermId). map (λ a. read c.args.heap.now a.index (renamed c.args.levels.now)) us ++ all_read c.args.heap.now (reverse c.args.args.now.items)) dropped);
      valid = subst (λ us. AllValidAt c.moved_node.new.heap us c.args.depth) (sym order)
          (renamed-valid c.loop-i.heap c.args.levels.now c.args.depth c.arg_of-arg.result.index (value_of c.moved_node.new.heap c.in_ok-r.r) c.in_ok-r.ensures.moves, valid-grown_all c.loop-i.heap c.moved_node.new.heap c.args.depth c.is_sound-in-loop-i.ensures c.moved_node.ensures.grows (reverse c.loop-i.args.items) c.loop-i.invariant.valid);
      variables = c.moved_node.ensures.variables ∙ c.loop-i.invariant.variables;
      grows = grows-trans c.args.heap.now c.loop-i.heap c.moved_node.new.heap [] [] [] c.loop-i.invariant.grows c.moved_node.ensures.grows;
    }
