use Rattle.std.proofs.Common.{◌≡◌, ◌∙◌, ◌+◌, ◌<◌, ◌≤◌, ◌++◌, ℕ, suc, [], ◌∷◌, List, length, take, get_or, option_map, IfSome, refl, ap, sym, subst, arith}
use Rattle.std.proofs.lemmas.List.{take_all}
use Rattle.ref_terms.specs.unification.Spine.{args_of}
use Rattle.ref_terms.specs.search.Program.{RuleHead}
use Rattle.level_terms.proofs.GrowthLemmas.{grows-refl, grows-trans}
use Rattle.clause_compile.specs.Rules.{IsContextMade, IsHeadMade}
use Rattle.clause_compile.specs.declared.rule_instance.HeadInstance.{HeadInstance}
use Rattle.clause_compile.specs.inside.RuleCodes.{Each, IsHeadCode}
use Rattle.clause_compile.proofs.BoundLemmas.{arguments-of_instance}
use Rattle.clause_compile.proofs.CodeLemmas.{shared-grown}
use Rattle.clause_compile.proofs.RuleLemmas.{each-more, each-next, each-long, context-made, made-kept}
use Rattle.clause_compile.proofs.rule_instance.row_heads.Goals as goal

pub loop-head-init : goal.loop-head-init
loop-head-init c = record {
  made = λ n next nodes hs a z row. subst (λ (is : List HeadInstance). Each (IsHeadMade c.args.heap.now c.args.depth next) is []) (sym c.new-made.ensures) tt;
  row = λ next row. row;
  depths = refl;
  grows = grows-refl c.args.heap.now [];
}

pub row_terms-requires-clause-code : goal.row_terms-requires-clause-code
row_terms-requires-clause-code c =
    let w = c.requires.code in
    let k = each-next (IsHeadCode (length c.args.variables.now) w.1) c.args.heads.now w.2 c.loop-head.head-index c.head-item.result w.4 c.loop-head-test.true c.head-item.is in
    (w.0, w.1, args_of k.item.goal, shared-grown w.0 c.args.heap.now c.loop-head.heap [] [] w.1 c.loop-head.invariant.grows w.3, k.holds.args)

pub context_node-context-requires : goal.context_node-context-requires
context_node-context-requires c =
    let w = c.requires.code in
    let k = each-next (IsHeadCode (length c.args.variables.now) w.1) c.args.heads.now w.2 c.loop-head.head-index c.head-item.result w.4 c.loop-head-test.true c.head-item.is in
    subst (λ o. IfSome o (λ v. v < length c.args.variables.now)) (sym k.holds.context) k.holds.context_there

pub row_terms-requires-clause-row : goal.row_terms-requires-clause-row
row_terms-requires-clause-row c = let r = c.requires.row in (r.0, c.loop-head.invariant.row r.0 r.1)

pub returns-in_err-args-clause-grows : goal.returns-in_err-args-clause-grows
returns-in_err-args-clause-grows c = grows-trans c.args.heap.now c.loop-head.heap c.row_terms.new.heap [] [] [] c.loop-head.invariant.grows c.row_terms.ensures.grows

pub returns-in_err-push-clause-grows : goal.returns-in_err-push-clause-grows
returns-in_err-push-clause-grows c = grows-trans c.args.heap.now c.loop-head.heap c.row_terms.new.heap [] [] [] c.loop-head.invariant.grows c.row_terms.ensures.grows

pub loop-head-preserved : goal.loop-head-preserved
loop-head-preserved c = record {
  made = λ n next nodes hs a z row.
      let d = c.args.depth in
      let f = c.loop-head.heap in
      let h = c.row_terms.new.heap in
      let i = c.loop-head.head-index in
      let k = each-next (IsHeadCode (length c.args.variables.now) nodes) c.args.heads.now hs i c.head-item.result z c.loop-head-test.true c.head-item.is in
      let more : take (i + 1) hs ≡ take i hs ++ k.item ∷ [] = ap (λ m. take m hs) (let e : i + 1 ≡ suc i = omega arith in e) ∙ k.last in
      let here = c.in_ok-args.ensures.row next (c.loop-head.invariant.row next row) in
      let context : IsContextMade h d next c.context_node-context.result k.item.context =
      subst (λ o. IsContextMade h d next o k.item.context) (sym (c.context_node-context.ensures ∙ ap (option_map (λ v. get_or c.args.variables.now v (record { index = 0 }))) k.holds.context))
      (context-made h d next c.args.variables.now k.item.context here k.holds.context_there) in
      let one : IsHeadMade h d next (record { context = c.context_node-context.result; args = c.in_ok-args.args }) k.item = record {
        context = context;
        args = c.in_ok-args.ensures.reads n next nodes (args_of k.item.goal) (shared-grown n c.args.heap.now f [] [] nodes c.loop-head.invariant.grows a) k.holds.args (c.loop-head.invariant.row next row)
            ∙ sym (arguments-of_instance c.head-item.result.pred.0 d next k.item.goal k.holds.pred);
        valid = c.in_ok-args.ensures.valid;
      } in
      subst (λ (ks : List RuleHead). Each (IsHeadMade h d next) c.push.new.self ks) (sym more)
      (subst (λ (is : List HeadInstance). Each (IsHeadMade h d next) is (take i hs ++ k.item ∷ [])) (sym c.in_ok-push.ensures.last)
      (each-more (IsHeadMade h d next) c.loop-head.made (take i hs) (record { context = c.context_node-context.result; args = c.in_ok-args.args }) k.item
      (made-kept f h c.is_sound.ensures c.row_terms.ensures.grows d next c.loop-head.made (take i hs) (c.loop-head.invariant.made n next nodes hs a z row)) one));
  row = λ next row. c.in_ok-args.ensures.row next (c.loop-head.invariant.row next row);
  depths = c.row_terms.ensures.depths ∙ c.loop-head.invariant.depths;
  grows = grows-trans c.args.heap.now c.loop-head.heap c.row_terms.new.heap [] [] [] c.loop-head.invariant.grows c.row_terms.ensures.grows;
}

pub returns-clause-made : goal.returns-clause-made
returns-clause-made c = λ n next nodes hs a z row.
    let i = c.loop-head.head-index in
    let d = c.args.depth in
    let long = each-long (IsHeadCode (length c.args.variables.now) nodes) c.args.heads.now hs z in
    let done : length hs ≤ i = let last = c.loop-head-test.false in omega (arith, last, long) in
    subst (λ (ks : List RuleHead). Each (IsHeadMade c.loop-head.heap d next) c.loop-head.made ks) (take_all i hs done) (c.loop-head.invariant.made n next nodes hs a z row)
