use Rattle.std.proofs.Common.{◌≡◌, ◌∙◌, ◌+◌, ◌++◌, List, [], ◌∷◌, map, take, ap, sym, subst}
use Rattle.std.specs.Prelude.{unwrap_or}
use Rattle.std.proofs.lemmas.List.{take_more, map-append}
use Rattle.ref_terms.specs.search.Program.{Clause, constant_of}
use Rattle.ref_terms.specs.unification.Spine.{args_of}
use Rattle.level_terms.specs.Graph.{Graph}
use Rattle.level_terms.specs.Growth.{Grows}
use Rattle.level_terms.proofs.GrowthLemmas.{grows-refl}
use Rattle.clause_key.specs.Keys.{key_among}
use Rattle.clause_compile.specs.inside.Codes.{IsClauseCode, AreClauseCodes}
use Rattle.clause_compile.specs.inside.Keys.{AllHeadsBuilt, key_in, inputs_at}
use Rattle.clause_compile.specs.declared.skeleton.ClauseCode.{ClauseCode}
use Rattle.clause_compile.proofs.KeyLemmas.{split-last, built-front, clause-of}
use Rattle.clause_compile.proofs.keys.own_keys.Goals as goal

pub own_key-requires-clause-code : goal.own_key-requires-clause-code
own_key-requires-clause-code c =
    subst (λ (g : Graph). (x : Clause) × IsClauseCode g.nodes c.code-item.result x) (sym c.loop-code.invariant.same)
    (clause-of c.args.heap.now.nodes c.args.codes.now c.requires.codes.0 c.loop-code.code-index c.code-item.result c.requires.codes.1 c.loop-code-test.true c.code-item.is)

pub loop-code-preserved : goal.loop-code-preserved
loop-code-preserved c = record {
  same = c.in_ok-key.ensures.same ∙ c.loop-code.invariant.same;
  keys = λ ks w b.
      let nodes = c.args.heap.now.nodes in
      let front = take c.loop-code.code-index c.args.codes.now in
      let code = c.code-item.result in
      let preds = c.args.preds.now in
      let more : take (c.loop-code.code-index + 1) c.args.codes.now ≡ front ++ code ∷ [] =
      take_more c.args.codes.now c.loop-code.code-index code c.loop-code-test.true ∙ ap (λ (x : ClauseCode). front ++ x ∷ []) (sym c.code-item.is) in
      let s = split-last nodes front code ks (subst (λ (z : List ClauseCode). AreClauseCodes nodes z ks) more w) in
      let built = built-front s.front s.last (subst AllHeadsBuilt s.is b) in
      let own = subst (λ (g : Graph). IsClauseCode g.nodes code s.last) (sym c.loop-code.invariant.same) s.code in
      let key = c.in_ok-key.ensures.key s.last own built.1
      ∙ ap (λ ms. key_among ms (args_of s.last.head)) (c.inputs_in-inputs.ensures ∙ sym (ap (λ h. unwrap_or (inputs_at preds (constant_of h)) []) s.code.pred)) in
      c.in_ok-push.ensures.last
      ∙ ap (λ xs. xs ++ c.in_ok-key.key ∷ []) (c.loop-code.invariant.keys s.front s.codes built.0)
      ∙ ap (λ x. map (key_in preds) s.front ++ x ∷ []) key
      ∙ sym (map-append (key_in preds) s.front (s.last ∷ []))
      ∙ sym (ap (map (key_in preds)) s.is);
}

pub returns-clause-grows : goal.returns-clause-grows
returns-clause-grows c = subst (λ (h : Graph). Grows c.args.heap.now h [] []) (sym c.loop-code.invariant.same) (grows-refl c.args.heap.now [])
