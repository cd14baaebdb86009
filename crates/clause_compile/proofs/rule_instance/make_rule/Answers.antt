use Rattle.std.proofs.Common.{◌≡◌, ◌∙◌, ◌<◌, ◌≤◌, ◌++◌, ℕ, [], List, length, map, get_or, option_map, IfSome, refl, ap, sym, subst, replicate, option_to_list}
use Rattle.std.proofs.lemmas.List.{length-map}
use Rattle.ref_terms.specs.terms.Term.{Term}
use Rattle.ref_terms.specs.search.Instance.{instance}
use Rattle.level_terms.specs.declared.node.TermId.{TermId}
use Rattle.level_terms.specs.Graph.{Graph}
use Rattle.level_terms.specs.Sound.{AllOlder}
use Rattle.level_terms.specs.Reading.{read}
use Rattle.level_terms.proofs.GrowthLemmas.{grows-trans}
use Rattle.clause_compile.specs.declared.rules.HeadShape.{HeadShape}
use Rattle.clause_compile.specs.Instances.{names, all_read, AllValidAt}
use Rattle.clause_compile.specs.inside.Meaning.{IsCompiled}
use Rattle.clause_compile.specs.Rules.{IsContextMade}
use Rattle.clause_compile.specs.inside.Rows.{AreVariables, IsRow}
use Rattle.clause_compile.specs.inside.RuleCodes.{AreHeadCodes}
use Rattle.clause_compile.proofs.CodeLemmas.{shared-grown, are-fresh}
use Rattle.clause_compile.proofs.CodesLemmas.{option-short}
use Rattle.clause_compile.proofs.RuleLemmas.{context-made, reads-kept, valid-kept, made-kept}
use Rattle.clause_compile.proofs.rule_instance.make_rule.Goals as goal

-- nodes of a list that reads as one term at most
short-read : (g : Graph) (ts : List TermId) (us : List Term) (d next : ℕ) → all_read g ts ≡ map (instance d next) us → length us ≤ 1 → length ts ≤ 1
short-read g ts us d next e s = subst (λ n. n ≤ 1) (sym (sym (length-map ts (λ t. read g t.index names)) ∙ ap length e ∙ length-map us (instance d next))) s

-- the new variables are a row
new-row : (g : Graph) (d next n : ℕ) (vs items : List TermId) → vs ≡ items → length items ≡ n → AllOlder (length g.nodes) items → AreVariables g d next n items → IsRow g d next vs
new-row g d next n vs items e k there are = subst (IsRow g d next) (sym e) (record { there = there; are = subst (λ m. AreVariables g d next m items) (sym k) are })

pub context_node-body_context-requires : goal.context_node-body_context-requires
context_node-body_context-requires c =
    let w = c.requires in
    let e = sym (ap length c.as_slice-row.ensures.value ∙ c.in_ok-make_variables.ensures.count) in
    subst (λ o. IfSome o (λ v. v < length c.as_slice-row.result.now)) (sym w.4.body_context) (subst (λ m. IfSome w.2.body_context (λ v. v < m)) e w.4.body_context_there)

pub row_heads-requires-clause-code : goal.row_heads-requires-clause-code
row_heads-requires-clause-code c =
    let w = c.requires in
    let e = sym (ap length c.as_slice-row.ensures.value ∙ c.in_ok-make_variables.ensures.count) in (
      w.0,
      w.1,
      w.2.kept,
      shared-grown w.0 c.args.heap.now c.make_variables.new.heap [] [] w.1 c.make_variables.ensures.grows w.3,
      subst (λ (hs : List HeadShape). AreHeadCodes (length c.as_slice-row.result.now) w.1 hs w.2.kept) (sym c.as_slice.ensures) (subst (λ m. AreHeadCodes m w.1 c.args.code.now.kept w.2.kept) e w.4.kept),
    )

pub row_heads-requires-clause-row : goal.row_heads-requires-clause-row
row_heads-requires-clause-row c = (length c.args.heap.now.depths, new-row c.make_variables.new.heap c.args.depth (length c.args.heap.now.depths) c.args.code.now.variables c.as_slice-row.result.now c.make_variables.new.nodes.items c.as_slice-row.ensures.value c.in_ok-make_variables.ensures.count c.in_ok-make_variables.ensures.there c.in_ok-make_variables.ensures.variables)

pub row_heads-requires-2-clause-code : goal.row_heads-requires-2-clause-code
row_heads-requires-2-clause-code c =
    let w = c.requires in
    let e = sym (ap length c.as_slice-row.ensures.value ∙ c.in_ok-make_variables.ensures.count) in
    let grown = grows-trans c.args.heap.now c.make_variables.new.heap c.row_heads.new.heap [] [] [] (c.make_variables.ensures.grows) (c.row_heads.ensures.grows) in (
      w.0,
      w.1,
      w.2.removed,
      shared-grown w.0 c.args.heap.now c.row_heads.new.heap [] [] w.1 grown w.3,
      subst (λ (hs : List HeadShape). AreHeadCodes (length c.as_slice-row.result.now) w.1 hs w.2.removed) (sym c.as_slice-2.ensures) (subst (λ m. AreHeadCodes m w.1 c.args.code.now.removed w.2.removed) e w.4.removed),
    )

pub row_heads-requires-2-clause-row : goal.row_heads-requires-2-clause-row
row_heads-requires-2-clause-row c = (length c.args.heap.now.depths, c.in_ok-kept.ensures.row (length c.args.heap.now.depths) (new-row c.make_variables.new.heap c.args.depth (length c.args.heap.now.depths) c.args.code.now.variables c.as_slice-row.result.now c.make_variables.new.nodes.items c.as_slice-row.ensures.value c.in_ok-make_variables.ensures.count c.in_ok-make_variables.ensures.there c.in_ok-make_variables.ensures.variables))

pub row_terms-requires-clause-code : goal.row_terms-requires-clause-code
row_terms-requires-clause-code c =
    let w = c.requires in
    let e = sym (ap length c.as_slice-row.ensures.value ∙ c.in_ok-make_variables.ensures.count) in
    let grown = grows-trans c.args.heap.now c.row_heads.new.heap c.row_heads-2.new.heap [] [] [] (grows-trans c.args.heap.now c.make_variables.new.heap c.row_heads.new.heap [] [] [] (c.make_variables.ensures.grows) (c.row_heads.ensures.grows)) (c.row_heads-2.ensures.grows) in (
      w.0,
      w.1,
      w.2.tests,
      shared-grown w.0 c.args.heap.now c.row_heads-2.new.heap [] [] w.1 grown w.3,
      subst (λ m. IsCompiled m w.1 c.args.code.now.tests w.2.tests) e w.4.tests,
    )

pub row_terms-requires-clause-row : goal.row_terms-requires-clause-row
row_terms-requires-clause-row c = (length c.args.heap.now.depths, c.in_ok-removed.ensures.row (length c.args.heap.now.depths) (c.in_ok-kept.ensures.row (length c.args.heap.now.depths) (new-row c.make_variables.new.heap c.args.depth (length c.args.heap.now.depths) c.args.code.now.variables c.as_slice-row.result.now c.make_variables.new.nodes.items c.as_slice-row.ensures.value c.in_ok-make_variables.ensures.count c.in_ok-make_variables.ensures.there c.in_ok-make_variables.ensures.variables)))

pub row_terms-requires-2-clause-code : goal.row_terms-requires-2-clause-code
row_terms-requires-2-clause-code c =
    let w = c.requires in
    let e = sym (ap length c.as_slice-row.ensures.value ∙ c.in_ok-make_variables.ensures.count) in
    let grown = grows-trans c.args.heap.now c.row_heads-2.new.heap c.row_terms.new.heap [] [] [] (grows-trans c.args.heap.now c.row_heads.new.heap c.row_heads-2.new.heap [] [] [] (grows-trans c.args.heap.now c.make_variables.new.heap c.row_heads.new.heap [] [] [] (c.make_variables.ensures.grows) (c.row_heads.ensures.grows)) (c.row_heads-2.ensures.grows)) (c.row_terms.ensures.grows) in (
      w.0,
      w.1,
      option_to_list w.2.body,
      shared-grown w.0 c.args.heap.now c.row_terms.new.heap [] [] w.1 grown w.3,
      subst (λ m. IsCompiled m w.1 c.args.code.now.body (option_to_list w.2.body)) e w.4.body,
    )

pub row_terms-requires-2-clause-row : goal.row_terms-requires-2-clause-row
row_terms-requires-2-clause-row c = (length c.args.heap.now.depths, c.in_ok-tests.ensures.row (length c.args.heap.now.depths) (c.in_ok-removed.ensures.row (length c.args.heap.now.depths) (c.in_ok-kept.ensures.row (length c.args.heap.now.depths) (new-row c.make_variables.new.heap c.args.depth (length c.args.heap.now.depths) c.args.code.now.variables c.as_slice-row.result.now c.make_variables.new.nodes.items c.as_slice-row.ensures.value c.in_ok-make_variables.ensures.count c.in_ok-make_variables.ensures.there c.in_ok-make_variables.ensures.variables))))

pub returns-in_err-kept-clause-grows : goal.returns-in_err-kept-clause-grows
returns-in_err-kept-clause-grows c = grows-trans c.args.heap.now c.make_variables.new.heap c.row_heads.new.heap [] [] [] (c.make_variables.ensures.grows) (c.row_heads.ensures.grows)

pub returns-in_err-removed-clause-grows : goal.returns-in_err-removed-clause-grows
returns-in_err-removed-clause-grows c = grows-trans c.args.heap.now c.row_heads.new.heap c.row_heads-2.new.heap [] [] [] (grows-trans c.args.heap.now c.make_variables.new.heap c.row_heads.new.heap [] [] [] (c.make_variables.ensures.grows) (c.row_heads.ensures.grows)) (c.row_heads-2.ensures.grows)

pub returns-in_err-tests-clause-grows : goal.returns-in_err-tests-clause-grows
returns-in_err-tests-clause-grows c = grows-trans c.args.heap.now c.row_heads-2.new.heap c.row_terms.new.heap [] [] [] (grows-trans c.args.heap.now c.row_heads.new.heap c.row_heads-2.new.heap [] [] [] (grows-trans c.args.heap.now c.make_variables.new.heap c.row_heads.new.heap [] [] [] (c.make_variables.ensures.grows) (c.row_heads.ensures.grows)) (c.row_heads-2.ensures.grows)) (c.row_terms.ensures.grows)

pub returns-in_err-bodies-clause-grows : goal.returns-in_err-bodies-clause-grows
returns-in_err-bodies-clause-grows c = grows-trans c.args.heap.now c.row_terms.new.heap c.row_terms-2.new.heap [] [] [] (grows-trans c.args.heap.now c.row_heads-2.new.heap c.row_terms.new.heap [] [] [] (grows-trans c.args.heap.now c.row_heads.new.heap c.row_heads-2.new.heap [] [] [] (grows-trans c.args.heap.now c.make_variables.new.heap c.row_heads.new.heap [] [] [] (c.make_variables.ensures.grows) (c.row_heads.ensures.grows)) (c.row_heads-2.ensures.grows)) (c.row_terms.ensures.grows)) (c.row_terms-2.ensures.grows)

pub returns-clause-grows : goal.returns-clause-grows
returns-clause-grows c = grows-trans c.args.heap.now c.row_terms.new.heap c.row_terms-2.new.heap [] [] [] (grows-trans c.args.heap.now c.row_heads-2.new.heap c.row_terms.new.heap [] [] [] (grows-trans c.args.heap.now c.row_heads.new.heap c.row_heads-2.new.heap [] [] [] (grows-trans c.args.heap.now c.make_variables.new.heap c.row_heads.new.heap [] [] [] (c.make_variables.ensures.grows) (c.row_heads.ensures.grows)) (c.row_heads-2.ensures.grows)) (c.row_terms.ensures.grows)) (c.row_terms-2.ensures.grows)

pub returns-clause-rule : goal.returns-clause-rule
returns-clause-rule c = λ n nodes r a z.
    let d = c.args.depth in
    let next = length c.args.heap.now.depths in
    let g = c.make_variables.new.heap in
    let h1 = c.row_heads.new.heap in
    let h2 = c.row_heads-2.new.heap in
    let h3 = c.row_terms.new.heap in
    let h4 = c.row_terms-2.new.heap in
    let items = c.make_variables.new.nodes.items in
    let count = c.in_ok-make_variables.ensures.count in
    let e = sym (ap length c.as_slice-row.ensures.value ∙ count) in
    let row0 = new-row c.make_variables.new.heap c.args.depth (length c.args.heap.now.depths) c.args.code.now.variables c.as_slice-row.result.now c.make_variables.new.nodes.items c.as_slice-row.ensures.value c.in_ok-make_variables.ensures.count c.in_ok-make_variables.ensures.there c.in_ok-make_variables.ensures.variables in
    let row1 = c.in_ok-kept.ensures.row next row0 in
    let row2 = c.in_ok-removed.ensures.row next row1 in
    let row3 = c.in_ok-tests.ensures.row next row2 in
    let row4 = c.in_ok-bodies.ensures.row next row3 in
    let s0 = shared-grown n c.args.heap.now g [] [] nodes c.make_variables.ensures.grows a in
    let s1 = shared-grown n g h1 [] [] nodes c.row_heads.ensures.grows s0 in
    let s2 = shared-grown n h1 h2 [] [] nodes c.row_heads-2.ensures.grows s1 in
    let s3 = shared-grown n h2 h3 [] [] nodes c.row_terms.ensures.grows s2 in
    let g34 = c.row_terms-2.ensures.grows in
    let g24 = grows-trans h2 h3 h4 [] [] [] c.row_terms.ensures.grows g34 in
    let g14 = grows-trans h1 h2 h4 [] [] [] c.row_heads-2.ensures.grows g24 in
    let kept = c.in_ok-kept.ensures.made n next nodes r.kept s0
    (subst (λ (hs : List HeadShape). AreHeadCodes (length c.as_slice-row.result.now) nodes hs r.kept) (sym c.as_slice.ensures) (subst (λ m. AreHeadCodes m nodes c.args.code.now.kept r.kept) e z.kept)) row0 in
    let removed = c.in_ok-removed.ensures.made n next nodes r.removed s1
    (subst (λ (hs : List HeadShape). AreHeadCodes (length c.as_slice-row.result.now) nodes hs r.removed) (sym c.as_slice-2.ensures) (subst (λ m. AreHeadCodes m nodes c.args.code.now.removed r.removed) e z.removed)) row1 in
    let tests = c.in_ok-tests.ensures.reads n next nodes r.tests s2 (subst (λ m. IsCompiled m nodes c.args.code.now.tests r.tests) e z.tests) row2 in
    let bodies = c.in_ok-bodies.ensures.reads n next nodes (option_to_list r.body) s3 (subst (λ m. IsCompiled m nodes c.args.code.now.body (option_to_list r.body)) e z.body) row3 in
    let same = c.as_slice-3.ensures.value in
    let short = subst (λ (ts : List TermId). length ts ≤ 1) (sym same) (short-read h4 c.in_ok-bodies.bodies.items (option_to_list r.body) d next bodies (option-short r.body)) in
    let list : option_to_list c.only_of-body.result ≡ c.in_ok-bodies.bodies.items = c.only_of-body.ensures short ∙ same in
    record {
      kept = made-kept h1 h4 c.is_sound-2.ensures g14 d next c.in_ok-kept.kept r.kept kept;
      removed = made-kept h2 h4 c.is_sound-3.ensures g24 d next c.in_ok-removed.removed r.removed removed;
      tests = reads-kept h3 h4 c.is_sound-4.ensures g34 d c.in_ok-tests.tests.items c.in_ok-tests.ensures.valid ∙ tests;
      tests_valid = valid-kept h3 h4 c.is_sound-4.ensures g34 d c.in_ok-tests.tests.items c.in_ok-tests.ensures.valid;
      body_context = subst (λ o. IsContextMade h4 d next o r.body_context) (sym (c.context_node-body_context.ensures ∙ ap (option_map (λ v. get_or c.as_slice-row.result.now v (record { index = 0 }))) z.body_context))
          (context-made h4 d next c.as_slice-row.result.now r.body_context row4 (subst (λ m. IfSome r.body_context (λ v. v < m)) e z.body_context_there));
      body = ap (all_read h4) list ∙ bodies;
      body_valid = subst (λ (ts : List TermId). AllValidAt h4 ts d) (sym list) c.in_ok-bodies.ensures.valid;
      fresh = are-fresh h4 d next r.variables items (count ∙ z.variables)
          (subst (λ m. AreVariables h4 d next m items) (count ∙ z.variables) (subst (IsRow h4 d next) c.as_slice-row.ensures.value row4).are);
      depths = c.row_terms-2.ensures.depths ∙ c.row_terms.ensures.depths ∙ c.row_heads-2.ensures.depths ∙ c.row_heads.ensures.depths ∙ c.in_ok-make_variables.ensures.depths ∙ ap (λ m. c.args.heap.now.depths ++ replicate m d) z.variables;
      depth = refl;
      first = c.next_var-first_fresh.ensures;
    }
