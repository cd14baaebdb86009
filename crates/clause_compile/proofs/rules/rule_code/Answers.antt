use Rattle.std.proofs.Common.{◌∙◌, List, [], All, map, refl, ap, sym, subst}
use Rattle.ref_terms.specs.search.Front.{term_of}
use Rattle.ref_terms.specs.declared.sym.Sym.{Sym}
use Rattle.ref_terms.specs.declared.tree.Tree.{Tree}
use Rattle.level_terms.proofs.GrowthLemmas.{grows-trans}
use Rattle.lp_resolve.specs.declared.program.HeadTree.{HeadTree}
use Rattle.lp_resolve.specs.Plain.{plain_head}
use Rattle.clause_compile.specs.inside.Compiled.{AllWithin}
use Rattle.clause_compile.specs.inside.Meaning.{IsCompiled}
use Rattle.clause_compile.specs.inside.RuleCodes.{AreHeadCodes, IsHeadFit}
use Rattle.clause_compile.proofs.CodesLemmas.{compiled-kept}
use Rattle.clause_compile.proofs.RuleLemmas.{heads-kept, plain-option}
use Rattle.clause_compile.proofs.rules.rule_code.Goals as goal

pub head_codes-requires-clause-fit : goal.head_codes-requires-clause-fit
head_codes-requires-clause-fit c = subst (λ (hs : List HeadTree). All (IsHeadFit c.args.rule.now.vars) hs) (sym c.as_slice.ensures) c.requires.fit.kept

pub head_codes-requires-2-clause-fit : goal.head_codes-requires-2-clause-fit
head_codes-requires-2-clause-fit c = subst (λ (hs : List HeadTree). All (IsHeadFit c.args.rule.now.vars) hs) (sym c.as_slice-2.ensures) c.requires.fit.removed

pub compile_terms-requires-clause-within : goal.compile_terms-requires-clause-within
compile_terms-requires-clause-within c = subst (AllWithin c.args.rule.now.vars 0) (sym c.as_slice-3.ensures) c.requires.fit.tests

pub compile_option-requires-clause-within : goal.compile_option-requires-clause-within
compile_option-requires-clause-within c = c.requires.fit.body

pub returns-clause-code : goal.returns-clause-code
returns-clause-code c =
    let v = c.args.rule.now.vars in
    let f = c.head_codes.new.heap in
    let g = c.head_codes-2.new.heap in
    let h = c.compile_terms.new.heap in
    let i = c.compile_option.new.heap in
    let gh = c.compile_terms.ensures.grows in
    let hi = c.compile_option.ensures.grows in
    let gi = grows-trans g h i [] [] [] gh hi in
    let fi = grows-trans f g i [] [] [] c.head_codes-2.ensures.grows gi in
    record {
      names = ap (map (λ (s : Sym). s.0)) (c.from_vec-names.ensures ∙ c.in_ok-from_slice.ensures.items ∙ c.as_slice-4.ensures);
      variables = refl;
      kept = subst (λ (hs : List HeadTree). AreHeadCodes v i.nodes c.in_ok-kept.kept (map plain_head hs)) c.as_slice.ensures (heads-kept v f i fi c.in_ok-kept.kept _ c.in_ok-kept.ensures.codes);
      removed = subst (λ (hs : List HeadTree). AreHeadCodes v i.nodes c.in_ok-removed.removed (map plain_head hs)) c.as_slice-2.ensures (heads-kept v g i gi c.in_ok-removed.removed _ c.in_ok-removed.ensures.codes);
      pairs = c.in_ok-pairs.ensures;
      earlier = c.requires.fit.earlier;
      body_context = refl;
      body_context_there = tt;
      tests = subst (λ (ts : List Tree). IsCompiled v i.nodes c.in_ok-tests.tests (map (term_of 0) ts)) c.as_slice-3.ensures (compiled-kept v h i c.in_ok-tests.tests _ hi c.in_ok-tests.ensures.skeleton);
      body = subst (IsCompiled v i.nodes c.in_ok-body.body) (sym (plain-option c.args.rule.now.body)) c.in_ok-body.ensures.skeleton;
    }

pub returns-in_err-removed-clause-grows : goal.returns-in_err-removed-clause-grows
returns-in_err-removed-clause-grows c = grows-trans c.args.heap.now c.head_codes.new.heap c.head_codes-2.new.heap [] [] [] c.head_codes.ensures.grows c.head_codes-2.ensures.grows

pub returns-in_err-tests-clause-grows : goal.returns-in_err-tests-clause-grows
returns-in_err-tests-clause-grows c = grows-trans c.args.heap.now c.head_codes-2.new.heap c.compile_terms.new.heap [] [] [] (grows-trans c.args.heap.now c.head_codes.new.heap c.head_codes-2.new.heap [] [] [] c.head_codes.ensures.grows c.head_codes-2.ensures.grows) c.compile_terms.ensures.grows

pub returns-in_err-body-clause-grows : goal.returns-in_err-body-clause-grows
returns-in_err-body-clause-grows c = grows-trans c.args.heap.now c.compile_terms.new.heap c.compile_option.new.heap [] [] [] (grows-trans c.args.heap.now c.head_codes-2.new.heap c.compile_terms.new.heap [] [] [] (grows-trans c.args.heap.now c.head_codes.new.heap c.head_codes-2.new.heap [] [] [] c.head_codes.ensures.grows c.head_codes-2.ensures.grows) c.compile_terms.ensures.grows) c.compile_option.ensures.grows

pub returns-in_err-from_slice-clause-grows : goal.returns-in_err-from_slice-clause-grows
returns-in_err-from_slice-clause-grows c = grows-trans c.args.heap.now c.compile_terms.new.heap c.compile_option.new.heap [] [] [] (grows-trans c.args.heap.now c.head_codes-2.new.heap c.compile_terms.new.heap [] [] [] (grows-trans c.args.heap.now c.head_codes.new.heap c.head_codes-2.new.heap [] [] [] c.head_codes.ensures.grows c.head_codes-2.ensures.grows) c.compile_terms.ensures.grows) c.compile_option.ensures.grows

pub returns-in_err-pairs-clause-grows : goal.returns-in_err-pairs-clause-grows
returns-in_err-pairs-clause-grows c = grows-trans c.args.heap.now c.compile_terms.new.heap c.compile_option.new.heap [] [] [] (grows-trans c.args.heap.now c.head_codes-2.new.heap c.compile_terms.new.heap [] [] [] (grows-trans c.args.heap.now c.head_codes.new.heap c.head_codes-2.new.heap [] [] [] c.head_codes.ensures.grows c.head_codes-2.ensures.grows) c.compile_terms.ensures.grows) c.compile_option.ensures.grows

pub returns-clause-grows : goal.returns-clause-grows
returns-clause-grows c = grows-trans c.args.heap.now c.compile_terms.new.heap c.compile_option.new.heap [] [] [] (grows-trans c.args.heap.now c.head_codes-2.new.heap c.compile_terms.new.heap [] [] [] (grows-trans c.args.heap.now c.head_codes.new.heap c.head_codes-2.new.heap [] [] [] c.head_codes.ensures.grows c.head_codes-2.ensures.grows) c.compile_terms.ensures.grows) c.compile_option.ensures.grows
