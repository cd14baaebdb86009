use Rattle.std.proofs.Common.{◌≡◌, ◌∙◌, ◌+◌, ◌<◌, ◌++◌, ℕ, [], ◌∷◌, List, length, map, take, get_or, ap, sym, subst}
use Rattle.std.proofs.lemmas.List.{take_more, map-append}
use Rattle.std.proofs.lemmas.List.Elements.{All-get_or}
use Rattle.ref_terms.specs.search.Program.{RuleHead}
use Rattle.level_terms.proofs.GrowthLemmas.{grows-refl, grows-trans}
use Rattle.lp_resolve.specs.declared.program.HeadTree.{HeadTree}
use Rattle.lp_resolve.specs.Plain.{plain_head}
use Rattle.clause_compile.specs.declared.rules.HeadShape.{HeadShape}
use Rattle.clause_compile.specs.inside.RuleCodes.{IsHeadCode, AreHeadCodes, IsHeadFit}
use Rattle.clause_compile.proofs.RuleLemmas.{each-more, heads-kept}
use Rattle.clause_compile.proofs.rules.head_codes.Goals as goal

plain-more : (ks : List HeadTree) (i : ℕ) (k : HeadTree) → i < length ks → k ≡ get_or ks i k → map plain_head (take (i + 1) ks) ≡ map plain_head (take i ks) ++ plain_head k ∷ []
plain-more ks i k h e = ap (map plain_head) (take_more ks i k h ∙ ap (λ (x : HeadTree). take i ks ++ x ∷ []) (sym e)) ∙ map-append plain_head (take i ks) (k ∷ [])

pub loop-head-init : goal.loop-head-init
loop-head-init c = record {
  codes = subst (λ (cs : List HeadShape). AreHeadCodes c.args.variables c.args.heap.now.nodes cs []) (sym c.new-codes.ensures) tt;
  closed = c.requires.closed;
  grows = grows-refl c.args.heap.now [];
}

pub head_code-requires-clause-fit : goal.head_code-requires-clause-fit
head_code-requires-clause-fit c = subst (IsHeadFit c.args.variables) (sym c.head-item.is) (All-get_or (IsHeadFit c.args.variables) c.args.heads.now c.loop-head.head-index c.head-item.result c.loop-head-test.true c.requires.fit)

pub returns-in_err-code-clause-grows : goal.returns-in_err-code-clause-grows
returns-in_err-code-clause-grows c = grows-trans c.args.heap.now c.loop-head.heap c.head_code.new.heap [] [] [] c.loop-head.invariant.grows c.head_code.ensures.grows

pub returns-in_err-push-clause-grows : goal.returns-in_err-push-clause-grows
returns-in_err-push-clause-grows c = grows-trans c.args.heap.now c.loop-head.heap c.head_code.new.heap [] [] [] c.loop-head.invariant.grows c.head_code.ensures.grows

pub loop-head-preserved : goal.loop-head-preserved
loop-head-preserved c = record {
  codes =
      subst (λ (ks : List RuleHead). AreHeadCodes c.args.variables c.head_code.new.heap.nodes c.push.new.self ks) (sym (plain-more c.args.heads.now c.loop-head.head-index c.head-item.result c.loop-head-test.true c.head-item.is))
      (subst (λ (cs : List HeadShape). AreHeadCodes c.args.variables c.head_code.new.heap.nodes cs (map plain_head (take c.loop-head.head-index c.args.heads.now) ++ plain_head c.head-item.result ∷ [])) (sym c.in_ok-push.ensures.last)
      (each-more (IsHeadCode c.args.variables c.head_code.new.heap.nodes) c.loop-head.codes (map plain_head (take c.loop-head.head-index c.args.heads.now)) c.in_ok-code.code (plain_head c.head-item.result)
      (heads-kept c.args.variables c.loop-head.heap c.head_code.new.heap c.head_code.ensures.grows c.loop-head.codes (map plain_head (take c.loop-head.head-index c.args.heads.now)) c.loop-head.invariant.codes)
      c.in_ok-code.ensures.code));
  closed = c.in_ok-code.ensures.closed;
  grows = grows-trans c.args.heap.now c.loop-head.heap c.head_code.new.heap [] [] [] c.loop-head.invariant.grows c.head_code.ensures.grows;
}
