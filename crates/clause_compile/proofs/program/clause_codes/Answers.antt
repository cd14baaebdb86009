use Rattle.std.proofs.Common.{◌≡◌, ◌∙◌, ◌+◌, ◌<◌, ◌++◌, ℕ, [], ◌∷◌, List, length, map, take, get_or, ap, sym, subst}
use Rattle.std.proofs.lemmas.List.{take_more, map-append}
use Rattle.std.proofs.lemmas.List.Elements.{All-get_or}
use Rattle.ref_terms.specs.search.Program.{Clause}
use Rattle.level_terms.proofs.GrowthLemmas.{grows-refl, grows-trans}
use Rattle.lp_resolve.specs.declared.program.ClauseTree.{ClauseTree}
use Rattle.lp_resolve.specs.Plain.{plain_clause}
use Rattle.clause_compile.specs.declared.skeleton.ClauseCode.{ClauseCode}
use Rattle.clause_compile.specs.inside.Codes.{AreClauseCodes}
use Rattle.clause_compile.specs.inside.Fit.{IsClauseFit}
use Rattle.clause_compile.proofs.CodesLemmas.{codes-kept, codes-one_more}
use Rattle.clause_compile.proofs.program.clause_codes.Goals as goal

plain-more : (ks : List ClauseTree) (i : ℕ) (k : ClauseTree) → i < length ks → k ≡ get_or ks i k → map plain_clause (take (i + 1) ks) ≡ map plain_clause (take i ks) ++ plain_clause k ∷ []
plain-more ks i k h e = ap (map plain_clause) (take_more ks i k h ∙ ap (λ (x : ClauseTree). take i ks ++ x ∷ []) (sym e)) ∙ map-append plain_clause (take i ks) (k ∷ [])

pub loop-clause-init : goal.loop-clause-init
loop-clause-init c = record {
  codes = subst (λ (cs : List ClauseCode). AreClauseCodes c.args.heap.now.nodes cs []) (sym c.new-codes.ensures) tt;
  closed = c.requires.closed;
  grows = grows-refl c.args.heap.now [];
}

pub clause_code-requires-clause-fit : goal.clause_code-requires-clause-fit
clause_code-requires-clause-fit c = subst IsClauseFit (sym c.clause-item.is) (All-get_or IsClauseFit c.args.clauses.now c.loop-clause.clause-index c.clause-item.result c.loop-clause-test.true c.requires.fit)

pub returns-in_err-code-clause-grows : goal.returns-in_err-code-clause-grows
returns-in_err-code-clause-grows c = grows-trans c.args.heap.now c.loop-clause.heap c.clause_code.new.heap [] [] [] c.loop-clause.invariant.grows c.clause_code.ensures.grows

pub returns-in_err-push-clause-grows : goal.returns-in_err-push-clause-grows
returns-in_err-push-clause-grows c = grows-trans c.args.heap.now c.loop-clause.heap c.clause_code.new.heap [] [] [] c.loop-clause.invariant.grows c.clause_code.ensures.grows

pub loop-clause-preserved : goal.loop-clause-preserved
loop-clause-preserved c = record {
  codes =
      subst (λ (ks : List Clause). AreClauseCodes c.clause_code.new.heap.nodes c.push.new.self ks) (sym (plain-more c.args.clauses.now c.loop-clause.clause-index c.clause-item.result c.loop-clause-test.true c.clause-item.is))
      (subst (λ (cs : List ClauseCode). AreClauseCodes c.clause_code.new.heap.nodes cs (map plain_clause (take c.loop-clause.clause-index c.args.clauses.now) ++ plain_clause c.clause-item.result ∷ [])) (sym c.in_ok-push.ensures.last)
      (codes-one_more c.clause_code.new.heap.nodes c.loop-clause.codes (map plain_clause (take c.loop-clause.clause-index c.args.clauses.now)) c.in_ok-code.code (plain_clause c.clause-item.result)
      (codes-kept c.loop-clause.heap c.clause_code.new.heap c.loop-clause.codes (map plain_clause (take c.loop-clause.clause-index c.args.clauses.now)) c.clause_code.ensures.grows c.loop-clause.invariant.codes)
      c.in_ok-code.ensures.code));
  closed = c.in_ok-code.ensures.closed;
  grows = grows-trans c.args.heap.now c.loop-clause.heap c.clause_code.new.heap [] [] [] c.loop-clause.invariant.grows c.clause_code.ensures.grows;
}
