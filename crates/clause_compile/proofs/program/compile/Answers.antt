use Rattle.std.proofs.Common.{◌≡◌, ◌∙◌, ℕ, [], List, map, All, ap, sym, subst}
use Rattle.ref_terms.specs.search.Program.{Clause, modes_of}
use Rattle.level_terms.specs.Graph.{Graph}
use Rattle.level_terms.proofs.GrowthLemmas.{grows-trans}
use Rattle.lp_resolve.specs.declared.program.ClauseTree.{ClauseTree}
use Rattle.lp_resolve.specs.declared.program.PredLine.{PredLine}
use Rattle.lp_resolve.specs.declared.program.Program.{Program}
use Rattle.lp_resolve.specs.Plain.{plain_clause, plain_rule, plain_program}
use Rattle.clause_compile.specs.declared.skeleton.ClauseCode.{ClauseCode}
use Rattle.lp_resolve.specs.Preds.{pred_at}
use Rattle.clause_compile.specs.Programs.{inputs_of}
use Rattle.lp_resolve.specs.Laws.{declared_first, headed_first}
use Rattle.clause_compile.specs.inside.Codes.{AreClauseCodes}
use Rattle.clause_compile.specs.inside.RuleCodes.{AreRuleCodes}
use Rattle.clause_compile.specs.inside.Fit.{IsClauseFit, MadeOf}
use Rattle.clause_compile.proofs.KeyLemmas.{own-shared, keys-same, heads-built}
use Rattle.clause_compile.proofs.FitLemmas.{headed-fit}
use Rattle.clause_compile.proofs.PredLemmas.{code-preds}
use Rattle.clause_compile.proofs.RuleLemmas.{rules-kept}
use Rattle.clause_compile.proofs.program.compile.Goals as goal

pub clause_codes-requires-clause-fit : goal.clause_codes-requires-clause-fit
clause_codes-requires-clause-fit c =
    let same = c.as_slice-3.ensures ∙ ap (λ (p : Program). p.clauses) c.program-program.ensures.program in
    subst (λ (ks : List ClauseTree). All IsClauseFit ks) (sym same) c.clauses_fit.ensures

pub returns-clause-code : goal.returns-clause-code
returns-clause-code c = λ table.
    let same = c.as_slice-3.ensures ∙ ap (λ (p : Program). p.clauses) c.program-program.ensures.program in
    let lines = c.as_slice.ensures ∙ ap (λ (p : Program). p.decls) c.program-program.ensures.program in
    let heads = c.as_slice-2.ensures ∙ ap (λ (p : Program). p.clauses) c.program-program.ensures.program in
    let codes = c.clause_codes.new.heap in
    let h = c.own_keys.new.heap in
    let stays : h ≡ codes = c.in_ok-keys.ensures.same in
    let ruled = c.compile_rules.new.heap in
    let clauses = subst (λ (ks : List ClauseTree). AreClauseCodes codes.nodes c.in_ok-clauses.clauses (map plain_clause ks)) same c.in_ok-clauses.ensures.codes in
    let plain : List Clause = map plain_clause c.args.checked.now.clauses in
    let modes : (s : ℕ) → inputs_of (pred_at s c.put_clauses.new.preds) ≡ modes_of (plain_program table c.args.checked.now) s = λ s. code-preds s c.new-preds.result c.put_lines.new.preds c.put_clauses.new.preds c.args.checked.now.decls c.args.checked.now.clauses c.new-preds.ensures
    (subst (λ (ds : List PredLine). MadeOf c.new-preds.result c.put_lines.new.preds (λ t. declared_first t ds)) lines c.in_ok-put_lines.ensures)
    (subst (λ (ks : List ClauseTree). MadeOf c.put_lines.new.preds c.put_clauses.new.preds (λ t. headed_first t ks)) heads c.in_ok-put_clauses.ensures)
    (headed-fit c.args.checked.now.clauses c.clauses_fit.ensures) in
    record {
      nodes = h.nodes;
      shared = own-shared h c.is_sound.ensures (ap (λ (g : Graph). g.depths) stays ∙ c.in_ok-clauses.ensures.closed);
      clauses = subst (λ (g : Graph). AreClauseCodes g.nodes c.in_ok-clauses.clauses plain) (sym stays) clauses;
      keys = c.in_ok-keys.ensures.keys plain (subst (λ (cs : List ClauseCode). AreClauseCodes codes.nodes cs plain) (sym c.as_slice-4.ensures) clauses) (heads-built c.args.checked.now.clauses)
          ∙ keys-same (plain_program table c.args.checked.now) c.put_clauses.new.preds modes plain;
      preds = modes;
      rules = subst (λ (g : Graph). AreRuleCodes g.nodes c.in_ok-rules.rules.rules (map plain_rule c.args.checked.now.rules)) (sym stays)
          (rules-kept ruled codes c.clause_codes.ensures.grows c.in_ok-rules.rules.rules (map plain_rule c.args.checked.now.rules) c.in_ok-rules.ensures.rules);
    }

pub returns-in_err-keys-clause-grows : goal.returns-in_err-keys-clause-grows
returns-in_err-keys-clause-grows c = grows-trans c.args.heap.now c.clause_codes.new.heap c.own_keys.new.heap [] [] [] (grows-trans c.args.heap.now c.compile_rules.new.heap c.clause_codes.new.heap [] [] [] c.compile_rules.ensures.grows c.clause_codes.ensures.grows) c.own_keys.ensures.grows

pub returns-in_err-clauses-clause-grows : goal.returns-in_err-clauses-clause-grows
returns-in_err-clauses-clause-grows c = grows-trans c.args.heap.now c.compile_rules.new.heap c.clause_codes.new.heap [] [] [] c.compile_rules.ensures.grows c.clause_codes.ensures.grows

pub returns-clause-grows : goal.returns-clause-grows
returns-clause-grows c = grows-trans c.args.heap.now c.clause_codes.new.heap c.own_keys.new.heap [] [] [] (grows-trans c.args.heap.now c.compile_rules.new.heap c.clause_codes.new.heap [] [] [] c.compile_rules.ensures.grows c.clause_codes.ensures.grows) c.own_keys.ensures.grows
