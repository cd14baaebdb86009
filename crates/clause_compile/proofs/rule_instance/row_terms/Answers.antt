use Rattle.std.proofs.Common.{length, refl}
use Rattle.ref_terms.specs.search.Instance.{fresh_for_variable}
use Rattle.clause_compile.proofs.CodeLemmas.{fresh-replaces, variables-valid}
use Rattle.clause_compile.proofs.CodesLemmas.{code-skeleton}
use Rattle.clause_compile.proofs.RuleLemmas.{row-kept}
use Rattle.clause_compile.proofs.rule_instance.row_terms.Goals as goal

pub make_terms-requires-clause-skeleton : goal.make_terms-requires-clause-skeleton
make_terms-requires-clause-skeleton c =
    let w = c.requires.code in
    code-skeleton w.0 c.args.heap.now w.1 (length c.args.variables.now) (length c.args.variables.now) c.args.skeleton.now w.2 w.3 w.4 refl

pub make_terms-requires-clause-variables : goal.make_terms-requires-clause-variables
make_terms-requires-clause-variables c = let r = c.requires.row in variables-valid c.args.heap.now c.args.depth r.0 c.args.variables.now r.1.are

pub returns-clause-reads : goal.returns-clause-reads
returns-clause-reads c = λ n next nodes ts a z row.
    c.in_ok-make_terms.ensures.terms.read n nodes a ts z (fresh_for_variable c.args.depth next) (fresh-replaces c.args.heap.now c.args.depth next c.args.variables.now row.are)

pub returns-clause-valid : goal.returns-clause-valid
returns-clause-valid c = let w = c.requires.code in c.in_ok-make_terms.ensures.terms.valid w.0 w.1 w.3 w.2 w.4

pub returns-clause-row : goal.returns-clause-row
returns-clause-row c = λ next row. row-kept c.args.heap.now c.make_terms.new.heap c.is_sound.ensures c.make_terms.ensures.grows c.args.depth next c.args.variables.now row
