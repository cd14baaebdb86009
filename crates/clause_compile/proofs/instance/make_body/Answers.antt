use Rattle.std.proofs.Common.{◌≡◌, ◌∙◌, ◌≤◌, List, length, ap, sym, subst, option_to_list}
use Rattle.level_terms.specs.declared.node.TermId.{TermId}
use Rattle.clause_compile.specs.Instances.{all_read, AllValidAt}
use Rattle.clause_compile.specs.inside.Meaning.{IsCompiled, AreTermsOf}
use Rattle.clause_compile.proofs.CodesLemmas.{code-skeleton, means-long, option-short}
use Rattle.clause_compile.proofs.instance.make_body.Goals as goal

pub make_terms-requires-clause-skeleton : goal.make_terms-requires-clause-skeleton
make_terms-requires-clause-skeleton c =
    let w = c.requires.code in
    code-skeleton w.0 c.args.heap.now w.1 c.args.code.now.variables (length c.as_slice-variables.result.now) c.args.code.now.body _ w.3 w.4.body (sym (ap length c.as_slice-variables.ensures.value ∙ c.requires.count))

pub returns-clause-body : goal.returns-clause-body
returns-clause-body c = λ n nodes k a z.
    let vs = c.args.instance.now.variables.items in
    let made = subst (λ (ts : List TermId). AreTermsOf c.args.heap.now c.make_terms.new.heap c.args.instance.now.depth ts c.args.code.now.body c.make_terms.new.terms.items) c.as_slice-variables.ensures.value c.in_ok-make_terms.ensures.terms in
    let compiled = subst (λ v. IsCompiled v nodes c.args.code.now.body (option_to_list k.body)) (sym c.requires.count) z.body in
    let long = made.count ∙ means-long nodes c.args.code.now.body.steps c.args.code.now.body.roots (option_to_list k.body) z.body.terms in
    let short : length c.as_slice.result.now ≤ 1 = subst (λ n. n ≤ 1) (sym (ap length c.as_slice.ensures.value ∙ long)) (option-short k.body) in
    let list : option_to_list c.only_of.result ≡ c.make_terms.new.terms.items = c.only_of.ensures short ∙ c.as_slice.ensures.value in
    record {
      reads = λ r f. ap (all_read c.make_terms.new.heap) list ∙ made.read n nodes a (option_to_list k.body) compiled r f;
      valid = subst (λ (ts : List TermId). AllValidAt c.make_terms.new.heap ts c.args.instance.now.depth) (sym list) (made.valid n nodes a (option_to_list k.body) compiled);
      depths = c.make_terms.ensures.variables;
    }
