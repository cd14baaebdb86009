use Rattle.std.proofs.Common.{◌≡◌, ◌∙◌, List, [], ◌∷◌, ◌++◌, map, ap, sym, subst, refl}
use Rattle.std.specs.Prelude.{IsTrue, reverse}
use Rattle.std.proofs.lemmas.List.{reverse-reverse}
use Rattle.ref_terms.specs.terms.Text.{text_apply_all}
use Rattle.ref_terms.specs.declared.tree.Tree.{Tree}
use Rattle.lp_resolve.specs.Trees.{as_term, Shape, shape, all_fit}
use Rattle.lp_resolve.proofs.Arguments.{fit-reversed}
use Rattle.lp_resolve.proofs.build.applied_all.Goals as goal

pub loop-argument-init : goal.loop-argument-init
loop-argument-init c =
    let items : c.reverse.new.self.items ≡ reverse c.args.arguments = c.reverse.ensures.items ∙ ap (λ (ts : List Tree). reverse ts) c.into_vec-rest.ensures in
    let back : reverse c.reverse.new.self.items ≡ c.args.arguments = ap (λ (ts : List Tree). reverse ts) items ∙ reverse-reverse c.args.arguments in
    record {
      fit = subst (λ (ts : List Tree). IsTrue (all_fit (map shape ts))) (sym items) (fit-reversed c.args.arguments c.requires.arguments);
      fits = c.requires.function;
      applied = ap (λ (ts : List Tree). text_apply_all (as_term c.args.function) (map as_term ts)) back;
    }
