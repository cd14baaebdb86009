use Rattle.std.proofs.Common.{◌≡◌, ◌∙◌, [], ◌∷◌, ◌++◌, List, ap, sym, subst, length}
use Rattle.ref_terms.specs.search.Front.{term_of}
use Rattle.clause_compile.specs.declared.skeleton.Part.{Part}
use Rattle.clause_compile.specs.inside.Meaning.{AllMean}
use Rattle.clause_compile.specs.inside.Skeleton.{AllParts}
use Rattle.clause_compile.proofs.StayLemmas.{means-of}
use Rattle.clause_compile.proofs.compiling.compile_term.Goals as goal

pub returns-clause-skeleton : goal.returns-clause-skeleton
returns-clause-skeleton c =
    let root = c.in_ok-root.root in
    let part = c.in_ok-root.ensures.part in
    let roots : c.push.new.self ≡ root ∷ [] = c.in_ok-push.ensures.last ∙ ap (λ (ps : List Part). ps ++ root ∷ []) c.new-roots.ensures in
    record {
      made = record {
        steps = c.in_ok-root.ensures.draft.made;
        roots = subst (AllParts c.args.variables c.part_of.new.heap.nodes (length c.part_of.new.steps)) (sym roots) (part.there, tt);
      };
      terms =
          subst (λ (ps : List Part). AllMean c.part_of.new.heap.nodes c.part_of.new.steps ps (term_of 0 c.args.tree.now ∷ [])) (sym roots)
          (means-of c.args.variables c.part_of.new.heap.nodes c.part_of.new.steps root c.args.tree.now c.requires.within part, tt);
    }
