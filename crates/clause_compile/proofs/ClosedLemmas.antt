-- Closed abstractions.
use Rattle.std.proofs.Common.{◌≡◌, ◌∙◌, ℕ, ◌+◌, ◌<◌, ◌++◌, List, [], ◌∷◌, length, refl, sym, subst, arith}
use Rattle.ref_terms.specs.terms.Term.{Term}
use Rattle.ref_terms.specs.terms.Eta.{lam}
use Rattle.ref_terms.specs.search.Front.{term_of}
use Rattle.ref_terms.specs.declared.tree.Tree.{Tree}
use Rattle.level_terms.specs.declared.node.TermId.{TermId}
use Rattle.level_terms.specs.Graph.{Graph}
use Rattle.level_terms.specs.Reading.{read}
use Rattle.level_terms.specs.Sound.{IsSound}
use Rattle.level_terms.specs.Valid.{IsValid}
use Rattle.level_terms.proofs.LocalLemmas.{readings_local}
use Rattle.level_terms.proofs.ValidLemmas.{valid_deeper}
use Rattle.lp_resolve.specs.Trees.{as_term, IsWithin}
use Rattle.clause_compile.specs.Instances.{names}
use Rattle.clause_compile.specs.declared.skeleton.Part.{Part}
use Rattle.clause_compile.specs.declared.skeleton.Part.TheVariants.{Shared, Made}
use Rattle.clause_compile.specs.declared.skeleton.Step.{Step}
use Rattle.clause_compile.specs.declared.skeleton.Step.TheVariants.{Lam}
use Rattle.clause_compile.specs.inside.Compiled.{bound_at, IsPartOf, IsDraft}
use Rattle.clause_compile.specs.inside.Meaning.{IsCompiled}
use Rattle.clause_compile.proofs.CompiledLemmas.{bound-ready, closed-reads, closed-valid, draft-more, lam-part}
use Rattle.clause_compile.proofs.StayLemmas.{stays, means-of}

-- a node that reads as a closed tree is a part of it, under however many abstractions it stands
pub closed-part : (variables : ℕ) (h : Graph) (steps : List Step) (depth : ℕ) (r : TermId) (t : Tree) → IsSound h → h.depths ≡ [] → IsWithin 0 0 (as_term t) → read h r.index names ≡ term_of 0 t → IsValid h r.index 0 → IsPartOf variables h.nodes steps depth (Shared r) (term_of 0 t)
closed-part variables h steps depth r t s closed within reads deep = record {
  there = sym (closed-valid h closed r.index 0) ∙ deep;
  term = λ env a. sym (closed-reads h s closed r.index env a)
      ∙ readings_local h r.index 0 env names deep (λ i l. absurd (let z : i < 0 = l in omega (arith, z)))
      ∙ reads ∙ sym (stays t 0 0 within (bound_at depth env) (bound-ready depth env a) (λ i l. absurd (let z : i < 0 = l in omega (arith, z))));
  holds = sym (closed-valid h closed r.index depth) ∙ valid_deeper h r.index 0 depth deep (omega arith);
}

-- the skeleton of an abstraction alone
pub closed-skeleton : (g : Graph) (steps steps' : List Step) (roots : List Part) (body p : Part) (t : Term) (tree : Tree) → IsDraft 0 g steps → IsWithin 0 0 (as_term tree) → IsPartOf 0 g.nodes steps 1 body t → lam t ≡ term_of 0 tree →
    steps' ≡ steps ++ Lam 0 body ∷ [] → p ≡ Made (length steps) → roots ≡ p ∷ [] → IsCompiled 0 g.nodes (record { steps = steps'; roots = roots }) (term_of 0 tree ∷ [])
closed-skeleton g steps steps' roots body p t tree d within w same e k r =
    let is : IsPartOf 0 g.nodes steps' 0 p (term_of 0 tree) = subst (IsPartOf 0 g.nodes steps' 0 p) same (lam-part 0 g.nodes steps steps' 0 body p t w e k) in
    subst (λ (ps : List Part). IsCompiled 0 g.nodes (record { steps = steps'; roots = ps }) (term_of 0 tree ∷ [])) (sym r)
    (record {
      made = record { steps = (draft-more 0 g steps steps' (Lam 0 body) e d w.there).made; roots = (is.there, tt) };
      terms = (means-of 0 g.nodes steps' p tree within is, tt);
    })
