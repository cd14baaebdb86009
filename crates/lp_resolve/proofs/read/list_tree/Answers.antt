use Rattle.std.proofs.Common.{◌≡◌, ◌∙◌, List, [], ◌∷◌, ◌++◌, map, refl, sym, ap, subst}
use Rattle.std.specs.Prelude.{IsTrue, codes}
use Rattle.std.proofs.lemmas.List.{map-append}
use Rattle.ref_terms.specs.terms.Term.{Term, At, App, Con}
use Rattle.ref_terms.specs.declared.tree.Tree.{Tree}
use Rattle.lp_resolve.specs.Trees.{as_term, Shape, shape, all_fit}
use Rattle.lp_resolve.specs.Reading.{list_term, reserved}
use Rattle.lp_resolve.proofs.Shapes.{last-fits}
use Rattle.lp_resolve.proofs.read.list_tree.Goals as goal

-- the last element goes before the tail
list-last : (ts : List Term) (t tail : Term) → list_term (ts ++ t ∷ []) tail ≡ list_term ts (App (App (reserved (codes "::")) t) tail)
list-last [] t tail = refl
list-last (u ∷ us) t tail = ap (App (App (reserved (codes "::")) u)) (list-last us t tail)

pub loop-element-preserved : goal.loop-element-preserved
loop-element-preserved c =
    let left = c.pop.new.self.items in
    let one = c.in-Some.element in
    let items : c.loop-element.elements.items ≡ left ++ one ∷ [] = c.in-Some.ensures.items in
    let shapes : map shape c.loop-element.elements.items ≡ map shape left ++ shape one ∷ [] = ap (λ (ts : List Tree). map shape ts) items ∙ map-append shape left (one ∷ []) in
    let terms : map as_term c.loop-element.elements.items ≡ map as_term left ++ as_term one ∷ [] = ap (λ (ts : List Tree). map as_term ts) items ∙ map-append as_term left (one ∷ []) in
    record {
      fit = (last-fits (map shape left) (shape one) (subst (λ (ss : List Shape). IsTrue (all_fit ss)) shapes c.loop-element.invariant.fit)).0;
      fits = c.in_ok-list.ensures.fits;
      list = ap (list_term (map as_term left)) c.in_ok-list.ensures.term ∙ sym (list-last (map as_term left) (as_term one) (as_term c.loop-element.list))
          ∙ sym (ap (λ (ts : List Term). list_term ts (as_term c.loop-element.list)) terms) ∙ c.loop-element.invariant.list;
    }
