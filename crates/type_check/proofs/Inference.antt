-- Clauses and rules are typed one after another, and what all of them come to.
use Rattle.std.proofs.Common.{◌≡◌, ◌∙◌, ℕ, ◌<◌, List, [], length, map, Option, take, get_or, All, false, ap, sym, subst, arith}
use Rattle.std.proofs.lemmas.List.{length-map, get_or_default}
use Rattle.lp_parser.specs.declared.ast.Place.{Place}
use Rattle.type_graph.specs.declared.node.Node.{Node}
use Rattle.type_graph.specs.declared.node.Word.TheVariants as words
use Rattle.type_graph.specs.Types.{Ty, word}
use Rattle.type_graph.specs.Graph.{Solves, node_at, IsMostGeneral}
use Rattle.type_terms.specs.declared.scheme.Polytype.{Polytype}
use Rattle.type_terms.specs.FreeNodes.{Frees}
use Rattle.type_terms.specs.Demands.{Meets, Demands}
use Rattle.type_terms.specs.Read.{AreNodes}
use Rattle.type_terms.proofs.CallerLemmas.{DependsBelow, constants-depend, types-below}
use Rattle.type_check.specs.declared.places.Entry.{Entry}
use Rattle.type_check.specs.declared.inferring.Typing.{Typing}
use Rattle.type_check.specs.Typings.{Item, HasItemTyping, IsUntypedAt, upto}
use Rattle.type_check.specs.Inferred.{IsPrincipal}
use Rattle.type_check.specs.inside.Order.{item_of, IsInOrder}
use Rattle.type_check.specs.inside.Folded.{AreTyped, IsStuck}
use Rattle.type_check.proofs.Loops.{all-more-split}
use Rattle.type_check.proofs.Ordering.{from-entries, to-entries, typed-before, upto-typed}

-- what a clause or a rule demands depends on the constants' nodes
pub item-depends : (ns : List Node) (declared : ℕ → Option Polytype) (constants : List ℕ) (e : Entry) → AreNodes ns constants → DependsBelow (length ns) (λ v. HasItemTyping declared (map v constants) (item_of e))
item-depends ns declared constants e nodes = constants-depend ns constants (λ cs. HasItemTyping declared cs (item_of e)) nodes

-- the first that has none
pub stuck : (ns ms ns' : List Node) (declared : ℕ → Option Polytype) (constants : List ℕ) (entries : List Entry) (i : ℕ) (e : Entry) → AreNodes ns constants → i < length entries → e ≡ get_or entries i e
    → IsMostGeneral (node_at ms) → Meets ns ms (AreTyped declared constants (take i entries)) → Demands ms ns' (λ v. HasItemTyping declared (map v constants) (item_of e)) false → IsStuck declared constants ns entries e.place
stuck ns ms ns' declared constants entries i e nodes h is general m d =
    let some = general.some (λ k. word words.Int) in
    record {
      k = i;
      within = h;
      at = λ x. ap (λ y. y.place) (is ∙ get_or_default entries i e x h);
      typed = (some.0, m.back some.0 some.1, m.sound some.0 some.1);
      untyped = λ v s a.
          let parts = all-more-split (λ y. HasItemTyping declared (map v constants) (item_of y)) entries i e h is a in
          let p = m.complete v s parts.0 in
          d p.0 p.1 (item-depends ns declared constants e nodes v p.0 p.2 parts.1);
    }

-- no nodes have each solution
pub solves-none : (v : ℕ → Ty) → Solves (node_at []) v
solves-none v k = tt

-- from types of the constants a solution
start : (count : ℕ) (nodes : List ℕ) (ns : List Node) → Frees [] count nodes ns → (ts : List Ty) → length ts ≡ count → (w : ℕ → Ty) × Solves (node_at ns) w × (map w nodes ≡ ts)
start count nodes ns f ts each = let p = f.on (λ k. word words.Int) ts (solves-none (λ k. word words.Int)) each in (p.0, p.1, p.3)

-- all of them are typed
pub all-typed : (declared : ℕ → Option Polytype) (count : ℕ) (items : List Item) (entries : List Entry) (ns : List Node) (t : Typing) → Frees [] count t.constants.items ns → IsInOrder items entries
    → Meets ns t.graph (AreTyped declared t.constants.items entries) → IsMostGeneral (node_at t.graph) → IsPrincipal declared count items t
all-typed declared count items entries ns t f o m general = record {
  nodes = λ k d h. let b : get_or t.constants.items k d < length ns = f.nodes_in k d h in omega (arith, b, m.longer);
  each = f.each;
  typings = λ v s. record {
    each = length-map t.constants.items v ∙ f.each;
    typed = from-entries items entries (HasItemTyping declared (map v t.constants.items)) o.same (m.sound v s);
  };
  instances = λ ts typing.
      let p = start count t.constants.items ns f ts typing.each in
      let typed = to-entries items entries (HasItemTyping declared (map p.0 t.constants.items)) o.same (subst (λ us. All (HasItemTyping declared us) items) (sym p.2) typing.typed) in
      let q = m.complete p.0 p.1 typed in
      (q.0, q.1, types-below (length ns) t.constants.items p.0 q.0 f.nodes_in q.2 ∙ p.2);
  general = general;
}

-- one of them is not
pub some-untyped : (declared : ℕ → Option Polytype) (count : ℕ) (items : List Item) (entries : List Entry) (ns : List Node) (nodes : List ℕ) (place : Place) → Frees [] count nodes ns → IsInOrder items entries
    → IsStuck declared nodes ns entries place → IsUntypedAt declared count items place
some-untyped declared count items entries ns nodes place f o s = record {
  typed =
      let v = s.typed.0 in (
        map v nodes,
        record {
          each = length-map nodes v ∙ f.each;
          typed = typed-before items entries (HasItemTyping declared (map v nodes)) s.k place o s.within s.at s.typed.2;
        },
      );
  untyped = λ typing.
      let p = start count nodes ns f typing.0 typing.1.each in
      s.untyped p.0 p.1
      (upto-typed items entries (HasItemTyping declared (map p.0 nodes)) s.k place o s.within s.at
      (subst (λ us. All (HasItemTyping declared us) (upto place items)) (sym p.2) typing.1.typed));
}
