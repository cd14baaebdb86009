-- The items of a list, one after the other.
use Rattle.std.proofs.Common.{◌≡◌, ℕ, ◌<◌, List, [], ◌∷◌, ◌++◌, Option, Some, None, refl, sym, ap, ap₂, ◌∙◌, subst, arith, append-nil}
use Rattle.std.proofs.lemmas.List.{map-append}
use Rattle.level_terms.specs.declared.node.TermId.{TermId}
use Rattle.level_terms.specs.Graph.{Graph}
use Rattle.level_terms.specs.Gains.{GainsNodes}
use Rattle.level_terms.specs.Reading.{read}
use Rattle.level_terms.specs.Sound.{IsSound}
use Rattle.level_terms.specs.Valid.{IsValid}
use Rattle.level_terms.proofs.GainLemmas.{gains-trans}
use Rattle.beta_fragment.specs.Names.{names}
use Rattle.beta_fragment.specs.HeadForm.{all_read, AllValidAt}
use Rattle.beta_fragment.proofs.HeadLemmas.{valid-grown_all, read-grown_all}
use Rattle.ref_terms.specs.terms.Term.{Term}
use Rattle.ref_terms.specs.search.Lists.{items_of}
use Rattle.ref_terms.specs.ending.Measure.{size-positive}
use Rattle.sequent_rules.specs.declared.lists.ListForm.{ListForm}
use Rattle.sequent_rules.specs.declared.lists.ListForm.TheVariants.{End, Item, Other}
use Rattle.sequent_rules.specs.inside.Lists.{IsListForm, items_left, after_items, ListFits}
use Rattle.sequent_rules.proofs.ItemLemmas.{form-items, form-fits, form-smaller, form_size, one-more}

-- these are the first items, and the form shows the others
pub record IsListing (old : Graph) (depth : ℕ) (list : TermId) (new : Graph) (items : List TermId) (form : ListForm) : Type 0 where
  pub is : items_of (read old list.index names) ≡ after_items (all_read new items) (items_left new form)
  pub items_valid : AllValidAt new items depth
  pub fits : ListFits new depth form
  pub gains : GainsNodes old new

after-nothing : (o : Option (List Term)) → after_items [] o ≡ o
after-nothing None = refl
after-nothing (Some us) = refl

pub listing-starts : (old new : Graph) (depth : ℕ) (list : TermId) (items : List TermId) (form : ListForm) → items ≡ [] → IsListForm new depth (read old list.index names) form → GainsNodes old new → IsListing old depth list new items form
listing-starts old new depth list items form none is w = record {
  is = form-items new depth (read old list.index names) form is ∙ sym (after-nothing (items_left new form)) ∙ ap (λ ts. after_items (all_read new ts) (items_left new form)) (sym none);
  items_valid = subst (λ ts. AllValidAt new ts depth) (sym none) tt;
  fits = form-fits new depth (read old list.index names) form is;
  gains = w;
}

pub valid-last : (g : Graph) (d : ℕ) (ts : List TermId) (t : TermId) → AllValidAt g ts d → IsValid g t.index d → AllValidAt g (ts ++ t ∷ []) d
valid-last g d [] t v w = (w, tt)
valid-last g d (x ∷ ts) t v w = (v.0, valid-last g d ts t v.1 w)

pub listing-goes : (old m new : Graph) (depth : ℕ) (list : TermId) (items more : List TermId) (form next : ListForm) (item rest : TermId) → IsSound m → IsListing old depth list m items form → form ≡ Item item rest → more ≡ items ++ item ∷ []
    → IsListForm new depth (read m rest.index names) next → GainsNodes m new → IsListing old depth list new more next
listing-goes old m new depth list items more form next item rest s l is last shown w =
    let parts = subst (ListFits m depth) is l.fits in
    let valid = valid-last m depth items item l.items_valid parts.0 in
    let read_all : all_read new (items ++ item ∷ []) ≡ all_read m items ++ read m item.index names ∷ [] =
    read-grown_all m new depth s w.grows (items ++ item ∷ []) valid ∙ map-append (λ t. read m t.index names) items (item ∷ []) in
    record {
      is = l.is ∙ ap (λ x. after_items (all_read m items) (items_left m x)) is
          ∙ one-more (all_read m items) (read m item.index names) (items_of (read m rest.index names))
          ∙ ap₂ after_items (sym read_all) (form-items new depth (read m rest.index names) next shown)
          ∙ ap (λ ts. after_items (all_read new ts) (items_left new next)) (sym last);
      items_valid = subst (λ ts. AllValidAt new ts depth) (sym last) (valid-grown_all m new depth s w.grows (items ++ item ∷ []) valid);
      fits = form-fits new depth (read m rest.index names) next shown;
      gains = gains-trans old m new l.gains w;
    }

pub listing-smaller : (m new : Graph) (depth : ℕ) (form next : ListForm) (item rest : TermId) → form ≡ Item item rest → IsListForm new depth (read m rest.index names) next → form_size new next < form_size m form
listing-smaller m new depth form next item rest is shown =
    let less = form-smaller new depth (read m rest.index names) next shown in
    let some = size-positive (read m item.index names) in
    let whole = ap (form_size m) is in
    omega (arith, less, some, whole)

pub listing-ends : (old m : Graph) (depth : ℕ) (list : TermId) (items : List TermId) (form : ListForm) → IsListing old depth list m items form → form ≡ End → items_of (read old list.index names) ≡ Some (all_read m items)
listing-ends old m depth list items form l is =
    l.is ∙ ap (λ x. after_items (all_read m items) (items_left m x)) is ∙ ap (λ (ts : List Term). Some ts) (append-nil (all_read m items))

pub listing-none : (old m : Graph) (depth : ℕ) (list : TermId) (items : List TermId) (form : ListForm) → IsListing old depth list m items form → form ≡ Other → items_of (read old list.index names) ≡ None
listing-none old m depth list items form l is = l.is ∙ ap (λ x. after_items (all_read m items) (items_left m x)) is
