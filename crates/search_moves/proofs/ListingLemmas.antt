-- The items of a list, one after the other.
use Rattle.std.proofs.Common.{◌≡◌, ℕ, ◌<◌, List, [], ◌∷◌, ◌++◌, Option, Some, None, refl, sym, ap, ap₂, ◌∙◌, subst, arith, append-nil}
use Rattle.std.proofs.lemmas.List.{map-append}
use Rattle.level_terms.specs.declared.node.TermId.{TermId}
use Rattle.level_terms.specs.Graph.{Graph}
use Rattle.level_terms.specs.Reading.{read}
use Rattle.level_terms.specs.Valid.{IsValid}
use Rattle.beta_fragment.specs.Names.{names}
use Rattle.beta_fragment.specs.HeadForm.{all_read, AllValidAt}
use Rattle.ref_terms.specs.terms.Term.{Term}
use Rattle.ref_terms.specs.search.Lists.{items_of}
use Rattle.ref_terms.specs.ending.Measure.{size-positive}
use Rattle.search_moves.specs.declared.frame.Frame.{Frame}
use Rattle.search_moves.specs.declared.suspending.ListForm.{ListForm}
use Rattle.search_moves.specs.declared.suspending.ListForm.TheVariants.{End, Item, Other}
use Rattle.search_moves.specs.Machine.{Machine}
use Rattle.search_moves.specs.Waking.{StaysAt, IsListForm, items_left, after_items, ListFits}
use Rattle.search_moves.proofs.ItemLemmas.{form-items, form-fits, form-smaller, form_size, one-more}

pub stays-trans : (m0 m1 m2 : Machine) (f : Frame) → StaysAt m0 f m1 → StaysAt m1 f m2 → StaysAt m0 f m2
stays-trans m0 m1 m2 f a b = record {
  first = b.first;
  readings = λ i d v. b.readings i d (a.valid i d v) ∙ a.readings i d v;
  valid = λ i d v. b.valid i d (a.valid i d v);
  branch = b.branch ∙ a.branch;
  saved = b.saved ∙ a.saved;
  phase = b.phase ∙ a.phase;
  code = b.code ∙ a.code;
  alternatives = λ p. b.alternatives p ∙ a.alternatives p;
}

-- these are the first items, and the form shows the others
pub record IsListing (old : Machine) (f : Frame) (list : TermId) (new : Machine) (items : List TermId) (form : ListForm) : Type 0 where
  pub is : items_of (read old.world.heap list.index names) ≡ after_items (all_read new.world.heap items) (items_left new.world.heap form)
  pub items_valid : AllValidAt new.world.heap items f.depth
  pub fits : ListFits new.world.heap f.depth form
  pub stays : StaysAt old f new

after-nothing : (o : Option (List Term)) → after_items [] o ≡ o
after-nothing None = refl
after-nothing (Some us) = refl

pub listing-starts : (old new : Machine) (f : Frame) (list : TermId) (items : List TermId) (form : ListForm) → items ≡ [] → IsListForm new.world.heap f.depth (read old.world.heap list.index names) form → StaysAt old f new → IsListing old f list new items form
listing-starts old new f list items form none is stays = record {
  is = form-items new.world.heap f.depth (read old.world.heap list.index names) form is ∙ sym (after-nothing (items_left new.world.heap form)) ∙ ap (λ ts. after_items (all_read new.world.heap ts) (items_left new.world.heap form)) (sym none);
  items_valid = subst (λ ts. AllValidAt new.world.heap ts f.depth) (sym none) tt;
  fits = form-fits new.world.heap f.depth (read old.world.heap list.index names) form is;
  stays = stays;
}

all-kept : (g h : Graph) (d : ℕ) → ((i : ℕ) (k : ℕ) → IsValid g i k → read h i names ≡ read g i names) → (ts : List TermId) → AllValidAt g ts d → all_read h ts ≡ all_read g ts
all-kept g h d e [] v = refl
all-kept g h d e (t ∷ ts) v = ap₂ (λ (x : Term) (xs : List Term). x ∷ xs) (e t.index d v.0) (all-kept g h d e ts v.1)

all-valid_kept : (g h : Graph) (d : ℕ) → ((i : ℕ) (k : ℕ) → IsValid g i k → IsValid h i k) → (ts : List TermId) → AllValidAt g ts d → AllValidAt h ts d
all-valid_kept g h d e [] v = tt
all-valid_kept g h d e (t ∷ ts) v = (e t.index d v.0, all-valid_kept g h d e ts v.1)

valid-last : (g : Graph) (d : ℕ) (ts : List TermId) (t : TermId) → AllValidAt g ts d → IsValid g t.index d → AllValidAt g (ts ++ t ∷ []) d
valid-last g d [] t v w = (w, tt)
valid-last g d (x ∷ ts) t v w = (v.0, valid-last g d ts t v.1 w)

pub listing-goes : (old m new : Machine) (f : Frame) (list : TermId) (items more : List TermId) (form next : ListForm) (item rest : TermId) → IsListing old f list m items form → form ≡ Item item rest → more ≡ items ++ item ∷ []
    → IsListForm new.world.heap f.depth (read m.world.heap rest.index names) next → StaysAt m f new → IsListing old f list new more next
listing-goes old m new f list items more form next item rest l is last shown stays =
    let g = m.world.heap in
    let h = new.world.heap in
    let parts = subst (ListFits g f.depth) is l.fits in
    let valid = valid-last g f.depth items item l.items_valid parts.0 in
    let read_all : all_read h (items ++ item ∷ []) ≡ all_read g items ++ read g item.index names ∷ [] =
    all-kept g h f.depth stays.readings (items ++ item ∷ []) valid ∙ map-append (λ t. read g t.index names) items (item ∷ []) in
    record {
      is = l.is ∙ ap (λ x. after_items (all_read g items) (items_left g x)) is
          ∙ one-more (all_read g items) (read g item.index names) (items_of (read g rest.index names))
          ∙ ap₂ after_items (sym read_all) (form-items h f.depth (read g rest.index names) next shown)
          ∙ ap (λ ts. after_items (all_read h ts) (items_left h next)) (sym last);
      items_valid = subst (λ ts. AllValidAt h ts f.depth) (sym last) (all-valid_kept g h f.depth stays.valid (items ++ item ∷ []) valid);
      fits = form-fits h f.depth (read g rest.index names) next shown;
      stays = stays-trans old m new f l.stays stays;
    }

pub listing-smaller : (m new : Machine) (f : Frame) (form next : ListForm) (item rest : TermId) → form ≡ Item item rest → IsListForm new.world.heap f.depth (read m.world.heap rest.index names) next → form_size new.world.heap next < form_size m.world.heap form
listing-smaller m new f form next item rest is shown =
    let less = form-smaller new.world.heap f.depth (read m.world.heap rest.index names) next shown in
    let some = size-positive (read m.world.heap item.index names) in
    let whole = ap (form_size m.world.heap) is in
    omega (arith, less, some, whole)

pub listing-ends : (old m : Machine) (f : Frame) (list : TermId) (items : List TermId) (form : ListForm) → IsListing old f list m items form → form ≡ End → items_of (read old.world.heap list.index names) ≡ Some (all_read m.world.heap items)
listing-ends old m f list items form l is =
    l.is ∙ ap (λ x. after_items (all_read m.world.heap items) (items_left m.world.heap x)) is ∙ ap (λ (ts : List Term). Some ts) (append-nil (all_read m.world.heap items))

pub listing-none : (old m : Machine) (f : Frame) (list : TermId) (items : List TermId) (form : ListForm) → IsListing old f list m items form → form ≡ Other → items_of (read old.world.heap list.index names) ≡ None
listing-none old m f list items form l is = l.is ∙ ap (λ x. after_items (all_read m.world.heap items) (items_left m.world.heap x)) is
