-- A term with its names renamed is the term over joint names.
use Rattle.std.proofs.Common.{◌≡◌, ℕ, zero, suc, List, true, false, refl, sym, ap, ap₂, ◌∙◌}
use Rattle.level_terms.specs.Graph.{Graph}
use Rattle.level_terms.specs.Laws.{ArePlaces}
use Rattle.level_terms.specs.Sound.{IsSound}
use Rattle.level_terms.specs.Reading.{read}
use Rattle.level_terms.proofs.ReadLemmas.{read-built, read-follows, places-ready}
use Rattle.ref_terms.specs.terms.Term.{Term, Lam, At, App, Head, Con, Int, Str, Name, Bound, Var}
use Rattle.ref_terms.specs.terms.Index.{shift, sub, sub_head}
use Rattle.ref_terms.specs.terms.Eta.{lam}
use Rattle.ref_terms.specs.terms.Apply.{apply, below, fill}
use Rattle.ref_terms.specs.terms.Occurs.{is_name, has_name}
use Rattle.ref_terms.specs.lemmas.ComposeLemmas.{fill-sub}
use Rattle.ref_terms.specs.lemmas.NameLemmas.{or_left, or_right, nat_eq_self}
use Rattle.ref_terms.specs.lemmas.OccursLemmas.{fill_at}
use Rattle.ref_terms.specs.search.Joint.{joint_head, over_joint}
use Rattle.beta_fragment.specs.Names.{names, renamed}
use Rattle.beta_fragment.proofs.NamelessLemmas.{nameless-read}

-- heads that are no names
abbrev Agree : (r q : Head → Term) → Type 0
Agree r q = (h : Head) → ((n : ℕ) → is_name n h ≡ false) → r h ≡ q h

below-agree : (r q : Head → Term) → Agree r q → Agree (below r) (below q)
below-agree r q w (Bound zero) e = refl
below-agree r q w (Bound (suc n)) e = ap shift (w (Bound n) (λ m. refl))
below-agree r q w (Con c) e = ap shift (w (Con c) e)
below-agree r q w (Int c) e = ap shift (w (Int c) e)
below-agree r q w (Str c) e = ap shift (w (Str c) e)
below-agree r q w (Name c) e = ap shift (w (Name c) e)
below-agree r q w (Var c) e = ap shift (w (Var c) e)

-- a term without names hangs on these alone
fill-nameless : (r q : Head → Term) → Agree r q → (t : Term) → ((n : ℕ) → has_name n t ≡ false) → fill r t ≡ fill q t
fill-nameless r q w (Lam b) e = ap lam (fill-nameless (below r) (below q) (below-agree r q w) b e)
fill-nameless r q w (At h) e = w h e
fill-nameless r q w (App f a) e = ap₂ apply (fill-nameless r q w f (λ n. or_left (has_name n f) (has_name n a) (e n))) (fill-nameless r q w a (λ n. or_right (has_name n f) (has_name n a) (e n)))

-- levels that stand for indices
abbrev indices : ℕ → Term
indices i = At (Bound i)

indices-places : ArePlaces indices
indices-places i = tt

names-places : ArePlaces names
names-places i = tt

renamed-places : (ns : List ℕ) → ArePlaces (renamed ns)
renamed-places ns i = tt

-- joint names for names, where these are put for indices, are put for indices at once
joint-fits : (ns : List ℕ) (h : Head) → fill (joint_head ns) (sub_head names h) ≡ sub (renamed ns) (joint_head ns h)
joint-fits ns (Con c) = refl
joint-fits ns (Int c) = refl
joint-fits ns (Str c) = refl
joint-fits ns (Name c) = refl
joint-fits ns (Bound c) = refl
joint-fits ns (Var c) = refl

joint-agrees : (ns : List ℕ) → Agree (joint_head ns) (λ h. At h)
joint-agrees ns (Name n) e = absurd (let k : true ≡ false = sym (nat_eq_self n) ∙ e n in cc)
joint-agrees ns (Con c) e = refl
joint-agrees ns (Int c) e = refl
joint-agrees ns (Str c) e = refl
joint-agrees ns (Bound c) e = refl
joint-agrees ns (Var c) e = refl

pub lifted : (g : Graph) (t : ℕ) (ns : List ℕ) → IsSound g → read g t (renamed ns) ≡ over_joint ns (read g t names)
lifted g t ns s =
    sym (read-follows g s t indices (renamed ns) (renamed-places ns))
    ∙ ap (sub (renamed ns)) (sym (fill-nameless (joint_head ns) (λ h. At h) (joint-agrees ns) (read g t indices) (λ n. nameless-read n g t indices (λ i. refl)) ∙ fill_at (read g t indices) (read-built g t indices)))
    ∙ sym (fill-sub (joint_head ns) (joint_head ns) names (renamed ns) (places-ready (renamed ns) (renamed-places ns)) (joint-fits ns) (read g t indices))
    ∙ ap (fill (joint_head ns)) (read-follows g s t indices names names-places)
