-- Demands of a list of things, one after another.
use Rattle.std.proofs.Common.{◌≡◌, ◌∙◌, ℕ, ◌+◌, ◌<◌, ◌≤◌, List, [], ◌∷◌, ◌++◌, length, take, get_or, All, Bool, false, Some, ap, sym, subst, refl}
use Rattle.std.proofs.lemmas.List.{take_more, take_all}
use Rattle.std.proofs.lemmas.List.Elements.{All-nil, All-pop, All-push, All-take}
use Rattle.type_graph.specs.declared.node.Node.{Node}
use Rattle.type_graph.specs.Types.{Ty}
use Rattle.type_terms.specs.Demands.{Meets, Demands}
use Rattle.type_terms.proofs.CallerLemmas.{DependsBelow, meets-nothing, demands-both, demands-part}

-- a list with one more element
take-more : {A : Type 0} (xs : List A) (i : ℕ) (x : A) → i < length xs → x ≡ get_or xs i x → take (i + 1) xs ≡ take i xs ++ x ∷ []
take-more xs i x h e = take_more xs i x h ∙ ap (λ y. take i xs ++ y ∷ []) (sym e)

pub all-more-split : {A : Type 0} (Q : A → Type 0) (xs : List A) (i : ℕ) (x : A) → i < length xs → x ≡ get_or xs i x → All Q (take (i + 1) xs) → All Q (take i xs) × Q x
all-more-split Q xs i x h e a = All-pop Q (take i xs ++ x ∷ []) (take i xs) (Some x) refl (subst (All Q) (take-more xs i x h e) a)

pub all-more-join : {A : Type 0} (Q : A → Type 0) (xs : List A) (i : ℕ) (x : A) → i < length xs → x ≡ get_or xs i x → All Q (take i xs) → Q x → All Q (take (i + 1) xs)
all-more-join Q xs i x h e a q = subst (All Q) (sym (take-more xs i x h e)) (All-push Q (take i xs) x a q)

-- nothing is demanded yet
pub none-demanded : {A : Type 0} (ns : List Node) (P : A → (ℕ → Ty) → Type 0) (xs : List A) → Meets ns ns (λ v. All (λ x. P x v) (take 0 xs))
none-demanded ns P xs = meets-nothing ns (λ v. All (λ x. P x v) (take 0 xs)) (λ v. All-nil (λ x. P x v))

-- one more
pub next-demanded : {A : Type 0} (ns ms ns' : List Node) (P : A → (ℕ → Ty) → Type 0) (xs : List A) (i : ℕ) (x : A) (b : Bool) → i < length xs → x ≡ get_or xs i x → DependsBelow (length ns) (P x)
    → Meets ns ms (λ v. All (λ y. P y v) (take i xs)) → Demands ms ns' (P x) b → Demands ns ns' (λ v. All (λ y. P y v) (take (i + 1) xs)) b
next-demanded ns ms ns' P xs i x b h e depends m d =
    demands-both ns ms ns' (λ v. All (λ y. P y v) (take i xs)) (P x) (λ v. All (λ y. P y v) (take (i + 1) xs)) b depends
    (λ v a. all-more-split (λ y. P y v) xs i x h e a) (λ v a p. all-more-join (λ y. P y v) xs i x h e a p) m d

-- all of them
pub all-demanded : {A : Type 0} (ns ns' : List Node) (P : A → (ℕ → Ty) → Type 0) (xs : List A) (i : ℕ) → length xs ≤ i → Meets ns ns' (λ v. All (λ x. P x v) (take i xs)) → Meets ns ns' (λ v. All (λ x. P x v) xs)
all-demanded ns ns' P xs i h m = subst (λ ys. Meets ns ns' (λ v. All (λ x. P x v) ys)) (take_all i xs h) m

-- one that can't be met
pub all-refused : {A : Type 0} (ns ms ns' : List Node) (P : A → (ℕ → Ty) → Type 0) (xs : List A) (i : ℕ) (x : A) → i < length xs → x ≡ get_or xs i x → DependsBelow (length ns) (P x)
    → Meets ns ms (λ v. All (λ y. P y v) (take i xs)) → Demands ms ns' (P x) false → Demands ns ns' (λ v. All (λ y. P y v) xs) false
all-refused ns ms ns' P xs i x h e depends m d =
    demands-part ns ns' (λ v. All (λ y. P y v) (take (i + 1) xs)) (λ v. All (λ y. P y v) xs) (λ v a. All-take (λ y. P y v) (i + 1) xs a)
    (next-demanded ns ms ns' P xs i x false h e depends m d)
