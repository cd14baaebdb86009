-- Names that a list renames.
use Rattle.std.proofs.Common.{◌≡◌, ℕ, zero, suc, ◌<◌, ◌≤◌, ◌-◌, ◌+◌, List, [], ◌∷◌, length, take, slice_index, cond, refl, ap, ◌∙◌, arith, sym}
use Rattle.level_terms.specs.Graph.{Graph}
use Rattle.level_terms.specs.Reached.{tree, reaches}
use Rattle.level_terms.specs.Valid.{valid, IsValid}
use Rattle.level_terms.proofs.ValidLemmas.{valid_deeper}
use Rattle.level_terms.specs.Reading.{read}
use Rattle.level_terms.proofs.LocalLemmas.{readings_local}
use Rattle.ref_terms.specs.terms.Term.{Term}
use Rattle.beta_fragment.specs.Names.{names, renamed, AllBelow}
use Rattle.level_terms.specs.Values.{Value}
use Rattle.beta_fragment.specs.Moves.{Moves, moved, IsMove}
use Rattle.beta_fragment.proofs.EnterLemmas.{names-places}
use Rattle.level_terms.proofs.MakeLemmas.{below_true}

take-long : (ns : List ℕ) (n : ℕ) → n ≤ length ns → length (take n ns) ≡ n
take-long ns zero h = refl
take-long [] (suc n) h = absurd (omega (arith, h))
take-long (x ∷ ns) (suc n) h = ap suc (take-long ns n (omega (arith, h)))

take-index : (ns : List ℕ) (n i : ℕ) → i < n → slice_index (take n ns) i ≡ slice_index ns i
take-index ns zero i h = absurd (omega (arith, h))
take-index [] (suc n) i h = refl
take-index (x ∷ ns) (suc n) zero h = refl
take-index (x ∷ ns) (suc n) (suc i) h = take-index ns n i (omega (arith, h))

pub names-moved : (g : Graph) (ns : List ℕ) (n to t : ℕ) (x : Value) → n ≤ length ns → IsValid g t n → Moves g (take n ns) to t (length (take n ns)) (length (take n ns)) x → x.term names ≡ read g t (renamed ns)
names-moved g ns n to t x few valid m = m.term names names-places ∙ readings_local g t n (moved (take n ns) (length (take n ns)) to names) (renamed ns) valid same
  where
    same : (i : ℕ) → i < n → moved (take n ns) (length (take n ns)) to names i ≡ renamed ns i
    same i h =
        let long = take-long ns n few in
        ap names (ap (λ b. cond b (slice_index (take n ns) i) (i - length (take n ns) + to)) (below_true i (length (take n ns)) (omega (arith, h, long))) ∙ take-index ns n i h)

-- the names that stay, from the first one on, lie below whatever all names do
stay-low : (ns : List ℕ) (fixed to : ℕ) → fixed ≤ length ns → ((i : ℕ) → i < fixed → slice_index ns i ≡ i) → AllBelow ns to → fixed ≤ to
stay-low ns zero to few stay below = omega arith
stay-low ns (suc n) to few stay below =
    let same = stay n (omega arith) in
    let low = below n (omega (arith, few)) in
    omega (arith, same, low)

pub lift-move : (ns : List ℕ) (n fixed to : ℕ) → n ≤ length ns → fixed ≤ length (take n ns) → ((i : ℕ) → i < fixed → slice_index (take n ns) i ≡ i) → AllBelow ns to → IsMove (take n ns) fixed to
lift-move ns n fixed to all few stay below =
    let long = take-long ns n all in
    let front : AllBelow (take n ns) to = λ i k. let e = take-index ns n i (omega (arith, k, long)) in let b = below i (omega (arith, k, long, all)) in omega (arith, e, b) in
    record { below = front; few = few; low = stay-low (take n ns) fixed to few stay front; stay = stay }

-- a node all of whose levels stay
pub all-stay : (g : Graph) (ns : List ℕ) (fixed to t : ℕ) → IsMove ns fixed to → fixed ≡ length ns → IsValid g t (length ns) → Moves g ns to t (length ns) (length ns) (record { term = read g t; holds = valid g.nodes g.depths t; reached = λ v. reaches v (tree g t) })
all-stay g ns fixed to t m all v = record {
  term = λ env p. readings_local g t (length ns) env (moved ns (length ns) to env) v (λ i k. same env i k);
  holds = λ e le. let low = m.low in valid_deeper g t (length ns) e v (omega (arith, le, all, low));
}
  where
    same : (env : ℕ → Term) (i : ℕ) → i < length ns → env i ≡ moved ns (length ns) to env i
    same env i k = ap env (sym (ap (λ b. cond b (slice_index ns i) (i - length ns + to)) (below_true i (length ns) k) ∙ m.stay i (omega (arith, k, all))))
