-- What the numbers of nodes say of the nodes.
use Rattle.std.proofs.Common.{◌≡◌, ℕ, zero, suc, ◌+◌, ◌<◌, List, [], ◌∷◌, ◌++◌, map, Option, Some, None, refl, sym, ap, ◌∙◌, subst, arith}
use Rattle.std.proofs.lemmas.List.Elements.{All-nil, All-cons, All-append}
use Rattle.std.proofs.lemmas.List.Kept.{AllPairs-cons}
use mathlib.Core.List.{map-append}
use Rattle.std.specs.Prelude.{◌≢◌}
use Rattle.std.specs.List.{All, Contains}
use denote.RawPtr.{Ptr}
use Rattle.dance_list.specs.inside.Blocks.{nth}
use Rattle.dance_list.specs.declared.cells.Node.{Node}
use Rattle.dance_list.specs.declared.chain.Cell.{Cell}
use Rattle.dance_list.specs.Dance.{Unlinked, Has, Run, AllKeep, numbers, kept_numbers, Avoids, Apart, Numbered, IsDance, IsEachOnce}

abbrev number_of : Node → ℕ
number_of n = n.number

differ-from-numbers : (m : Node) (ns : List Node) → Avoids m.number (map number_of ns) → All (λ n. m ≢ n) ns
unfolding Avoids
differ-from-numbers m [] a = All-nil (λ n. m ≢ n)
differ-from-numbers m (n ∷ ns) a = All-cons (λ k. m ≢ k) n ns (λ e. a.0 (ap number_of e)) (differ-from-numbers m ns a.1)

pub once-from-numbers : (ns : List Node) → Apart (map number_of ns) → IsEachOnce ns
unfolding Apart
once-from-numbers [] a = λ i j d p q. absurd (omega (arith, p, q))
once-from-numbers (n ∷ ns) a = AllPairs-cons (λ m k. m ≢ k) n ns (differ-from-numbers n ns a.0) (once-from-numbers ns a.1)

later-numbers : (k j : ℕ) (ns : List Node) → k < j → Numbered j ns → Avoids k (map number_of ns)
unfolding Avoids Numbered
later-numbers k j [] p a = tt
later-numbers k j (n ∷ ns) p a = ((λ e. omega (arith, p, e, a.0)), later-numbers k (suc j) ns (omega (arith, p)) a.1)

pub apart-from-numbered : (k : ℕ) (ns : List Node) → Numbered k ns → Apart (map number_of ns)
unfolding Apart Numbered
apart-from-numbered k [] a = tt
apart-from-numbered k (n ∷ ns) a = (subst (λ z. Avoids z (map number_of ns)) (sym a.0) (later-numbers k (suc k) ns (omega arith) a.1), apart-from-numbered (suc k) ns a.1)

module _ {X : Type 0} where
  linked-numbers : (ls : List (Node × X)) → map number_of (map (λ l. l.0) ls) ≡ numbers ls
  linked-numbers [] = refl
  linked-numbers (l ∷ ls) = ap (λ z. l.0.number ∷ z) (linked-numbers ls)

  unlinked-numbers : (us : List (Unlinked X)) → map number_of (map (λ u. u.0) us) ≡ kept_numbers us
  unlinked-numbers [] = refl
  unlinked-numbers (u ∷ us) = ap (λ z. u.0.number ∷ z) (unlinked-numbers us)

  pub once-in-either : (ls : List (Node × X)) (us : List (Unlinked X)) → Apart (numbers ls ++ kept_numbers us) → IsEachOnce (map (λ l. l.0) ls ++ map (λ u. u.0) us)
  once-in-either ls us a =
      let both = map-append number_of (map (λ l. l.0) ls) (map (λ u. u.0) us) ∙ ap (λ z. z ++ map number_of (map (λ u. u.0) us)) (linked-numbers ls) ∙ ap (λ z. numbers ls ++ z) (unlinked-numbers us) in
      once-from-numbers (map (λ l. l.0) ls ++ map (λ u. u.0) us) (subst Apart (sym both) a)

  node-there : (k i : ℕ) (ns : List Node) (cs : List (Ptr × Cell X)) (n : Node) (c : Cell X) → Numbered k ns → map (λ m. m.place.ptr) ns ≡ map (λ z. z.0) cs → n.number ≡ k + i → nth cs i ≡ Some (n.place.ptr, c) → Contains ns n
  unfolding nth Numbered
  node-there k i ns [] n c a p e h = cc
  node-there k i [] (b ∷ cs) n c a p e h = cc
  node-there k zero (m ∷ ns) (b ∷ cs) n c a p e h =
      let block : ◌≡◌ {A = Ptr × Cell X} b (n.place.ptr, c) = cc in let heads : m.place.ptr ≡ b.0 = cc in let place : m.place.ptr ≡ n.place.ptr = heads ∙ ap (λ z. z.0) block in
      let number : m.number ≡ n.number = omega (arith, a.0, e) in (0, omega arith, λ i. record { place = record { ptr = place i }; number = number i })
  node-there k (suc i) (m ∷ ns) (b ∷ cs) n c a p e h =
      let tails : map (λ m. m.place.ptr) ns ≡ map (λ z. z.0) cs = cc in let r = node-there (suc k) i ns cs n c a.1 tails (omega (arith, e)) h in (suc r.0, omega (arith, r.1), r.2)

  module _ (ns : List Node) (cs : List (Ptr × Cell X)) (a : Numbered 0 ns) (p : map (λ m. m.place.ptr) ns ≡ map (λ z. z.0) cs) where
    here : (n : Node) (c : Cell X) → Has cs n c → Contains ns n
    here n c h = node-there 0 n.number ns cs n c a p (omega arith) h

    linked-here : (before after : Option Node) (ls : List (Node × X)) → Run cs before ls after → All (Contains ns) (map (λ l. l.0) ls)
    unfolding Run
    linked-here before after [] r = All-nil (Contains ns)
    linked-here before after (l ∷ ls) r = All-cons (Contains ns) l.0 (map (λ l. l.0) ls) (here l.0 _ r.0) (linked-here (Some l.0) after ls r.1)

    unlinked-here : (us : List (Unlinked X)) → AllKeep cs us → All (Contains ns) (map (λ u. u.0) us)
    unfolding AllKeep
    unlinked-here [] r = All-nil (Contains ns)
    unlinked-here (u ∷ us) r = All-cons (Contains ns) u.0 (map (λ u. u.0) us) (here u.0 _ r.0) (unlinked-here us r.1)

  pub both-here : (cs : List (Ptr × Cell X)) (first last : Option Node) (ns : List Node) (ls : List (Node × X)) (us : List (Unlinked X)) → IsDance cs first last ns ls us → All (Contains ns) (map (λ l. l.0) ls ++ map (λ u. u.0) us)
  both-here cs first last ns ls us d =
      All-append (Contains ns) (map (λ l. l.0) ls) (map (λ u. u.0) us) (linked-here ns cs d.numbered d.places None None ls d.runs) (unlinked-here ns cs d.numbered d.places us d.keeps)
