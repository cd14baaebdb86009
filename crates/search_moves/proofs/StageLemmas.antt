-- Frames by their numbers.
use Rattle.std.proofs.Common.{◌≡◌, ℕ, zero, suc, ◌<◌, ◌≤◌, ◌-◌, Bool, true, false, List, [], ◌∷◌, ◌++◌, length, reverse, cond, nat_eq, Option, Some, None, slice_get, refl, sym, ap, ◌∙◌, arith, take, drop, ne_eqb, eqb-true, subst, slice_index_or}
use Rattle.std.proofs.lemmas.List.{reverse-append, reverse-reverse, length-reverse}
use Rattle.level_terms.proofs.UndoLemmas.{reverse-take}
use Rattle.std.proofs.lemmas.Bool.Decides.{nat_tests}
use Rattle.level_terms.specs.Graph.{Graph}
use Rattle.level_terms.specs.Valid.{IsValid}
use Rattle.search_moves.specs.declared.frame.Frame.{Frame}
use Rattle.search_moves.specs.World.{chain, oldest, IsContextAt, AllFrames}
use Rattle.search_moves.proofs.ListLemmas.{chain-append, chain-newest}

-- what is known of a frame by its number
pub record IsFrame (g : Graph) (fs : List Frame) (k : ℕ) (f : Frame) : Type 0 where
  pub goals : chain fs (suc k) ≡ f ∷ chain fs f.next
  pub valid : IsValid g f.term.index f.depth
  pub context : IsContextAt g f.depth f.context
  pub later : f.next ≤ k
  pub there : k < length fs

nat_eq-suc : (a b : ℕ) → nat_eq a b ≡ nat_eq (suc a) (suc b)
nat_eq-suc a b = grind (arith, nat_tests)

pub slice_get-snoc : {A : Type 0} (xs : List A) (x : A) (k : ℕ) → slice_get (xs ++ x ∷ []) k ≡ cond (nat_eq (length xs) k) (Some x) (slice_get xs k)
slice_get-snoc [] x zero = refl
slice_get-snoc [] x (suc k) = rw (ne_eqb 0 (suc k) (omega arith)) refl
slice_get-snoc (y ∷ xs) x zero = rw (ne_eqb (suc (length xs)) 0 (omega arith)) refl
slice_get-snoc (y ∷ xs) x (suc k) = slice_get-snoc xs x k ∙ ap (λ b. cond b (Some x) (slice_get xs k)) (nat_eq-suc (length xs) k)

newest-get : (f : Frame) (older : List Frame) (k : ℕ) → slice_get (reverse (f ∷ older)) k ≡ cond (nat_eq (length older) k) (Some f) (slice_get (reverse older) k)
newest-get f older k =
    ap (λ zs. slice_get zs k) (reverse-append (f ∷ []) older)
    ∙ slice_get-snoc (reverse older) f k
    ∙ ap (λ n. cond (nat_eq n k) (Some f) (slice_get (reverse older) k)) (length-reverse older)

one-older : (x : Frame) (older : List Frame) (n : ℕ) → n ≤ length older → chain (x ∷ older) n ≡ chain older n
one-older x older n h = chain-append (x ∷ []) older n h

pub frame-at : (g : Graph) (fs : List Frame) (k : ℕ) (f : Frame) → AllFrames g fs → slice_get (reverse fs) k ≡ Some f → IsFrame g fs k f
frame-at g [] k f all e = absurd (let z : ◌≡◌ {A = Option Frame} None (Some f) = e in cc)
frame-at g (x ∷ older) k f all e = go (nat_eq (length older) k) refl (sym (newest-get x older k) ∙ e) (λ q. frame-at g older k f all.2 q)
  where
    go : (b : Bool) → nat_eq (length older) k ≡ b → cond b (Some x) (slice_get (reverse older) k) ≡ Some f → (slice_get (reverse older) k ≡ Some f → IsFrame g older k f) → IsFrame g (x ∷ older) k f
    go true q p ih =
        let same : x ≡ f = cc in
        let k-is : length older ≡ k = eqb-true _ _ q in
        let here : chain (x ∷ older) (suc k) ≡ x ∷ chain (x ∷ older) x.next =
        ap (λ n. chain (x ∷ older) (suc n)) (sym k-is) ∙ chain-newest x older ∙ ap (λ (fs : List Frame). x ∷ fs) (sym (one-older x older x.next all.1)) in
        subst (λ z. IsFrame g (x ∷ older) k z) same (record { goals = here; valid = all.0; context = all.3; later = omega (arith, all.1, k-is); there = omega (arith, k-is) })
    go false q p ih =
        let it = ih p in
        let other : nat_eq (length (x ∷ older)) (suc k) ≡ false = sym (nat_eq-suc (length older) k) ∙ q in
        record {
          goals = ap (λ b. cond b (x ∷ chain older x.next) (chain older (suc k))) other ∙ it.goals
              ∙ ap (λ (fs : List Frame). f ∷ fs) (sym (one-older x older f.next (omega (arith, it.later, it.there))));
          valid = it.valid;
          context = it.context;
          later = it.later;
          there = omega (arith, it.there);
        }

get-there : (xs : List Frame) (k : ℕ) (d : Frame) → k < length xs → slice_get xs k ≡ Some (slice_index_or xs k d)
get-there [] k d h = absurd (omega (arith, h))
get-there (x ∷ xs) zero d h = refl
get-there (x ∷ xs) (suc k) d h = get-there xs k d (omega (arith, h))

-- a frame that was read
pub frame-read : (g : Graph) (items fs : List Frame) (first : ℕ) (f : Frame) → reverse items ≡ fs → AllFrames g fs → 0 < first → first ≤ length fs → f ≡ slice_index_or items (first - 1) f → IsFrame g fs (first - 1) f
frame-read g items fs first f e all some there is =
    let long = ap length e in
    let in_range : first - 1 < length items = omega (arith, long, length-reverse items, some, there) in
    let back : reverse fs ≡ items = ap reverse (sym e) ∙ reverse-reverse items in
    frame-at g fs (first - 1) f all (ap (λ zs. slice_get zs (first - 1)) back ∙ get-there items (first - 1) f in_range ∙ ap Some (sym is))

pub reverse-oldest : {A : Type 0} (n : ℕ) (xs : List A) → n ≤ length xs → reverse (take n xs) ≡ oldest n (reverse xs)
reverse-oldest n xs h = reverse-take n xs h ∙ ap (λ k. drop (k - n) (reverse xs)) (sym (length-reverse xs))
