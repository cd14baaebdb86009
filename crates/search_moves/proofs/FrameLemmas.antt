-- The frames of goals in a heap that grows.
use Rattle.std.proofs.Common.{◌≡◌, ℕ, zero, suc, Bool, true, false, List, [], ◌∷◌, length, map, cond, nat_eq, refl, ap, ◌∙◌, drop}
use Rattle.level_terms.specs.declared.node.Change.{Change}
use Rattle.level_terms.specs.declared.node.TermId.{TermId}
use Rattle.level_terms.specs.Graph.{Graph}
use Rattle.level_terms.specs.Growth.{Grows}
use Rattle.level_terms.specs.Sound.{IsSound}
use Rattle.level_terms.specs.Valid.{IsValid}
use Rattle.level_terms.proofs.ValidLemmas.{growth_keeps_valid}
use Rattle.beta_fragment.specs.HeadForm.{AllValidAt}
use Rattle.level_terms.proofs.ReadLemmas.{valid-below}
use Rattle.search_moves.specs.declared.frame.Frame.{Frame}
use Rattle.search_moves.specs.World.{oldest, chain, IsContextAt, AllFrames}
use Rattle.search_moves.proofs.OwnLemmas.{context-grown}

pub valid-grown : (g h : Graph) (s t : List Change) (i d : ℕ) → IsSound g → Grows g h s t → IsValid g i d → IsValid h i d
valid-grown g h s t i d sound w v = growth_keeps_valid g h s t i d sound w (valid-below g i d v) v

pub all-valid-grown : (g h : Graph) (s t : List Change) (d : ℕ) → IsSound g → Grows g h s t → (ts : List TermId) → AllValidAt g ts d → AllValidAt h ts d
all-valid-grown g h s t d sound w [] v = tt
all-valid-grown g h s t d sound w (x ∷ xs) v = (valid-grown g h s t x.index d sound w v.0, all-valid-grown g h s t d sound w xs v.1)

pub frames-grown : (g h : Graph) (s t : List Change) → IsSound g → Grows g h s t → (fs : List Frame) → AllFrames g fs → AllFrames h fs
frames-grown g h s t sound w [] v = tt
frames-grown g h s t sound w (f ∷ older) v = (valid-grown g h s t f.term.index f.depth sound w v.0, v.1, frames-grown g h s t sound w older v.2, context-grown g h s t f.depth sound w f.context v.3)

frames-drop : (g : Graph) (k : ℕ) (fs : List Frame) → AllFrames g fs → AllFrames g (drop k fs)
frames-drop g zero fs v = v
frames-drop g (suc k) [] v = tt
frames-drop g (suc k) (f ∷ older) v = frames-drop g k older v.2

pub frames-oldest : (g : Graph) (k : ℕ) (fs : List Frame) → AllFrames g fs → AllFrames g (oldest k fs)
frames-oldest g k fs v = frames-drop g _ fs v

-- two functions that agree on valid frames agree on a list of goals
pub chain-agrees : {A : Type 0} (g : Graph) (x y : Frame → A) → ((f : Frame) → IsValid g f.term.index f.depth → IsContextAt g f.depth f.context → x f ≡ y f) → (fs : List Frame) (n : ℕ) → AllFrames g fs → map x (chain fs n) ≡ map y (chain fs n)
chain-agrees g x y same [] n v = refl
chain-agrees {A} g x y same (f ∷ older) n v = go (nat_eq (length (f ∷ older)) n) (chain-agrees g x y same older f.next v.2) (chain-agrees g x y same older n v.2)
  where
    go : (b : Bool) → map x (chain older f.next) ≡ map y (chain older f.next) → map x (chain older n) ≡ map y (chain older n)
        → map x (cond b (f ∷ chain older f.next) (chain older n)) ≡ map y (cond b (f ∷ chain older f.next) (chain older n))
    go true p q = ap (λ (a : A). a ∷ map x (chain older f.next)) (same f v.0 v.3) ∙ ap (λ (xs : List A). y f ∷ xs) p
    go false p q = q
