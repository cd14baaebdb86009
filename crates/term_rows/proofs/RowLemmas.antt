-- What a call leaves of terms, and going back to a mark before it.
use Rattle.std.proofs.Common.{◌≡◌, ℕ, List, [], ap, ◌∙◌}
use Rattle.level_terms.specs.declared.node.Change.{Change}
use Rattle.level_terms.specs.declared.node.HeapMark.{HeapMark}
use Rattle.level_terms.specs.Graph.{Graph}
use Rattle.level_terms.specs.Growth.{Grows}
use Rattle.level_terms.specs.Sound.{IsSound}
use Rattle.level_terms.specs.Undo.{undone, mark_of, CanUndo}
use Rattle.level_terms.specs.Valid.{IsValid}
use Rattle.level_terms.proofs.GrowthLemmas.{grows-notes, grows-trans, ignores_growth, undo_now}
use Rattle.level_terms.proofs.ValidLemmas.{growth_keeps_valid}
use Rattle.level_terms.proofs.ReadLemmas.{valid-below}

-- a valid node stays so
pub stays-valid : (g h : Graph) (r s : List Change) (t d : ℕ) → IsSound g → Grows g h r s → IsValid g t d → IsValid h t d
stays-valid g h r s t d sound w v = growth_keeps_valid g h r s t d sound w (valid-below g t d v) v

-- a call that notes nothing, after another one
pub grows-before : (f g h : Graph) (r s : List Change) → Grows f g r s → Grows g h [] [] → Grows f h r s
grows-before f g h r s v w = grows-trans f g h r s s v (grows-notes g h s w)

-- after undoing to a mark the heap is what it was
pub goes-back : (g h k : Graph) (m : HeapMark) (s t : List Change) → m ≡ mark_of g → CanUndo m g s → Grows g h s t → k ≡ undone m h → k ≡ g
goes-back g h k m s t e can w is = is ∙ ignores_growth g h s t m w can.within ∙ ap (λ (n : HeapMark). undone n g) e ∙ undo_now g
