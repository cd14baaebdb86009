-- Heaps that gained nodes alone.
use Rattle.std.proofs.Common.{◌≡◌, ℕ, ◌<◌, ◌≤◌, [], List, ◌∷◌, length, refl, ◌∙◌, sym, ap}
use Rattle.level_terms.specs.declared.node.Node.{Node}
use Rattle.level_terms.specs.declared.node.TermId.{TermId}
use Rattle.level_terms.specs.declared.node.Change.{Change}
use Rattle.level_terms.specs.Graph.{Graph}
use Rattle.level_terms.specs.Sound.{IsSound}
use Rattle.level_terms.specs.Valid.{IsValid}
use Rattle.level_terms.specs.Reading.{read}
use Rattle.level_terms.specs.Growth.{Grows}
use Rattle.level_terms.specs.Gains.{GainsNodes}
use Rattle.level_terms.specs.Values.{value_of}
use Rattle.level_terms.proofs.GrowthLemmas.{grows-refl, grows-node, grows-trans, grows-notes}
use Rattle.level_terms.proofs.ValidLemmas.{growth_keeps_valid}
use Rattle.level_terms.proofs.ReadLemmas.{grown-reads, valid-below}
use Rattle.level_terms.proofs.MakeLemmas.{grown-length, value-kept}

pub gains-refl : (g : Graph) → GainsNodes g g
gains-refl g = record { variables = refl; grows = grows-refl g [] }

pub gains-node : (g h : Graph) (n : Node) → h ≡ record g { nodes = n ∷ g.nodes } → GainsNodes g h
gains-node g h n e = record { variables = λ i. (e i).depths; grows = grows-node g h n e }

pub gains-trans : (f g h : Graph) → GainsNodes f g → GainsNodes g h → GainsNodes f h
gains-trans f g h v w = record { variables = w.variables ∙ v.variables; grows = grows-trans f g h [] [] [] v.grows w.grows }

-- it is a growth whatever was noted
pub gains-grows : (g h : Graph) (noted : List Change) → GainsNodes g h → Grows g h noted noted
gains-grows g h noted w = grows-notes g h noted w.grows

pub gains-length : (g h : Graph) → GainsNodes g h → length g.nodes ≤ length h.nodes
gains-length g h w = grown-length g h w.grows

-- what was valid is valid, and reads as before
pub gains-valid : (g h : Graph) (t depth : ℕ) → IsSound g → GainsNodes g h → IsValid g t depth → IsValid h t depth
gains-valid g h t depth s w v = growth_keeps_valid g h [] [] t depth s w.grows (valid-below g t depth v) v

pub gains-reads : (g h : Graph) → IsSound g → GainsNodes g h → (t : ℕ) → t < length g.nodes → read h t ≡ read g t
gains-reads g h s w t l = grown-reads g h s w.grows t l

pub gains-value : (g h : Graph) → IsSound g → GainsNodes g h → (t : TermId) → t.index < length g.nodes → value_of h t ≡ value_of g t
gains-value g h s w t l = value-kept g h s w.grows t l
