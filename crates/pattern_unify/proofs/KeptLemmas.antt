-- What a call keeps that assigns nothing: variables without values, and what later calls do to them.
use Rattle.std.proofs.Common.{◌≡◌, ℕ, ◌<◌, ◌≤◌, List, [], length, length-append, sym, ap, ap₂, ◌∙◌, subst, arith}
use Rattle.level_terms.specs.declared.node.Change.{Change}
use Rattle.level_terms.specs.Graph.{Graph}
use Rattle.level_terms.specs.Growth.{Grows}
use Rattle.level_terms.specs.Sound.{IsSound}
use Rattle.level_terms.proofs.GrowthLemmas.{grows-trans, grows-notes}
use Rattle.level_terms.proofs.ValidLemmas.{growth_keeps_readings}
use Rattle.ref_terms.specs.terms.Term.{Term}
use Rattle.ref_terms.specs.terms.Instance.{inst}
use Rattle.beta_fragment.proofs.MoveLemmas.{assigned-before}
use Rattle.pattern_unify.specs.Bound.{IsOpen, IsBound, LeavesOthers, LeavesFrozen}

-- no node goes
pub grown-nodes : (g h : Graph) (s t : List Change) → Grows g h s t → length g.nodes ≤ length h.nodes
grown-nodes g h s t w = let long = ap length w.nodes ∙ length-append w.new_nodes g.nodes in omega (arith, long)

-- an open variable stays open
pub open-kept : (g h : Graph) (v : ℕ) → Grows g h [] [] → h.depths ≡ g.depths → IsOpen g v → IsOpen h v
open-kept g h v w d o = record { there = subst (λ (ds : List ℕ). v < length ds) (sym d) o.there; free = assigned-before g h w v ∙ o.free }

-- other variables get no values
pub others-grown : (g h : Graph) (v : ℕ) → Grows g h [] [] → LeavesOthers v g h
others-grown g h v w = λ u q. assigned-before g h w u

pub others-after : (f g h : Graph) (v : ℕ) → Grows f g [] [] → LeavesOthers v g h → LeavesOthers v f h
others-after f g h v w k = λ u q. k u q ∙ assigned-before f g w u

-- frozen variables get none
pub frozen-grown : (g h : Graph) (m : ℕ) → Grows g h [] [] → LeavesFrozen m g h
frozen-grown g h m w = λ v l. assigned-before g h w v

pub frozen-trans : (f g h : Graph) (m : ℕ) → LeavesFrozen m f g → LeavesFrozen m g h → LeavesFrozen m f h
frozen-trans f g h m a b = λ v l. b v l ∙ a v l

pub frozen-after : (f g h : Graph) (m : ℕ) → Grows f g [] [] → LeavesFrozen m g h → LeavesFrozen m f h
frozen-after f g h m w k = frozen-trans f g h m (frozen-grown f g m w) k

-- the value that a variable gets is one in the heap before
pub bound-after : (f g h : Graph) (v : ℕ) (value other : Term) → IsSound f → Grows f g [] [] → value ≡ other → IsBound g h v value → IsBound f h v other
bound-after f g h v value other s w e b = λ t env l.
    b t env (let more = grown-nodes f g [] [] w in omega (arith, l, more))
    ∙ ap₂ (inst v) e (growth_keeps_readings f g t env s w l)

-- the notes are those of the later call
pub grows-after : (f g h : Graph) (s t : List Change) → Grows f g [] [] → Grows g h s t → Grows f h s t
grows-after f g h s t w k = grows-trans f g h s s t (grows-notes f g s w) k

-- the notes are those of the earlier call
pub grows-before : (f g h : Graph) (s t : List Change) → Grows f g s t → Grows g h [] [] → Grows f h s t
grows-before f g h s t w k = grows-trans f g h s t t w (grows-notes g h t k)
