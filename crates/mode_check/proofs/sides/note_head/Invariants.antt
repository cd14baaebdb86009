use Rattle.std.proofs.Common.{◌≡◌, ℕ, take, nat_eq}
use Rattle.indexmap.specs.IndexMap.{get}
use Rattle.lp_resolve.specs.Heads.{args_of}
use Rattle.mode_check.specs.Sides.{unless_seen}
use Rattle.mode_check.proofs.Sightings.{holds}
use Rattle.mode_check.proofs.sides.note_head.Given as goal

abbrev pub invariant-loop-arg : goal.invariant-loop-arg
invariant-loop-arg l = (v : ℕ) → get nat_eq l.heads v ≡ unless_seen (get nat_eq l.initial.heads v) (holds v (take l.arg-index (args_of l.goal))) l.head
