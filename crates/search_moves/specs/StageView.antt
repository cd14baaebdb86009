-- What a stage keeps, as contracts see it.
use Rattle.std.specs.Prelude.{reverse}
use Rattle.level_terms.specs.Undo.{IsTrailOf}
use Rattle.search_moves.specs.declared.stage.Stage.TheInside.{Inside}
use Rattle.search_moves.specs.World.{World}

-- the stage, as contracts see it
abbrev pub world_of : Inside → World
world_of s = record { heap = s.heap; frames = reverse s.frames.items; path = reverse s.path.items; log = s.store; query = s.query.items; base = s.base }

-- the trail is the heap's own
pub record IsStage (s : Inside) : Type 0 where
  pub own : IsTrailOf s.heap s.trail.entries
