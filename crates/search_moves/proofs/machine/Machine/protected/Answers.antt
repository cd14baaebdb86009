use Rattle.std.proofs.Common.{ap, ◌∙◌}
use Rattle.search_moves.specs.Saved.{newest_frames}
use Rattle.search_moves.proofs.MachineLemmas.{newest-is}
use Rattle.search_moves.proofs.machine.Machine.protected.Goals as goal

pub returns-in-Some : goal.returns-in-Some
returns-in-Some c = newest-is c.self.inside.choices c.in-Some.saved.now c.in-Some.ensures.newest ∙ ap (λ m. newest_frames m.saved) c.self.view_is
