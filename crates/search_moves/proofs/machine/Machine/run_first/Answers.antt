use Rattle.std.proofs.Common.{◌≡◌, []}
use Rattle.search_moves.specs.World.{chain}
use Rattle.search_moves.specs.Machine.{IsFirst}
use Rattle.search_moves.proofs.GrowLemmas.{match-none}
use Rattle.search_moves.proofs.MoveLemmas.{answered}
use Rattle.search_moves.proofs.machine.Machine.run_first.Goals as goal

pub returns-in-None-clause-moved : goal.returns-in-None-clause-moved
returns-in-None-clause-moved g c = λ p stands known none.
    let m = c.args.self.now in
    let empty = match-none c.in_ok-first.first (chain m.world.frames m.first ≡ []) (IsFirst m) c.in-None.is c.in_ok-first.ensures in
    answered p m c.set_phase.new.self none c.requires.asleep c.requires.running empty c.set_phase.ensures
