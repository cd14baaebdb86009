use Rattle.std.proofs.Common.{sym, ap, ◌∙◌, map}
use Rattle.dance_list.proofs.Dances.{last-block, places-fewer}
use Rattle.dance_list.proofs.list.DanceList.drop.Goals as goal

pub loop-n-init : goal.loop-n-init
loop-n-init g c = c.self.invariant.0.places

pub release-requires : goal.release-requires
release-requires g c = last-block c.pop.new.self.items c.in-Some.n c.loop-n.chain.cells.blocks (ap (map (λ m. m.place.ptr)) (sym c.in-Some.ensures.items) ∙ c.loop-n.invariant)

pub loop-n-preserved : goal.loop-n-preserved
loop-n-preserved g c =
    places-fewer c.pop.new.self.items c.in-Some.n c.loop-n.chain.cells.blocks c.release.new.self.blocks c.release.result.value (ap (map (λ m. m.place.ptr)) (sym c.in-Some.ensures.items) ∙ c.loop-n.invariant) c.release.ensures
