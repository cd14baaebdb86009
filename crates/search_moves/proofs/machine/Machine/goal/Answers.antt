use Rattle.std.proofs.Common.{sym, ap, ◌∙◌}
use Rattle.search_moves.specs.World.{chain}
use Rattle.search_moves.proofs.ListLemmas.{chain-none}
use Rattle.search_moves.proofs.machine.Machine.goal.Goals as goal

pub returns-then-self-eq0 : goal.returns-then-self-eq0
returns-then-self-eq0 c =
    ap (λ m. chain m.world.frames m.first) (sym c.self.view_is)
    ∙ ap (chain c.self.inside.stage.frames) c.if-self-eq0.true ∙ chain-none c.self.inside.stage.frames
