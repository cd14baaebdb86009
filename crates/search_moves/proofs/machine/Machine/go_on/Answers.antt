use Rattle.std.proofs.Common.{◌≡◌, List, [], ◌∷◌, sym, ◌∙◌}
use Rattle.search_moves.specs.declared.frame.Frame.{Frame}
use Rattle.search_moves.specs.World.{chain}
use Rattle.search_moves.specs.Machine.{IsFirst}
use Rattle.search_moves.proofs.GrowLemmas.{match-some, match-none}
use Rattle.search_moves.proofs.EnterLemmas.{left-head}
use Rattle.search_moves.proofs.machine.Machine.go_on.Goals as goal

pub go_on_at-requires-clause-first : goal.go_on_at-requires-clause-first
go_on_at-requires-clause-first g c =
    let m = c.args.self.now in
    match-some c.in_ok-first.first (chain m.world.frames m.first ≡ []) (IsFirst m) c.in-Some.goal c.in-Some.is c.in_ok-first.ensures

pub go_on_at-requires-clause-head : goal.go_on_at-requires-clause-head
go_on_at-requires-clause-head g c =
    let m = c.args.self.now in
    let first = match-some c.in_ok-first.first (chain m.world.frames m.first ≡ []) (IsFirst m) c.in-Some.goal c.in-Some.is c.in_ok-first.ensures in
    (left-head m c.in-Some.goal c.args.c c.args.later.now first c.requires.left).0

pub go_on_at-requires-clause-left : goal.go_on_at-requires-clause-left
go_on_at-requires-clause-left g c =
    let m = c.args.self.now in
    let first = match-some c.in_ok-first.first (chain m.world.frames m.first ≡ []) (IsFirst m) c.in-Some.goal c.in-Some.is c.in_ok-first.ensures in
    (left-head m c.in-Some.goal c.args.c c.args.later.now first c.requires.left).1

pub unreachable-requires : goal.unreachable-requires
unreachable-requires g c =
    let m = c.args.self.now in
    let empty = match-none c.in_ok-first.first (chain m.world.frames m.first ≡ []) (IsFirst m) c.in-None.is c.in_ok-first.ensures in
    let none : ◌≡◌ {A = List Frame} [] (c.requires.left.frame ∷ chain m.world.frames c.requires.left.frame.next) = sym empty ∙ c.requires.left.goals in
    cc
