use Rattle.std.proofs.Common.{refl, arith}
use Rattle.search_moves.proofs.FireMoves.{no-items, last-there, removing-goes, removing-ends}
use Rattle.search_moves.proofs.machine.Machine.remove_all.Goals as goal

pub loop-id-init : goal.loop-id-init
loop-id-init c = record { removable = c.requires; store = refl; rest = refl; heap = refl; saved = refl; phase = refl; code = refl; alternatives = λ p. refl }

pub remove-requires : goal.remove-requires
remove-requires c = last-there c.args.self.now c.loop-id.self c.args.ids.items c.loop-id.left.items c.pop.new.self.items c.in-Some.id c.loop-id.invariant c.in-Some.ensures.items

pub loop-id-preserved : goal.loop-id-preserved
loop-id-preserved c =
    removing-goes c.args.self.now c.loop-id.self c.remove.new.self c.args.ids.items c.loop-id.left.items c.pop.new.self.items c.in-Some.id c.loop-id.invariant c.in-Some.ensures.items
    c.in_ok-remove.ensures.branch c.remove.ensures.heap c.remove.ensures.saved c.remove.ensures.phase c.remove.ensures.code c.remove.ensures.alternatives

pub returns-clause-branch : goal.returns-clause-branch
returns-clause-branch c =
    let none = no-items c.loop-id.left.items (omega (arith, c.loop-id.left.ok, c.in_default.ensures.cases.0)) in
    removing-ends c.args.self.now c.loop-id.self c.args.ids.items c.loop-id.left.items c.loop-id.invariant none
