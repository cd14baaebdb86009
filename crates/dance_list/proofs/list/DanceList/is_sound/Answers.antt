use Rattle.std.proofs.Common.{map, ◌++◌, subst}
use Rattle.std.specs.List.{All, Contains}
use Rattle.dance_list.specs.Dance.{linked, unlinked, nodes, IsEachOnce}
use Rattle.dance_list.proofs.Once.{once-from-numbers, apart-from-numbered, once-in-either, both-here}
use Rattle.dance_list.proofs.list.DanceList.is_sound.Goals as goal

pub returns-clause-once : goal.returns-clause-once
returns-clause-once g c = let i = c.self.inside in let d = c.self.invariant.0 in subst (λ z. IsEachOnce (nodes z)) c.self.view_is (once-from-numbers i.nodes.items (apart-from-numbered 0 i.nodes.items d.numbered))

pub returns-clause-apart : goal.returns-clause-apart
returns-clause-apart g c = let i = c.self.inside in let d = c.self.invariant.0 in subst (λ z. IsEachOnce (map (λ l. l.0) (linked z) ++ map (λ u. u.0) (unlinked z))) c.self.view_is (once-in-either i.history.linked i.history.unlinked d.apart)

pub returns-clause-known : goal.returns-clause-known
returns-clause-known g c =
    let i = c.self.inside in let d = c.self.invariant.0 in
    subst (λ z. All (Contains (nodes z)) (map (λ l. l.0) (linked z) ++ map (λ u. u.0) (unlinked z))) c.self.view_is (both-here i.chain.cells.blocks i.chain.first i.chain.last i.nodes.items i.history.linked i.history.unlinked d)
