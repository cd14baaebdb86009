use Rattle.std.proofs.Common.{◌≡◌, ℕ, ◌<◌, arith, subst, sym, List}
use Rattle.std.proofs.lemmas.List.{get_or_read}
use Rattle.agenda.specs.inside.Ranks.{IsFirst, node}
use Rattle.agenda.specs.declared.ranks.Entry.{Entry}
use Rattle.agenda.proofs.TreeLemmas.{root-first}
use Rattle.agenda.proofs.ranks.Ranks.first.Goals as goal

pub returns-clause-first : goal.returns-clause-first
returns-clause-first c =
    let positive : 0 < c.self.inside.places = omega arith in
    let read : c.index.result.now ≡ node c.self.inside.nodes.items 1 =
    get_or_read c.self.inside.nodes.items 1 c.index.result.now (omega (arith, c.self.invariant.size)) c.index.ensures (record { rank = 0; place = 0 }) in
    let P : Entry → Type 0 = λ e. IsFirst c.args.self.now e in
    let Q : List ℕ → Type 0 = λ ranks. IsFirst ranks (node c.self.inside.nodes.items 1) in
    subst P (sym read) (subst Q c.self.view_is (root-first c.self.inside.places c.self.inside.nodes.items c.self.invariant positive))
