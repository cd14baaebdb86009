use Rattle.std.proofs.Common.{◌≡◌, map, take}
use Rattle.level_terms.specs.Graph.{Graph}
use Rattle.suspend.specs.Store.{stored}
use Rattle.eigen_align.specs.Sequents.{sequents_read, AreSequents, bare}
use Rattle.sequent_rules.specs.Branches.{AllSequents}
use Rattle.sequent_rules.specs.inside.Tuples.{tuple_in}
use Rattle.sequent_rules.proofs.heads.sequents_of.Given as goal

abbrev pub invariant-loop-i : goal.invariant-loop-i
invariant-loop-i l = record {
  reads : (g : Graph) → sequents_read g l.sequents.items ≡ map bare (take l.i (tuple_in g l.store l.ids));
  valid : (g : Graph) → AllSequents g (stored l.store) → AreSequents g l.sequents.items;
}
