use Rattle.std.proofs.Common.{reverse, ap, ◌∙◌}
use Rattle.search_moves.specs.Machine.{alternatives_of}
use Rattle.search_moves.proofs.SavedLemmas.{all-kept, all-read-kept}
use Rattle.search_moves.proofs.MachineLemmas.{path-keeps, path-fine}
use Rattle.search_moves.proofs.machine.Machine.choose.Goals as goal

pub invariant_of-self-2 : goal.invariant_of-self-2
invariant_of-self-2 c =
    let w = c.self.inside.stage in
    let w' = c.choose.new.self in
    let saved = reverse c.self.inside.choices in
    record {
      fine = path-fine w w' c.args.c c.self.inside.first c.in_ok-choose.ensures.ok c.self.invariant.fine;
      saved = all-kept w w' saved c.self.invariant.saved (path-keeps w w' c.args.c saved c.in_ok-choose.ensures.ok c.self.invariant.saved);
    }

pub returns-clause-alternatives : goal.returns-clause-alternatives
returns-clause-alternatives c = λ p.
    let w = c.self.inside.stage in
    let w' = c.choose.new.self in
    let saved = reverse c.self.inside.choices in
    all-read-kept p w w' saved c.self.invariant.saved (path-keeps w w' c.args.c saved c.in_ok-choose.ensures.ok c.self.invariant.saved)
    ∙ ap (alternatives_of p) c.self.view_is
